use Rattle.std.proofs.Common.{◌≡◌, List, sym, subst}
use Rattle.std.proofs.lemmas.Result.{err_from_is_err_and}
use Rattle.cycle_theory.specs.Nets.{Counts, Mem, Ascending}
use Rattle.method.specs.Building.{Room, Filled}
use Rattle.method.proofs.Filling.{filled_still, filled_more}
use Rattle.method.proofs.build.add.Goals as goal

pub returns-in_err-room : goal.returns-in_err-room
returns-in_err-room g c =
    let p = err_from_is_err_and c.from_residual.result c.from_residual.ensures.1 in
    rw (p.1, p.2) (record {
      order = λ o. o;
      filled = λ made o asc new filled.
          filled_still g.L.Ledger c.args.held.now.row.counts made new c.args.spare.now c.args.spare.now _
          (subst (λ (r : Room). Filled g.L.Ledger made c.args.spare.now r) c.in_err-room.was filled);
    })

pub returns : goal.returns
returns g c = record {
  order = c.put.ensures.order;
  filled = λ made o asc new filled.
      let x = c.args.held.now.row.counts in
      let e : g.L.Ledger.rows c.args.spare.now ≡ made = subst (λ (r : Room). Filled g.L.Ledger made c.args.spare.now r) c.in_ok-room.was filled in
      filled_more g.L.Ledger x made new c.args.spare.now c.put.new.rows e c.put.result
      (c.put.ensures.put o (subst Ascending (sym e) asc) (λ m. new (subst (λ (l : List Counts). Mem x l) e m)));
}
