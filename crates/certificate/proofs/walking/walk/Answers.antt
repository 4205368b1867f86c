use Rattle.std.proofs.Common.{◌+◌, ◌∙◌, sym, subst, arith}
use Rattle.certificate.specs.Walked.{Tells}
use Rattle.certificate.proofs.Passing.{Passing, begun_passing, pass_over, pass_end, pass_by, pass_ends, pass_on, held_row}
use Rattle.certificate.proofs.walking.walk.Goals as goal
use Rattle.certificate.proofs.walking.walk.Goals.{then-takes+in_ok-take, else-takes}

pub loop-i-init : goal.loop-i-init
loop-i-init g c o = begun_passing _ _ _ c.begin-walk.ensures

pub returns-then-is_done : goal.returns-then-is_done
returns-then-is_done g c o = pass_over _ _ _ _ (c.loop-i.invariant o) (sym c.if-is_done.ensures)

pub returns-in_err-take : goal.returns-in_err-take
returns-in_err-take g c o =
    let row = held_row (g.L.Ledger.rows c.args.rows.now) c.loop-i.i c.read.result c.in_ok-row.row (c.read.ensures o) (sym c.ok.ensures.value ∙ c.in_ok-row.was) in
    subst (Tells (g.L.Ledger.rows c.args.rows.now) c.args.question.now.counts) (sym c.from_residual-in_err-take.ensures)
    (pass_ends _ _ _ _ (c.loop-i.invariant o) _ row.1 row.0 (sym c.if-is_done.ensures) (sym c.if-takes.ensures) c.in_err-take.ensures)

pub loop-i-preserved : goal.loop-i-preserved
loop-i-preserved g c o =
    let row = held_row (g.L.Ledger.rows c.args.rows.now) c.loop-i.i c.read.result c.in_ok-row.row (c.read.ensures o) (sym c.ok.ensures.value ∙ c.in_ok-row.was) in
    let Passed = Passing (g.L.Ledger.rows c.args.rows.now) c.args.question.now.counts (c.loop-i.i + 1) in
    elim c.if-takes.branch [
      | then-takes+in_ok-take w ↦
          subst Passed (sym w.walk-is)
          (pass_on _ _ _ _ (c.loop-i.invariant o) _ row.1 row.0 (sym c.if-is_done.ensures) (sym w.if-takes.ensures) _ w.in_ok-take.ensures)
      | else-takes w ↦ subst Passed (sym w.walk-is) (pass_by _ _ _ _ (c.loop-i.invariant o) _ row.1 (sym w.if-takes.ensures))
    ]

pub returns : goal.returns
returns g c o =
    let n = c.len-count.ensures o in
    subst (Tells (g.L.Ledger.rows c.args.rows.now) c.args.question.now.counts) (sym c.then_some.ensures)
    (pass_end _ _ _ _ (c.loop-i.invariant o) (omega (arith, n)) _ c.is_done-2.ensures)
