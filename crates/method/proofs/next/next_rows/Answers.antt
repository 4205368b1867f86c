use Rattle.std.proofs.Common.{[], ◌∷◌, ◌++◌, sym}
use Rattle.cycle_theory.specs.Method.{tss}
use Rattle.method.specs.Places.{effects_of}
use Rattle.method.proofs.Answering.{rows_short, ended_wide, made_kept, made_emptied}
use Rattle.method.proofs.next.next_rows.Goals as goal

pub returns-then-is_err : goal.returns-then-is_err
returns-then-is_err g c n places few oc is os empty =
    let p = effects_of c.args.place.now in
    let spare = c.build-answer.new.spare in
    made_emptied g.L.Ledger (tss n (places ++ p ∷ [])) (rows_short n few (places ++ p ∷ [])) spare (λ o. (g.met.L.Ledger.kept spare o).fits)
    c.clear.new.self c.clear.ensures.order c.clear.ensures.empty c.build-answer.result (sym c.if-is_err.ensures.value)
    (ended_wide n few places g.L.Ledger p c.args.current.now c.args.spare.now spare c.build-answer.result c.build-answer.ensures oc is os empty)

pub returns-else-is_err : goal.returns-else-is_err
returns-else-is_err g c n places few oc is os empty =
    let p = effects_of c.args.place.now in
    let spare = c.build-answer.new.spare in
    made_kept g.L.Ledger (tss n (places ++ p ∷ [])) (rows_short n few (places ++ p ∷ [])) spare (λ o. (g.met.L.Ledger.kept spare o).fits)
    c.build-answer.result (sym c.if-is_err.ensures.value)
    (ended_wide n few places g.L.Ledger p c.args.current.now c.args.spare.now spare c.build-answer.result c.build-answer.ensures oc is os empty)
