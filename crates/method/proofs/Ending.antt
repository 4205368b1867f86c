-- What stands when the last pair is done is the answer.
use Rattle.std.proofs.Common.{◌≡◌, ℕ, ◌<◌, List, length, ℤ, Ok, Err, sum_by, sym, ◌∙◌, subst}
use Rattle.cycle_theory.specs.Nets.{Counts, Mem, Ascending}
use Rattle.cycle_theory.specs.Method.{step}
use Rattle.cycle_theory.specs.Flows.{Flow, Cover}
use Rattle.ledger.specs.declared.Ledger.{Ghosts as Kind}
use Rattle.ledger.specs.declared.fault.LedgerFault.{LedgerFault}
use Rattle.ledger.specs.Rows.{Small}
use Rattle.method.specs.declared.fault.StepFault.TheVariants.{Ledger}
use Rattle.method.specs.Building.{Room, SoFar, Filled, Grown, Ended}
use Rattle.method.proofs.Growing.{made_is_step}

module _ {L : Type 0} (kind : Kind L) (A : List Flow) (rows : List Counts) (cover : Cover 24 A rows) (asc : Ascending rows) (p : List ℤ) (n : ℕ) (many : n ≡ length rows) (spare : L) (room : Room) (g : Grown kind (SoFar p rows n 0) spare room) where
  is_step : g.made ≡ step p rows
  is_step = made_is_step A rows cover asc p n many g.made g.ascending g.exactly

  small : (w : Counts) → Mem w (step p rows) → Small w
  small w m = g.small w (subst (λ (l : List Counts). Mem w l) (sym is_step) m)

  pub ended_full : (e : LedgerFault) → room ≡ Err e → Ended kind (step p rows) spare (Err (Ledger e))
  ended_full e is =
      let f : Filled kind g.made spare (Err e) = subst (λ (r : Room). Filled kind g.made spare r) is g.filled in
      (f.0, small, subst (λ (l : List Counts). kind.TOTAL < sum_by kind.charge l) is_step f.1)

  pub ended_ok : room ≡ Ok tt → Ended kind (step p rows) spare (Ok tt)
  ended_ok is =
      let f : kind.rows spare ≡ g.made = subst (λ (r : Room). Filled kind g.made spare r) is g.filled in
      (g.order, small, f ∙ is_step)
