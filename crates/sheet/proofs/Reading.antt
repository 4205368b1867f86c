-- What reading a row answers and leaves. Assumes nothing.
use Rattle.std.proofs.Common.{◌≡◌, ℕ, ◌-◌, ◌<◌, ◌≤◌, true, false, ◌&&◌, leb, List, [], ◌++◌, length, get_or, take, drop, Ok, Err, sym, refl, ap, ◌∙◌, inl, inr, arith}
use Rattle.std.proofs.Props.{props}
use Rattle.std.proofs.Math.Logic.{∥∥₁_elim}
use Rattle.std.proofs.lemmas.List.{length-map, get_or-map, length-take-le}
use Rattle.std.proofs.lemmas.Bool.{cases_Bool, and_parts, and_from, leb-true, le-leb, lt-ltb, le-ltb}
use Rattle.ledger.specs.declared.Ledger.{Ghosts as Kind}
use Rattle.ledger.specs.declared.fault.LedgerFault.{LedgerFault}
use Rattle.ledger.specs.declared.fault.LedgerFault.TheVariants.{NoRow}
use Rattle.ledger.specs.Calls.{Held}
use Rattle.sheet.specs.declared.fault.SheetFault.TheVariants.{ListTooShort, Ledger}
use Rattle.sheet.specs.declared.sheets.ClosedSheet.{ClosedSheet}
use Rattle.sheet.specs.Sheets.{closed_list, ReadRow}

module _ {L : Type 0} {k : Kind L} (c : ClosedSheet L k) (i : ℕ) (out : List ℕ) where
  many : length (closed_list c) ≡ length (k.rows c.rows)
  many = length-map (k.rows c.rows) (take c.steps.n)

  not_held : (Held i (k.rows c.rows) → ⊥) → (leb 1 i && leb i (length (closed_list c))) ≡ false
  not_held h = elim (cases_Bool (leb 1 i && leb i (length (closed_list c)))) [
    | inl t ↦ let both = and_parts (leb 1 i) (leb i (length (closed_list c))) t in
        absurd (h (leb-true 1 i both.0, omega (arith, many, leb-true i (length (closed_list c)) both.1)))
    | inr f ↦ f
  ]

  held : Held i (k.rows c.rows) → (leb 1 i && leb i (length (closed_list c))) ≡ true
  held h = and_from (leb 1 i) (leb i (length (closed_list c))) (le-leb 1 i h.0) (le-leb i (length (closed_list c)) (omega (arith, many, h.1)))

  -- the row is not held
  pub read_none : (fault : LedgerFault) → (k.orderly c.rows → (fault ≡ NoRow) × (Held i (k.rows c.rows) → ⊥)) → ReadRow c i out (Err (Ledger fault)) out
  read_none fault told =
      let h : (fault ≡ NoRow) × (Held i (k.rows c.rows) → ⊥) = ∥∥₁_elim c.held.order (hlevel props) told in
      record { answered = rw (h.0, not_held h.1) refl; left = refl }

  module _ (row : List ℕ) (told : k.orderly c.rows → Held i (k.rows c.rows) × (row ≡ get_or (k.rows c.rows) (i - 1) [])) where
    there : Held i (k.rows c.rows) × (row ≡ get_or (k.rows c.rows) (i - 1) [])
    there = ∥∥₁_elim c.held.order (hlevel props) told

    -- the list is too short for it
    pub read_short : length out < c.steps.n → ReadRow c i out (Err ListTooShort) out
    read_short few = record { answered = rw (held there.0, lt-ltb (length out) c.steps.n few) refl; left = refl }

    -- the row stands in front
    pub read_whole : (out' : List ℕ) → c.steps.n ≤ length row → c.steps.n ≤ length out → out' ≡ take c.steps.n row ++ drop c.steps.n out → ReadRow c i out (Ok tt) out'
    read_whole out' wide room is =
        let below : i - 1 < length (k.rows c.rows) = omega (arith, there.0.0, there.0.1) in
        let same : take c.steps.n row ≡ get_or (closed_list c) (i - 1) [] =
        ap (λ (x : List ℕ). take c.steps.n x) there.1 ∙ sym (get_or-map (take c.steps.n) (k.rows c.rows) (i - 1) [] [] below) in
        let long : c.steps.n ≡ length (get_or (closed_list c) (i - 1) []) = sym (length-take-le c.steps.n row wide) ∙ ap (λ (x : List ℕ). length x) same in
        record {
          answered = rw (held there.0, le-ltb (length out) c.steps.n room) refl;
          left = is ∙ ap (λ (x : List ℕ). x ++ drop c.steps.n out) same ∙ ap (λ (m : ℕ). get_or (closed_list c) (i - 1) [] ++ drop m out) long;
        }
