-- What the calls on a sheet do. Each relation stands in the contract of one call, and those of an open sheet also in the history of a sheet (Runs).
-- A sheet is of a kind k: what its ledgers state of themselves. Its type says what its ledgers hold (Held).
--
--   steps_of s, places_of s    how many steps an open sheet has, and its accepted places, in the order in which they came
--   Opened n s                 opening a sheet of n steps gave s
--   Offered s p answer t       offering the place p to s was answered so, and left t
--   Told s count               asked for its number of rows, s told this
--   places_in c                the places of a closed sheet, in the order in which they came
--   closed_list c              its rows from first to last, each as n counts
--   Closed s c                 closing s gave c
--   Counted c count            asked for its number of rows, the closed sheet c told this
--   reading rows n k out       what reading row k into the list `out` answers, of these rows of n counts
--   out_after row out answer   the list after that answer: the row in front and the rest as it was, or all as it was
--   ReadRow c i out answer out'  reading row i of c into `out` was answered so, and left out'
--   Compared a b answer        comparing a and b was answered so
use Rattle.std.specs.Prelude.{◌≡◌, ℕ, ◌-◌, not, ◌&&◌, ◌↔◌, List, [], ◌∷◌, ◌++◌, map, length, take, drop, Ok, Err, nat_le, nat_lt, slice_index_or}
use Rattle.ledger.specs.declared.Ledger.{Ghosts as Kind}
use Rattle.ledger.specs.declared.fault.LedgerFault.TheVariants.{NoRow}
use Rattle.cycle_theory.specs.Nets.{Counts, Place}
use Rattle.cycle_theory.specs.Method.{tss}
use Rattle.sheet.specs.declared.fault.SheetFault.{SheetFault}
use Rattle.sheet.specs.declared.fault.SheetFault.TheVariants.{ListTooShort, Ledger}
use Rattle.sheet.specs.declared.sheets.OpenSheet.{OpenSheet}
use Rattle.sheet.specs.declared.sheets.ClosedSheet.{ClosedSheet}
use Rattle.sheet.specs.declared.comparing.Comparison.{Comparison}
use Rattle.sheet.specs.declared.comparing.Comparison.TheVariants.{Same}
use Rattle.sheet.specs.Held.{effects_in}
use Rattle.sheet.specs.Verdict.{Outcome, cause, first_of, verdict, places_after}

abbrev pub steps_of : {L : Type 0} {k : Kind L} → OpenSheet L k → ℕ
steps_of s = s.steps.n

abbrev pub places_of : {L : Type 0} {k : Kind L} → OpenSheet L k → List Place
places_of s = effects_in s.places

pub record Opened {L : Type 0} {k : Kind L} (n : ℕ) (s : OpenSheet L k) : Type 0 where
  pub steps : steps_of s ≡ n
  pub places : places_of s ≡ []

pub record Offered {L : Type 0} {k : Kind L} (before : OpenSheet L k) (p : Place) (answer : Outcome) (after : OpenSheet L k) : Type 0 where
  pub steps : steps_of after ≡ steps_of before
  pub answered : answer ≡ verdict k (steps_of before) (places_of before) p
  pub places : places_of after ≡ places_after (places_of before) p answer
  -- a refused place leaves the very ledger that held the rows
  pub refused : (fault : SheetFault) → answer ≡ Err fault → after.current ≡ before.current

abbrev pub Told : {L : Type 0} {k : Kind L} → OpenSheet L k → ℕ → Type 0
Told s count = count ≡ length (tss (steps_of s) (places_of s))

abbrev pub places_in : {L : Type 0} {k : Kind L} → ClosedSheet L k → List Place
places_in c = effects_in c.places

abbrev pub closed_list : {L : Type 0} {k : Kind L} → ClosedSheet L k → List Counts
closed_list {k = k} c = map (take c.steps.n) (k.rows c.rows)

pub record Closed {L : Type 0} {k : Kind L} (s : OpenSheet L k) (c : ClosedSheet L k) : Type 0 where
  pub steps : c.steps.n ≡ steps_of s
  pub places : places_in c ≡ places_of s
  pub rows : c.rows ≡ s.current

abbrev pub Counted : {L : Type 0} {k : Kind L} → ClosedSheet L k → ℕ → Type 0
Counted c count = count ≡ length (closed_list c)

abbrev pub reading : List Counts → ℕ → ℕ → List ℕ → Outcome
reading rows n k out = first_of (cause (not (nat_le 1 k && nat_le k (length rows))) (Ledger NoRow) ∷ cause (nat_lt (length out) n) ListTooShort ∷ [])

abbrev pub out_after : Counts → List ℕ → Outcome → List ℕ
out_after row out (Ok _) = row ++ drop (length row) out
out_after row out (Err fault) = out

pub record ReadRow {L : Type 0} {k : Kind L} (c : ClosedSheet L k) (i : ℕ) (out : List ℕ) (answer : Outcome) (out' : List ℕ) : Type 0 where
  pub answered : answer ≡ reading (closed_list c) c.steps.n i out
  pub left : out' ≡ out_after (slice_index_or (closed_list c) (i - 1) []) out answer

abbrev pub Compared : {L M : Type 0} {j : Kind L} {k : Kind M} → ClosedSheet L j → ClosedSheet M k → Comparison → Type 0
Compared {j = j} {k = k} a b answer = (answer ≡ Same) ↔ ((a.steps.n ≡ b.steps.n) × (j.rows a.rows ≡ k.rows b.rows))
