-- The rows that a closed sheet lists.
use Rattle.std.proofs.Common.{◌≡◌, ℕ, ◌-◌, ◌<◌, ◌≤◌, List, [], ◌∷◌, ◌++◌, map, length, get_or, take, drop, Ok, sum_by, ap, ◌∙◌, subst, arith}
use Rattle.std.proofs.lemmas.List.{take_at, length-map}
use Rattle.std.proofs.lemmas.List.Sums.{sum_by-cons}
use Rattle.std.proofs.Math.Logic.{∥∥₁_elim}
use Rattle.std.proofs.Props.{props}
use Rattle.ledger.specs.declared.Ledger.{Ghosts as Kind}
use Rattle.ledger.specs.Rows.{WellKept}
use Rattle.cycle_theory.specs.Method.{tss}
use Rattle.cycle_theory.proofs.Theorems.{tss_minimal}
use Rattle.cycle_theory.proofs.FirstFailing.{mem_get_or}
use Rattle.sheet.specs.declared.sheets.ClosedSheet.{ClosedSheet}
use Rattle.sheet.specs.Verdict.{Outcome}
use Rattle.sheet.specs.Sheets.{closed_list, places_in, out_after, ReadRow}
use Rattle.sheet.proofs.Listing.{narrowed}

module _ {L : Type 0} {k : Kind L} (c : ClosedSheet L k) where
  pub listed_rows : closed_list c ≡ tss c.steps.n (places_in c)
  listed_rows = ap (map (take c.steps.n)) c.held.rows ∙ narrowed c.steps.n (places_in c)

  -- each has a count for each step
  pub row_long : (i : ℕ) → i < length (closed_list c) → length (get_or (closed_list c) i []) ≡ c.steps.n
  row_long i h =
      let n = c.steps.n in
      let rows = tss n (places_in c) in
      let inside : i < length rows = subst (λ l. i < length l) listed_rows h in
      ap (λ l. length (get_or l i [])) listed_rows ∙ (((tss_minimal n (places_in c)).exactly (get_or rows i [])).0 (mem_get_or rows i [] inside)).cycle.long

  -- row k is read, and stands in front of the list
  pub row_read : (k' : ℕ) (out : List ℕ) (answer : Outcome) (out' : List ℕ) → 1 ≤ k' → k' ≤ length (closed_list c) → ReadRow c k' out answer out' → answer ≡ Ok tt → take c.steps.n out' ≡ get_or (closed_list c) (k' - 1) []
  row_read k' out answer out' one h read done =
      let row = get_or (closed_list c) (k' - 1) [] in
      let is : out' ≡ row ++ drop (length row) out = read.left ∙ ap (out_after row out) done in
      ap (take c.steps.n) is ∙ take_at row (drop (length row) out) c.steps.n (row_long (k' - 1) (omega arith))

-- a ledger holds at most as many rows as its total
fewer_rows : (charge : List ℕ → ℕ) → ((row : List ℕ) → 1 ≤ charge row) → (rows : List (List ℕ)) → length rows ≤ sum_by charge rows
fewer_rows charge one [] = omega arith
fewer_rows charge one (row ∷ rows) =
    let here = one row in
    let rest = fewer_rows charge one rows in
    let all = sum_by-cons charge row rows in
    omega arith

pub few_rows : {L : Type 0} {k : Kind L} (c : ClosedSheet L k) → ((row : List ℕ) → 1 ≤ k.charge row) → k.TOTAL ≤ 1024 → ((ledger : L) → k.orderly ledger → WellKept k.charge k.TOTAL (k.rows ledger)) → length (closed_list c) ≤ 1024
few_rows {k = k} c one high kept =
    let fits : sum_by k.charge (k.rows c.rows) ≤ k.TOTAL = ∥∥₁_elim c.held.order (hlevel props) (λ order. (kept c.rows order).fits) in
    let few = fewer_rows k.charge one (k.rows c.rows) in
    let same = length-map (k.rows c.rows) (take c.steps.n) in
    omega arith
