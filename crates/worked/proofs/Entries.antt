-- The rule at each entry of a table, from one test over the whole of it, which the checker computes (all_right).
use Rattle.std.proofs.Common.{◌≡◌, ℕ, suc, ◌<◌, Bool, true, false, ◌&&◌, ◌||◌, eqb, ltb, List, [], ◌∷◌, ◌++◌, get_or, refl, ap, subst, inl, inr}
use Rattle.std.specs.List.{list_all}
use Rattle.std.proofs.lemmas.List.Sums.{AllPass-from_list_all}
use Rattle.std.proofs.lemmas.Bool.{and_parts, or_cases, eqb-true, ltb-true, false≢true}
use Rattle.cycle_theory.specs.Nets.{Counts, at, Place}
use Rattle.cycle_theory.specs.Walk.{Outcome, certified, broken, too_large, stuck, outcome}
use Rattle.cycle_theory.specs.Method.{every, same, tss}
use Rattle.cycle_theory.specs.Theorems.{AllMinimal}
use Rattle.cycle_theory.proofs.Members.{every_mem}
use Rattle.cycle_theory.proofs.Cleaning.{same_true}
use Rattle.cycle_theory.proofs.Theorems.{tss_minimal}
use Rattle.worked.specs.declared.net.WorkedNet.{WorkedNet}
use Rattle.worked.specs.declared.net.WorkedQuestion.{WorkedQuestion}
use Rattle.worked.specs.Table.{places_of, rows_of, too_large_of, outcome_of, HasLarge, RightNet, AllRight}

abbrev pub same_rows : List Counts → List Counts → Bool
same_rows [] [] = true
same_rows (x ∷ l) (y ∷ m) = same x y && same_rows l m
same_rows l m = false

same_rows_true : (l m : List Counts) → same_rows l m ≡ true → l ≡ m
same_rows_true [] [] t = refl
same_rows_true (x ∷ l) (y ∷ m) t =
    let e : x ≡ y = same_true x y (and_parts (same x y) (same_rows l m) t).0 in
    let f : l ≡ m = same_rows_true l m (and_parts (same x y) (same_rows l m) t).1 in cc
same_rows_true l m t = absurd (false≢true t)

abbrev pub same_outcome : Outcome → Outcome → Bool
same_outcome (certified t cs) (certified u ds) = eqb t u && same cs ds
same_outcome (broken k) (broken m) = eqb k m
same_outcome too_large too_large = true
same_outcome stuck stuck = true
same_outcome a b = false

same_outcome_true : (a b : Outcome) → same_outcome a b ≡ true → a ≡ b
same_outcome_true (certified t cs) (certified u ds) h =
    let e : t ≡ u = eqb-true t u (and_parts (eqb t u) (same cs ds) h).0 in
    let f : cs ≡ ds = same_true cs ds (and_parts (eqb t u) (same cs ds) h).1 in cc
same_outcome_true (broken k) (broken m) h = ap broken (eqb-true k m h)
same_outcome_true too_large too_large h = refl
same_outcome_true stuck stuck h = refl
same_outcome_true a b h = absurd (false≢true h)

-- some count is above the limit
abbrev pub large_count : Counts → Bool
large_count [] = false
large_count (c ∷ x) = ltb 1048575 c || large_count x

large_count_true : (x : Counts) → large_count x ≡ true → (j : ℕ) × (1048575 < at x j)
large_count_true [] h = absurd (false≢true h)
large_count_true (c ∷ x) h = elim (or_cases (ltb 1048575 c) (large_count x) h) [
  | inl a ↦ (0, ltb-true 1048575 c a)
  | inr b ↦ let r = large_count_true x b in (suc r.0, r.1)
]

abbrev pub large_row : List Counts → Bool
large_row [] = false
large_row (x ∷ rows) = large_count x || large_row rows

large_row_true : (rows : List Counts) → large_row rows ≡ true → HasLarge rows
large_row_true [] h = absurd (false≢true h)
large_row_true (x ∷ rows) h = elim (or_cases (large_count x) (large_row rows) h) [
  | inl a ↦ (x, inl refl, large_count_true x a)
  | inr b ↦ let r = large_row_true rows b in (r.0, inr r.1, r.2)
]

-- the question comes to the outcome that is told
abbrev pub answers : WorkedNet → WorkedQuestion → Bool
answers net q = same_outcome (outcome (places_of net) (rows_of net) q.counts.now) (outcome_of q)

-- the place would leave a row that is too large
abbrev pub leaves_large : WorkedNet → Place → Bool
leaves_large net p = large_row (tss net.steps (places_of net ++ p ∷ []))

-- the method leaves the rows of the entry, and all that is told of it holds
abbrev pub passes : WorkedNet → Bool
passes net =
    same_rows (tss net.steps (places_of net)) (rows_of net)
    && (every (answers net) net.questions.now && every (leaves_large net) (too_large_of net))

-- what the method leaves are the minimal cycles
passed : (net : WorkedNet) → passes net ≡ true → RightNet net
passed net t =
    let rows-test : Bool = same_rows (tss net.steps (places_of net)) (rows_of net) in
    let answers-test : Bool = every (answers net) net.questions.now in
    let large-test : Bool = every (leaves_large net) (too_large_of net) in
    let a = and_parts rows-test (answers-test && large-test) t in
    let b = and_parts answers-test large-test a.1 in
    record {
      minimal =
          subst (λ (rows : List Counts). AllMinimal net.steps (places_of net) rows)
          (same_rows_true (tss net.steps (places_of net)) (rows_of net) a.0) (tss_minimal net.steps (places_of net));
      answers = λ q m. same_outcome_true (outcome (places_of net) (rows_of net) q.counts.now) (outcome_of q) (every_mem (answers net) net.questions.now b.0 q m);
      large = λ p m. large_row_true (tss net.steps (places_of net ++ p ∷ [])) (every_mem (leaves_large net) (too_large_of net) b.1 p m);
    }

pub all_right : (table : List WorkedNet) → list_all passes table ≡ true → AllRight table
all_right table t = record { each = λ k d h. passed (get_or table k d) (AllPass-from_list_all passes table t k d h) }
