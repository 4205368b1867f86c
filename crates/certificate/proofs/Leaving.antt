-- What is left of a rest, count by count.
use Rattle.std.proofs.Common.{◌≡◌, ℕ, ◌-◌, ◌*◌, ◌<◌, ◌≤◌, true, false, length, sym, ◌∙◌, subst, inl, inr, arith}
use Rattle.cycle_theory.specs.Nets.{Counts, at}
use Rattle.cycle_theory.specs.Walk.{most, small, left}
use Rattle.cycle_theory.proofs.Rows.{split, at_past, equal_rows}
use Rattle.cycle_theory.proofs.WalkingTests.{small_from, small_not}
use Rattle.cycle_theory.proofs.WalkingRounds.{at_left, length_left}

pub left_is : (xs : Counts) (p : ℕ) (rest : Counts) (s : ℕ) (row : Counts) → length xs ≡ length rest → ((k : ℕ) → k < length rest → at xs k ≡ p * at rest k - s * at row k) → xs ≡ left p rest s row
left_is xs p rest s row n is =
    let l : length (left p rest s row) ≡ length rest = length_left p rest s row in
    equal_rows xs (left p rest s row) (n ∙ sym l) (λ k. elim (split (length rest) k) [
      | inl h ↦ at_past xs k (omega (arith, n, h)) ∙ sym (at_past (left p rest s row) k (omega (arith, l, h)))
      | inr h ↦ is k h ∙ sym (at_left p rest s row k)
    ])

pub left_small : (xs : Counts) (p : ℕ) (rest : Counts) (s : ℕ) (row : Counts) → xs ≡ left p rest s row → ((k : ℕ) → k < length xs → at xs k ≤ most) → small (left p rest s row) ≡ true
left_small xs p rest s row e low = subst (λ x. small x ≡ true) e (small_from xs low)

pub left_large : (p : ℕ) (rest : Counts) (s : ℕ) (row : Counts) (j : ℕ) → most < p * at rest j - s * at row j → small (left p rest s row) ≡ false
left_large p rest s row j h = small_not (left p rest s row) j (subst (λ m. most < m) (sym (at_left p rest s row j)) h)
