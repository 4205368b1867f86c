-- A list whose first entries a loop writes, and rows written 24 wide.
use Rattle.std.proofs.Common.{◌≡◌, ℕ, ◌<◌, List, length, sym, ◌∙◌, inl, inr, arith}
use Rattle.cycle_theory.specs.Nets.{at}
use Rattle.cycle_theory.specs.Method.{tabulate}
use Rattle.cycle_theory.proofs.Rows.{split, at_past, at_tabulate, length_tabulate, equal_rows}

-- a list whose entries are those of f
pub all_written : (f : ℕ → ℕ) (n : ℕ) (xs : List ℕ) → length xs ≡ n → ((k : ℕ) → k < n → at xs k ≡ f k) → xs ≡ tabulate n f
all_written f n xs long each = equal_rows xs (tabulate n f) (long ∙ sym (length_tabulate n f)) (λ k. elim (split n k) [
  | inl h ↦ at_past xs k (omega (arith, long, h)) ∙ sym (at_past (tabulate n f) k (let l = length_tabulate n f in omega (arith, l, h)))
  | inr h ↦ each k h ∙ sym (at_tabulate n f k h)
])
