-- The mask of the first counts of a row, and of one count more.
use Rattle.std.proofs.Common.{◌≡◌, ℕ, ◌+◌, ◌*◌, ◌%◌, ◌^◌, ◌<◌, cond, eqb, List, get_or, ap, ◌∙◌, sym, arith, below_more, eq-eqb, ne_eqb}
use lib.Bits.{bit_or}
use Rattle.std.specs.Int.{bit_at, w32}
use Rattle.std.proofs.lemmas.Nat.{or_lt, one_shl, pow-add}
use Rattle.std.proofs.lemmas.Nat.Bits.{bit_at_above, bit_at_set_same, bit_at_set_other}

-- the bit of a count
abbrev used : List ℕ → ℕ → ℕ
used row i = cond (eqb (get_or row i 0) 0) 0 1

-- m is the mask of the first j counts
pub record MaskUpto (row : List ℕ) (m j : ℕ) : Type 0 where
  pub below : m < 2 ^ j
  pub bits : (i : ℕ) → i < j → bit_at m i ≡ used row i

wider : (m j : ℕ) → m < 2 ^ j → m < 2 ^ (j + 1)
wider m j h = let d = pow-add 2 j 1 in omega (arith, d)

pub mask_used : (row : List ℕ) (m j : ℕ) → j < 32 → (get_or row j 0 ≡ 0 → ⊥) → MaskUpto row m j → MaskUpto row (bit_or m ((1 * 2 ^ j) % 4294967296)) (j + 1)
mask_used row m j small ne u = record {
  below =
      let d = pow-add 2 j 1 in
      let one = one_shl j 32 small in
      or_lt (j + 1) m _ (wider m j u.below) (omega (arith, d, one));
  bits =
      below_more (λ i. bit_at (bit_or m ((1 * 2 ^ j) % 4294967296)) i ≡ used row i) j
      (λ i h. bit_at_set_other w32 m j small i (omega arith) ∙ u.bits i h)
      (bit_at_set_same w32 m j small ∙ sym (ap (λ b. cond b 0 1) (ne_eqb _ _ ne)));
}

pub mask_zero : (row : List ℕ) (m j : ℕ) → get_or row j 0 ≡ 0 → MaskUpto row m j → MaskUpto row m (j + 1)
mask_zero row m j e u = record {
  below = wider m j u.below;
  bits =
      below_more (λ i. bit_at m i ≡ used row i) j u.bits
      (bit_at_above m j j u.below (omega arith) ∙ sym (ap (λ b. cond b 0 1) (eq-eqb _ _ e)));
}
