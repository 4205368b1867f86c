-- What the tests of a walk compute, in the words of rows.
use Rattle.std.proofs.Common.{◌≡◌, ℕ, zero, suc, ◌≤◌, Bool, true, false, ◌&&◌, ◌||◌, not, nat_eq, List, [], ◌∷◌, length, Option, None, Some, cond, refl, ap, ◌∙◌, arith}
use Rattle.std.proofs.lemmas.Bool.{ne_eqb}
use Rattle.std.specs.List.{list_all, zip, find}
use Rattle.cycle_theory.specs.Nets.{Counts}
use Rattle.cycle_theory.specs.Method.{every, covered, within}
use Rattle.certificate.specs.declared.certificate.Share.{Share}
use Rattle.certificate.specs.Shares.{share}

pub all_is_every : (f : ℕ → Bool) (x : Counts) → list_all f x ≡ every f x
all_is_every f [] = refl
all_is_every f (c ∷ x) = ap (λ b. f c && b) (all_is_every f x)

abbrev pub covers : (ℕ × ℕ) → Bool
covers p = nat_eq p.0 0 || not (nat_eq p.1 0)

not_zero : (a : ℕ) → nat_eq (suc a) 0 ≡ false
not_zero a = ne_eqb (suc a) 0 (λ e. omega (arith, e))

covers_is : (a b : ℕ) → covers (a, b) ≡ covered a b
covers_is zero b = refl
covers_is (suc a) zero = ap (λ t. t || false) (not_zero a)
covers_is (suc a) (suc b) = ap (λ t. t || not (nat_eq (suc b) 0)) (not_zero a) ∙ ap not (not_zero b)

pub all_is_within : (x y : Counts) → length x ≤ length y → list_all covers (zip x y) ≡ within x y
all_is_within [] y l = refl
all_is_within (a ∷ x) [] l = absurd (omega arith)
all_is_within (a ∷ x) (b ∷ y) l = ap (λ t. t && list_all covers (zip x y)) (covers_is a b) ∙ ap (λ t. covered a b && t) (all_is_within x y (omega arith))

-- the coefficient of the share found
abbrev pub found : Option Share → ℕ
found None = 0
found (Some s) = s.coefficient

pub found_is_share : (shares : List Share) (k : ℕ) → found (find (λ s. nat_eq s.row k) shares) ≡ share shares k
found_is_share [] k = refl
found_is_share (s ∷ shares) k = elim (nat_eq s.row k) as (λ b. found (cond b (Some s) (find (λ r. nat_eq r.row k) shares)) ≡ cond b s.coefficient (share shares k)) [
  | true ↦ refl
  | false ↦ found_is_share shares k
]
