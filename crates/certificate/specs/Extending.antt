-- What putting one row more into a certificate gives; only inner functions' contracts cite this file.
--
--   Empty c                the certificate that the walk begins with: the multiplier 1 and no row
--   share_of k s           the coefficient s of the row k
--   times p shares         every coefficient multiplied by p
--   all_small shares       whether every coefficient is within the limit
--   Scaled p c r           what multiplying the numbers of c by p answers
--   Grown k s p c d        d has p times the numbers of c, and s for the row k besides
--   Extended k s p c r     what multiplying by p and adding s for the row k answers
use Rattle.std.specs.Prelude.{◌≡◌, ℕ, ◌*◌, ◌<◌, ◌≤◌, Bool, true, false, ◌⊎◌, List, [], ◌∷◌, ◌++◌, map, length, Some, None, Option}
use Rattle.cycle_theory.specs.Walk.{most, small}
use Rattle.inline_list.specs.Items.{items}
use Rattle.certificate.specs.declared.certificate.Certificate.{Certificate}
use Rattle.certificate.specs.declared.certificate.Share.{Share}

pub record Empty (c : Certificate) : Type 0 where
  pub multiplier : c.multiplier ≡ 1
  pub shares : items c.shares ≡ []

abbrev pub share_of : ℕ → ℕ → Share
share_of k s = record { row = k; coefficient = s }

abbrev pub times : ℕ → List Share → List Share
times p shares = map (λ s. share_of s.row (p * s.coefficient)) shares

abbrev pub all_small : List Share → Bool
all_small shares = small (map (λ s. s.coefficient) shares)

abbrev pub Scaled : ℕ → Certificate → Option Certificate → Type 0
Scaled p c None = (most < p * c.multiplier) ⊎ (all_small (times p (items c.shares)) ≡ false)
Scaled p c (Some d) =
    (p * c.multiplier ≤ most) × (all_small (times p (items c.shares)) ≡ true) × (d.multiplier ≡ p * c.multiplier) × (items d.shares ≡ times p (items c.shares))

pub record Grown (k s p : ℕ) (c d : Certificate) : Type 0 where
  pub low : p * c.multiplier ≤ most
  pub low_coefficients : all_small (times p (items c.shares)) ≡ true
  pub low_new : s ≤ most
  pub multiplier : d.multiplier ≡ p * c.multiplier
  pub shares : items d.shares ≡ times p (items c.shares) ++ share_of k s ∷ []

abbrev pub Extended : ℕ → ℕ → ℕ → Certificate → Option Certificate → Type 0
Extended k s p c None = Scaled p c None ⊎ ((most < s) ⊎ (length (items c.shares) ≡ 24))
Extended k s p c (Some d) = Grown k s p c d
