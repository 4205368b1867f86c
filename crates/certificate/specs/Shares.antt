-- What a certificate tells of each row.
--
--   share shares k         the coefficient of the first of the shares that is in the row k, 0 where none is
--   coefficient c k        the coefficient of the row k, from 0
--   coefficients_of m c    the coefficients of the first m rows
use Rattle.std.specs.Prelude.{ℕ, cond, List, [], ◌∷◌, ◌==◌}
use Rattle.cycle_theory.specs.Method.{tabulate}
use Rattle.inline_list.specs.Items.{items}
use Rattle.certificate.specs.declared.certificate.Certificate.{Certificate}
use Rattle.certificate.specs.declared.certificate.Share.{Share}

abbrev pub share : List Share → ℕ → ℕ
share [] k = 0
share (s ∷ shares) k = cond (s.row == k) s.coefficient (share shares k)

abbrev pub coefficient : Certificate → ℕ → ℕ
coefficient c k = share (items c.shares) k

abbrev pub coefficients_of : ℕ → Certificate → List ℕ
coefficients_of m c = tabulate m (coefficient c)
