-- Questions: the walk that puts a multiple of a question together from listed rows, and its outcome. All of it computes.
--
--   most                     2,147,483,647: no number of a certificate is above it
--   Ratio                    top / bottom; 1 / 0 stands for no ratio, above all others
--   lesser best r e          the ratio r / e where it is below the best so far, else the best so far
--   least_to j row rest      the least of rest count / row count over those of the first j steps that the row uses
--   lowest ratio             the same ratio without common divisor
--   least_ratio row rest     the least of rest count / row count over the steps of the row, without common divisor
--   left p rest s row        p × rest − s × row
--   add_at k s cs            s added to the coefficient at k
--   first_within rest rows   how many rows come before the first whose steps in use are all in use in rest
--   in_use x                 how many steps are in use
--   zeros x                  whether no step is in use
--   Walk                     what a walk has in hand: the rest, the multiplier t and a coefficient for each row
--   begun rows question      the walk at its begin: the question is left, t is 1, all coefficients are 0
--   taken k row walk         the walk after a round that takes the row at k
--   chosen rows walk         the row that the next round takes, [] where there is none
--   round rows walk          the walk after one round more
--   small x                  whether no count is above the limit
--   fits walk                whether no number in hand is above the limit
--   Outcome                  certified t coefficients · broken place · too large · stuck: no row can be taken
--   walk_from rounds ..      the outcome of a walk that has some rounds left
--   walk rows question       the outcome of the walk, which has as many rounds as the question uses steps
--   unbroken places question how many places come before the first whose sum on the question is not 0
--   outcome places rows ..   the outcome of a question: its first broken place, from 1, or else that of the walk
use Rattle.std.specs.Prelude.{ℕ, zero, suc, ◌+◌, ◌-◌, ◌*◌, ◌/◌, Bool, cond, not, ◌&&◌, List, [], ◌∷◌, map, length, replicate, ◌==◌, nat_eq, nat_le, nat_lt, slice_index_or}
use Rattle.std.specs.List.{prefix_len}
use Rattle.cycle_theory.specs.Nets.{Counts, at, Place, sum}
use Rattle.cycle_theory.specs.Method.{tabulate, gcd, every, within, is_zero}

abbrev pub most : ℕ
most = 2147483647

pub record Ratio : Type 0 where
  pub top : ℕ
  pub bottom : ℕ

-- where e is 0 no ratio is below
abbrev pub lesser : Ratio → ℕ → ℕ → Ratio
lesser best r e = cond (nat_lt (r * best.bottom) (best.top * e)) (record { top = r; bottom = e }) best

unfoldable pub least_to : ℕ → Counts → Counts → Ratio
least_to zero row rest = record { top = 1; bottom = 0 }
least_to (suc j) row rest = lesser (least_to j row rest) (at rest j) (at row j)

abbrev pub lowest : Ratio → Ratio
lowest r = record { top = r.top / gcd r.top r.bottom; bottom = r.bottom / gcd r.top r.bottom }

abbrev pub least_ratio : Counts → Counts → Ratio
least_ratio row rest = lowest (least_to (length row) row rest)

abbrev pub left : ℕ → Counts → ℕ → Counts → Counts
left p rest s row = tabulate (length rest) (λ j. p * at rest j - s * at row j)

abbrev pub add_at : ℕ → ℕ → List ℕ → List ℕ
add_at k s [] = []
add_at zero s (c ∷ cs) = (c + s) ∷ cs
add_at (suc k) s (c ∷ cs) = c ∷ add_at k s cs

abbrev pub first_within : Counts → List Counts → ℕ
first_within rest rows = prefix_len (λ row. not (within row rest)) rows

abbrev pub in_use : Counts → ℕ
in_use [] = 0
in_use (zero ∷ x) = in_use x
in_use (suc c ∷ x) = suc (in_use x)

abbrev pub zeros : Counts → Bool
zeros x = every (λ c. nat_eq c 0) x

pub record Walk : Type 0 where
  pub rest : Counts
  pub multiplier : ℕ
  pub coefficients : List ℕ

abbrev pub begun : List Counts → Counts → Walk
begun rows question = record { rest = question; multiplier = 1; coefficients = replicate (length rows) 0 }

abbrev pub taken : ℕ → Counts → Walk → Walk
taken k row w =
    let r : Ratio = least_ratio row w.rest in
    record {
      rest = left r.bottom w.rest r.top row;
      multiplier = r.bottom * w.multiplier;
      coefficients = add_at k r.top (map (λ c. r.bottom * c) w.coefficients);
    }

abbrev pub chosen : List Counts → Walk → Counts
chosen rows w = slice_index_or rows (first_within w.rest rows) []

abbrev pub round : List Counts → Walk → Walk
round rows w = taken (first_within w.rest rows) (chosen rows w) w

abbrev pub small : Counts → Bool
small x = every (λ c. nat_le c most) x

abbrev pub fits : Walk → Bool
fits w = nat_le w.multiplier most && (small w.coefficients && small w.rest)

pub data Outcome : Type 0 where
  certified : ℕ → List ℕ → Outcome
  broken : ℕ → Outcome
  too_large : Outcome
  stuck : Outcome

unfoldable pub walk_from : ℕ → List Counts → Walk → Outcome
walk_from zero rows w = cond (zeros w.rest) (certified w.multiplier w.coefficients) stuck
walk_from (suc rounds) rows w =
    cond (zeros w.rest) (certified w.multiplier w.coefficients)
    (cond ((least_ratio (chosen rows w) w.rest).bottom == 0) stuck
    (cond (fits (round rows w)) (walk_from rounds rows (round rows w)) too_large))

abbrev pub walk : List Counts → Counts → Outcome
walk rows question = walk_from (in_use question) rows (begun rows question)

abbrev pub unbroken : List Place → Counts → ℕ
unbroken places question = prefix_len (λ p. is_zero (sum p question)) places

abbrev pub outcome : List Place → List Counts → Counts → Outcome
outcome places rows question =
    cond (nat_lt (unbroken places question) (length places)) (broken (unbroken places question + 1)) (walk rows question)
