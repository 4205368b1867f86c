-- One round: what is left uses only steps of the rest, and fewer, and the row that was taken is not within it.
use Rattle.std.proofs.Common.{◌≡◌, ℕ, ◌-◌, ◌*◌, ◌<◌, false, length, arith}
use Rattle.cycle_theory.specs.Nets.{Counts, at, Within}
use Rattle.cycle_theory.specs.Flows.{Combines}
use Rattle.cycle_theory.specs.Method.{within}
use Rattle.cycle_theory.proofs.Rows.{at_past, length_tabulate, at_tabulate_all}
use Rattle.cycle_theory.specs.Walk.{Ratio, least_ratio, left, in_use}
use Rattle.cycle_theory.specs.Questions.{LeastRatio}
use Rattle.cycle_theory.proofs.LeastRatios.{least_ratio_is_least}
use Rattle.cycle_theory.proofs.WalkingTests.{in_use_lt, within_not}

pub at_left : (p : ℕ) (rest : Counts) (s : ℕ) (row : Counts) (j : ℕ) → at (left p rest s row) j ≡ p * at rest j - s * at row j
at_left p rest s row = grind (arith, at_tabulate_all, at_past)

pub length_left : (p : ℕ) (rest : Counts) (s : ℕ) (row : Counts) → length (left p rest s row) ≡ length rest
length_left p rest s row = grind (arith, length_tabulate)

pub left_within : (p : ℕ) (rest : Counts) (s : ℕ) (row : Counts) → Within (left p rest s row) rest
left_within p rest s row j h = grind (arith, at_left)

-- where the ratio has a bottom it is least, reached and in lowest terms
pub is_least : (row rest : Counts) → 0 < (least_ratio row rest).bottom → LeastRatio row rest (least_ratio row rest)
is_least row rest h = grind (arith, least_ratio_is_least)

module _ (row rest : Counts) (inside : Within row rest) (r : Ratio) (l : LeastRatio row rest r) where
  -- nothing is left of the step where the ratio is reached
  pub used_up : at (left r.bottom rest r.top row) l.reached.0 ≡ 0
  used_up = omega (arith, at_left r.bottom rest r.top row l.reached.0, l.reached.2)

  pub uses_fewer : in_use (left r.bottom rest r.top row) < in_use rest
  uses_fewer = grind (arith, in_use_lt, length_left, left_within, used_up)

  pub taken_not_within : within row (left r.bottom rest r.top row) ≡ false
  taken_not_within = grind (arith, within_not, used_up)

  -- bottom × rest is what is left and top × row
  pub left_combines : Combines r.bottom rest 1 (left r.bottom rest r.top row) r.top row
  left_combines j = omega (arith, at_left r.bottom rest r.top row j, l.least j)
