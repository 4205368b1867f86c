-- What the inner functions of a round answer; only their contracts cite this file.
--
--   Begun question walk       the whole question, of 24 counts, is left and nothing is taken
--   Least row rest ratio      top × row is at most bottom × rest, step by step
--   Left row rest ratio r     what taking top × row from bottom × rest answers
--   Round k row r walk walk'   a round that takes the row k, whose least ratio is r, leads from walk to walk'
--   NoRound k row r walk      why no round takes that row: it uses no step, a number is then too large, or 24 rows were taken
--   Took k row walk r         what a round that takes the row k answers
use Rattle.std.specs.Prelude.{◌≡◌, ℕ, ◌*◌, ◌<◌, ◌≤◌, true, false, ◌⊎◌, length, Some, None, Option}
use Rattle.ledger.specs.declared.row.Row.{Row}
use Rattle.cycle_theory.specs.Nets.{Counts, at}
use Rattle.cycle_theory.specs.Walk.{Ratio, least_ratio, small, left}
use Rattle.certificate.specs.declared.ratio.Ratio.{Ratio as Held}
use Rattle.certificate.specs.declared.round.Walk.{Walk}
use Rattle.certificate.specs.Extending.{Empty, Extended, Grown}

pub record Begun (question : Counts) (w : Walk) : Type 0 where
  pub rest : w.rest.counts ≡ question
  pub certificate : Empty w.certificate
  pub long : length question ≡ 24

abbrev pub Least : Counts → Counts → Held → Type 0
Least row rest ratio = (j : ℕ) → j < 24 → ratio.top * at row j ≤ ratio.bottom * at rest j

abbrev pub Left : Counts → Counts → Held → Option Row → Type 0
Left row rest ratio None = small (left ratio.bottom rest ratio.top row) ≡ false
Left row rest ratio (Some after) =
    (small (left ratio.bottom rest ratio.top row) ≡ true) × (after.counts ≡ left ratio.bottom rest ratio.top row)

pub record Round (k : ℕ) (row : Counts) (r : Ratio) (w v : Walk) : Type 0 where
  pub positive : 0 < r.bottom
  pub grown : Grown k r.top r.bottom w.certificate v.certificate
  pub rest : v.rest.counts ≡ left r.bottom w.rest.counts r.top row
  pub small_rest : small (left r.bottom w.rest.counts r.top row) ≡ true

abbrev pub NoRound : ℕ → Counts → Ratio → Walk → Type 0
NoRound k row r w = (r.bottom ≡ 0) ⊎ (Extended k r.top r.bottom w.certificate None ⊎ (small (left r.bottom w.rest.counts r.top row) ≡ false))

abbrev pub Took : ℕ → Counts → Walk → Option Walk → Type 0
Took k row w None = NoRound k row (least_ratio row w.rest.counts) w
Took k row w (Some v) = Round k row (least_ratio row w.rest.counts) w v
