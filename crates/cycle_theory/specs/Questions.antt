-- What is proved of questions. Each statement is the contract of a function of src/questions.rt.
--
--   LeastRatio row rest r    r is at most rest count / row count at every step of the row, equal at one of them, and has no common divisor
--   Certificate t cs x rows  t × x is the sum of coefficient × row, count by count
--   FirstBroken places x k   the place k, from 1, is the first whose sum on x is not 0
--   Right n places x o       what the outcome o says of the question x
--
--   RatioLeast        the ratio of a round is the least one, in lowest terms
--   WalkCertifies     a certified outcome is a certificate, with at most as many coefficients other than 0 as the question uses steps
--   WalkEnds          more rounds than the question uses steps change nothing
--   WalkOnce          after a round, the next row to be taken stands behind the one that was taken: each row is taken at most once
--   WalkGoesOn        a walk on the listed rows of a net is never stuck at a cycle: some row can be taken until nothing is left
--   WalkZeros         the question of zeros is certified with the multiplier 1 and no row, whatever the rows are
--   OutcomeRight      a question with n counts is certified, broken or too large: certified or too large exactly where it is a cycle
use Rattle.std.specs.Prelude.{◌≡◌, ℕ, ◌-◌, ◌*◌, ◌<◌, ◌≤◌, List, [], length, replicate, pos, ◌≢◌, slice_index_or}
use Rattle.cycle_theory.specs.Nets.{Counts, at, Place, sum, Cycle, Nonzero}
use Rattle.cycle_theory.specs.Method.{tss}
use Rattle.cycle_theory.specs.Theorems.{mixed}
use Rattle.cycle_theory.specs.Walk.{Ratio, least_ratio, first_within, in_use, Walk, begun, chosen, round, Outcome, certified, broken, too_large, stuck, walk_from, walk, outcome}

pub record LeastRatio (row rest : Counts) (r : Ratio) : Type 0 where
  pub positive : 0 < r.bottom
  pub least : (j : ℕ) → r.top * at row j ≤ r.bottom * at rest j
  pub reached : (j : ℕ) × (0 < at row j) × (r.top * at row j ≡ r.bottom * at rest j)
  pub lowest_terms : (d a b : ℕ) → r.top ≡ d * a → r.bottom ≡ d * b → d ≡ 1

pub record Certificate (t : ℕ) (cs : List ℕ) (x : Counts) (rows : List Counts) : Type 0 where
  pub positive : 1 ≤ t
  pub one_each : length cs ≡ length rows
  pub adds_up : (j : ℕ) → t * at x j ≡ mixed cs rows j

pub record FirstBroken (places : List Place) (x : Counts) (k : ℕ) : Type 0 where
  pub from : 1 ≤ k
  pub to : k ≤ length places
  pub breaks : sum (slice_index_or places (k - 1) []) x ≡ pos 0 → ⊥
  pub holds_before : (i : ℕ) → i < k - 1 → sum (slice_index_or places i []) x ≡ pos 0

abbrev pub Right : ℕ → List Place → Counts → Outcome → Type 0
Right n places x (certified t cs) = Cycle n places x × Certificate t cs x (tss n places)
Right n places x (broken k) = (Cycle n places x → ⊥) × FirstBroken places x k
Right n places x too_large = Cycle n places x
Right n places x stuck = ⊥

abbrev pub RatioLeast : Type 0
RatioLeast = (row rest : Counts) → Nonzero row → LeastRatio row rest (least_ratio row rest)

abbrev pub WalkCertifies : Type 0
WalkCertifies =
    (rows : List Counts) (x : Counts) (t : ℕ) (cs : List ℕ) → walk rows x ≡ certified t cs → Certificate t cs x rows × (in_use cs ≤ in_use x)

abbrev pub WalkEnds : Type 0
WalkEnds = (rows : List Counts) (x : Counts) (rounds : ℕ) → in_use x ≤ rounds → walk_from rounds rows (begun rows x) ≡ walk rows x

abbrev pub WalkOnce : Type 0
WalkOnce =
    (rows : List Counts) (w : Walk) → 0 < (least_ratio (chosen rows w) w.rest).bottom →
    first_within w.rest rows < first_within (round rows w).rest rows

abbrev pub WalkGoesOn : Type 0
WalkGoesOn = (n : ℕ) (places : List Place) (x : Counts) → Cycle n places x → walk (tss n places) x ≢ stuck

abbrev pub WalkZeros : Type 0
WalkZeros = (rows : List Counts) (x : Counts) → ((j : ℕ) → at x j ≡ 0) → walk rows x ≡ certified 1 (replicate (length rows) 0)

abbrev pub OutcomeRight : Type 0
OutcomeRight = (n : ℕ) (places : List Place) (x : Counts) → length x ≡ n → Right n places x (outcome places (tss n places) x)
