-- What a table of worked nets says.
--
-- places_of net       its places, as lists of effects
-- rows_of net         its rows, as count lists
-- outcome_of q       the outcome that is told of a question: a certificate, or that a number of it is too large
-- RightNet net       the rows are the minimal cycles of the places, strictly ascending, and nothing else; each question has the outcome
--                    that is told, and each place too large would leave a row with a count above 1,048,575
-- AllRight table     every net of the table is right
use Rattle.std.specs.Prelude.{◌≡◌, ℕ, ◌<◌, List, [], ◌∷◌, ◌++◌, map, Some, None, Option}
use Rattle.std.specs.List.{All}
use Rattle.cycle_theory.specs.Nets.{Counts, at, Mem, Place}
use Rattle.cycle_theory.specs.Method.{tss}
use Rattle.cycle_theory.specs.Theorems.{AllMinimal}
use Rattle.cycle_theory.specs.Walk.{Outcome, certified, too_large as number_too_large, outcome}
use Rattle.worked.specs.declared.net.WorkedNet.{WorkedNet}
use Rattle.worked.specs.declared.net.WorkedQuestion.{WorkedQuestion}
use Rattle.worked.specs.declared.net.WorkedCertificate.{WorkedCertificate}

abbrev pub places_of : WorkedNet → List Place
places_of net = map (λ x. x.now) net.places.now

abbrev pub rows_of : WorkedNet → List Counts
rows_of net = map (λ x. x.now) net.rows.now

abbrev pub too_large_of : WorkedNet → List Place
too_large_of net = map (λ x. x.now) net.too_large.now

abbrev pub told : Option WorkedCertificate → Outcome
told (Some certificate) = certified certificate.multiplier certificate.coefficients.now
told None = number_too_large

abbrev pub outcome_of : WorkedQuestion → Outcome
outcome_of q = told q.certificate

-- some row has a count above 1,048,575
abbrev pub HasLarge : List Counts → Type 0
HasLarge rows = (row : Counts) × (Mem row rows) × ((j : ℕ) × (1048575 < at row j))

pub record RightNet (net : WorkedNet) : Type 0 where
  pub minimal : AllMinimal net.steps (places_of net) (rows_of net)
  pub answers : (q : WorkedQuestion) → Mem q net.questions.now → outcome (places_of net) (rows_of net) q.counts.now ≡ outcome_of q
  pub large : (p : Place) → Mem p (too_large_of net) → HasLarge (tss net.steps (places_of net ++ p ∷ []))

pub record AllRight (table : List WorkedNet) : Type 0 where
  pub each : All RightNet table
