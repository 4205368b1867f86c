-- What is proved of the method, in the words of nets. Each statement is the contract of a function of src/lib.rt.
--
-- mixed coefficients rows j   the sum of coefficient × row, at step j
-- SumOf rows x                x, times some positive number, is a sum of natural multiples of the rows
-- AllMinimal n places rows    the rows are the minimal cycles, strictly ascending, and nothing else
-- HasMinimal n places count   there are so many minimal cycles
-- Opposed p rows u v          two of the rows, u with a positive and v with a negative sum on p
-- WithinPair w u v            every step that w uses, u or v uses
-- NoThird rows u v            no third of the rows uses only steps which the pair uses
--
-- TssMinimal         the list is strictly ascending, and holds a count list exactly when it is a minimal cycle
-- TssSums            every cycle, times some positive number, is a sum of natural multiples of listed rows
-- TssSame            two lists of places have the same list of rows exactly when they have the same cycles
-- ThirdRow           the row of a pair survives cleaning exactly when no third row uses only steps which the pair uses
-- OnePair            a row that survives is made by one pair only
-- PairNew            no pair makes a row that was there
-- TssOrder           the list does not depend on the order of the places, nor on how often one is given
-- OneList            there is one list of the minimal cycles
-- OneNumber          there is one number of minimal cycles
-- SameSteps          two minimal cycles, one of which uses only steps which the other uses, are equal
-- UnitsMinimal       with no place, the minimal cycles are the single steps
-- StepMinimal        a step takes the list of the minimal cycles of some places to that of one place more
-- TssReaches         every cycle other than the zeros has a listed row within it
-- DivisorGreatest    what rows are divided by is a common divisor of their counts, and a multiple of every other
use Rattle.std.specs.Prelude.{◌≡◌, ℕ, ◌+◌, ◌*◌, ◌<◌, ◌↔◌, List, [], ◌∷◌, ◌++◌, length, pos, ◌<ℤ◌, ◌≢◌}
use Rattle.cycle_theory.specs.Nets.{Counts, at, Mem, Place, sum, Cycle, Nonzero, Within, Divides, Minimal, Ascending}
use Rattle.cycle_theory.specs.Method.{combined, divisor, divided, units, step, tss}

abbrev pub mixed : List ℕ → List Counts → ℕ → ℕ
mixed [] rows j = 0
mixed (c ∷ coefficients) [] j = 0
mixed (c ∷ coefficients) (row ∷ rows) j = c * at row j + mixed coefficients rows j

pub record SumOf (rows : List Counts) (x : Counts) : Type 0 where
  pub times : ℕ
  pub positive : 0 < times
  pub coefficients : List ℕ
  pub one_each : length coefficients ≡ length rows
  pub adds_up : (j : ℕ) → times * at x j ≡ mixed coefficients rows j

pub record AllMinimal (n : ℕ) (places : List Place) (rows : List Counts) : Type 0 where
  pub ascending : Ascending rows
  pub exactly : (x : Counts) → Mem x rows ↔ Minimal n places x

abbrev pub HasMinimal : ℕ → List Place → ℕ → Type 0
HasMinimal n places count = (rows : List Counts) × AllMinimal n places rows × (length rows ≡ count)

pub record Opposed (p : Place) (rows : List Counts) (u v : Counts) : Type 0 where
  pub first : Mem u rows
  pub second : Mem v rows
  pub gains : pos 0 <ℤ sum p u
  pub loses : sum p v <ℤ pos 0

abbrev pub WithinPair : Counts → Counts → Counts → Type 0
WithinPair w u v = (j : ℕ) → 0 < at w j → 0 < at u j + at v j

abbrev pub NoThird : List Counts → Counts → Counts → Type 0
NoThird rows u v = (w : Counts) → Mem w rows → (w ≢ u) → (w ≢ v) → WithinPair w u v → ⊥

abbrev pub TssMinimal : Type 0
TssMinimal = (n : ℕ) (places : List Place) → AllMinimal n places (tss n places)

abbrev pub TssSums : Type 0
TssSums = (n : ℕ) (places : List Place) (x : Counts) → Cycle n places x → SumOf (tss n places) x

abbrev pub TssSame : Type 0
TssSame = (n : ℕ) (A B : List Place) → (tss n A ≡ tss n B) ↔ ((x : Counts) → Cycle n A x ↔ Cycle n B x)

abbrev pub ThirdRow : Type 0
ThirdRow =
    (n : ℕ) (places : List Place) (p : Place) (u v : Counts) → Opposed p (tss n places) u v →
    Mem (divided (combined p u v)) (step p (tss n places)) ↔ NoThird (tss n places) u v

abbrev pub OnePair : Type 0
OnePair =
    (n : ℕ) (places : List Place) (p : Place) (u v u' v' : Counts) → Opposed p (tss n places) u v → Opposed p (tss n places) u' v' →
    Mem (divided (combined p u v)) (step p (tss n places)) → divided (combined p u v) ≡ divided (combined p u' v') → (u ≡ u') × (v ≡ v')

abbrev pub PairNew : Type 0
PairNew =
    (n : ℕ) (places : List Place) (p : Place) (u v : Counts) → Opposed p (tss n places) u v →
    Mem (divided (combined p u v)) (tss n places) → ⊥

abbrev pub TssOrder : Type 0
TssOrder = (n : ℕ) (A B : List Place) → ((p : Place) → Mem p A ↔ Mem p B) → tss n A ≡ tss n B

abbrev pub OneList : Type 0
OneList = (n : ℕ) (places : List Place) (a b : List Counts) → AllMinimal n places a → AllMinimal n places b → a ≡ b

abbrev pub OneNumber : Type 0
OneNumber = (n : ℕ) (places : List Place) (a b : ℕ) → HasMinimal n places a → HasMinimal n places b → a ≡ b

abbrev pub SameSteps : Type 0
SameSteps = (n : ℕ) (places : List Place) (x y : Counts) → Minimal n places x → Minimal n places y → Within x y → x ≡ y

abbrev pub UnitsMinimal : Type 0
UnitsMinimal = (n : ℕ) → AllMinimal n [] (units n)

abbrev pub StepMinimal : Type 0
StepMinimal =
    (n : ℕ) (places : List Place) (p : Place) (rows : List Counts) → AllMinimal n places rows →
    AllMinimal n (places ++ p ∷ []) (step p rows)

abbrev pub TssReaches : Type 0
TssReaches =
    (n : ℕ) (places : List Place) (x : Counts) → Cycle n places x → Nonzero x →
    (row : Counts) × (Mem row (tss n places)) × Within row x

abbrev pub DivisorGreatest : Type 0
DivisorGreatest = (x : Counts) → Divides (divisor x) x × ((d : ℕ) → Divides d x → (q : ℕ) × (divisor x ≡ d * q))
