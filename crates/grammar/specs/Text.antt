-- A line of a net file, as it is written. Reading is this turned round.
--
--   Record      what a line says: the steps, the standing net, a place's effects, or a question's counts
--   mark r      the mark that opens its line
--   numbers r   the numbers of its line, in their order
--   letter m    the first byte of a mark; the second is `:`
--   field z     one space and the number: decimal without leading zeros, after a minus where it is negative
--   text r      the whole line: the mark, the numbers, and byte 10
--   Short z     a number of 1 to 7 digits
--   Right r     a record that can be written: its numbers are short
use Rattle.std.specs.Prelude.{ℕ, ◌≤◌, List, [], ◌∷◌, ◌++◌, map, ℤ, pos, unsigned_abs}
use Rattle.std.specs.Fmt.{signed_decimal}
use Rattle.std.specs.List.{flat_map, AllByRecursion}
use Rattle.grammar.specs.declared.mark.Mark.{Mark}
use Rattle.grammar.specs.declared.mark.Mark.TheVariants.{Steps, Standing, Place, Question}

pub data Record : Type 0 where
  steps : ℕ → Record
  standing : Record
  place : List ℤ → Record
  question : List ℕ → Record

abbrev pub mark : Record → Mark
mark (steps n) = Steps
mark standing = Standing
mark (place effects) = Place
mark (question counts) = Question

abbrev pub numbers : Record → List ℤ
numbers (steps n) = pos n ∷ []
numbers standing = []
numbers (place effects) = effects
numbers (question counts) = map pos counts

-- `N`, `S`, `P` and `Q`
abbrev pub letter : Mark → ℕ
letter Steps = 78
letter Standing = 83
letter Place = 80
letter Question = 81

abbrev pub field : ℤ → List ℕ
field z = 32 ∷ signed_decimal z

abbrev pub text : Record → List ℕ
text r = letter (mark r) ∷ (58 ∷ (flat_map field (numbers r) ++ (10 ∷ [])))

abbrev pub Short : ℤ → Type 0
Short z = unsigned_abs z ≤ 9999999

abbrev pub Right : Record → Type 0
Right r = AllByRecursion Short (numbers r)
