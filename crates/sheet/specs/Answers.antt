-- The answers to a question, by the numbers that people know them by, and by what the walk says.
--
--   answer_number answer  9 where a place is broken, 10 where a number is too large, none where there is a certificate
--   answer_place answer   the broken place, from 1
--   answer_of outcome     the answer that tells an outcome; no question on a sheet is stuck
--   coefficients_in o     the coefficients of an outcome, none where it is not certified
use Rattle.std.specs.Prelude.{ℕ, List, [], Some, None, Option}
use Rattle.cycle_theory.specs.Walk.{Outcome, certified, broken, too_large, stuck}
use Rattle.sheet.specs.declared.answer.Answer.{Answer}
use Rattle.sheet.specs.declared.answer.Answer.TheVariants.{Certified, Broken, TooLarge}

abbrev pub answer_number : Answer → Option ℕ
answer_number (Certified multiplier) = None
answer_number (Broken place) = Some 9
answer_number TooLarge = Some 10

abbrev pub answer_place : Answer → Option ℕ
answer_place (Certified multiplier) = None
answer_place (Broken place) = Some place
answer_place TooLarge = None

abbrev pub answer_of : Outcome → Answer
answer_of (certified multiplier coefficients) = Certified multiplier
answer_of (broken place) = Broken place
answer_of too_large = TooLarge
answer_of stuck = TooLarge

abbrev pub coefficients_in : Outcome → List ℕ
coefficients_in (certified multiplier coefficients) = coefficients
coefficients_in (broken place) = []
coefficients_in too_large = []
coefficients_in stuck = []
