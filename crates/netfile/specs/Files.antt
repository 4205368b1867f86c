-- A net file is the text of its records, each in order and taken by the sheet that the records before it made.
-- Of records in a list the nearest comes first: the last line of the file stands at the front.
--
--   written rs              the text of the records, first line first
--   steps_of rs             how many steps the net of the records has
--   places_of rs            its places, in the order of the file; the standing net has its own
--   asked_of rs             its questions, in the order of the file
--   offered k n A ps        what offering the places ps, one after another, to a sheet of n steps with the places A comes to
--   asked n x               what putting the question x to a sheet of n steps comes to, before it is judged
--   answer k rs r           what the sheet of the records rs, on ledgers of kind k, says to one record more: done, or why not
--   Accepted k rs           every record is right, in order, and taken by the sheet of those before it
--   LineFault b n rest c f  why the line at the front of `rest`, after the mark b and n questions, is refused with f at column c:
--                           by the order of its mark, then by the number of questions, then by its grammar
--   column_at ns step       the column of the number of this step, from 1; 1 where there is no step, or no such number
--   column_of r f           the column at which a fault of the sheet is told: that of the field of the step that it names, else 1
--   Refused k rs rest c f   the line is that of a record in order, which the sheet refuses with this fault
--   Why k rs rest c f       why the line at the front of `rest`, after the records rs, is refused with f at column c
--   FirstFault k s f        the first fault of the file s: every line before it is accepted
--   RightFile k s rs        the file s is the text of the accepted records rs
use Rattle.std.specs.Prelude.{◌≡◌, ℕ, ◌+◌, ◌-◌, ◌<◌, ◌≤◌, true, false, cond, not, ◌&&◌, ◌⊎◌, List, [], ◌∷◌, ◌++◌, length, ℤ, Some, None, Ok, Err, Option, ◌==◌, nat_le}
use Rattle.ledger.specs.declared.Ledger.{Ghosts as Kind}
use Rattle.method.specs.Effects.{some}
use Rattle.sheet.specs.declared.fault.SheetFault.{SheetFault}
use Rattle.sheet.specs.declared.fault.SheetFault.TheVariants.{StepCount, Length, Count}
use Rattle.sheet.specs.Faults.{bracket}
use Rattle.sheet.specs.Verdict.{Outcome, cause, first_of, verdict}
use Rattle.sheet.specs.Certifying.{large, first_large}
use Rattle.grammar.specs.declared.mark.Mark.{Mark}
use Rattle.grammar.specs.declared.mark.Mark.TheVariants.{Question}
use Rattle.grammar.specs.Text.{Record, steps, standing, place, question, mark, numbers, text, Right}
use Rattle.grammar.specs.Lines.{Begins, Broken, Opens, field_in}
use Rattle.netfile.specs.declared.fault.FileFault.{FileFault}
use Rattle.netfile.specs.declared.fault.FileFault.TheVariants.{BufferTooShort, Grammar, Order, TooLong, TooManyQuestions, Sheet}
use Rattle.netfile.specs.declared.fault.RunFault.{RunFault}
use Rattle.netfile.specs.Order.{follows, May, nearest, questions}
use Rattle.netfile.specs.Standing.{standing_places}

abbrev pub written : List Record → List ℕ
written [] = []
written (r ∷ rs) = written rs ++ text r

abbrev pub steps_of : List Record → ℕ
steps_of [] = 0
steps_of (steps n ∷ rs) = n
steps_of (standing ∷ rs) = 7
steps_of (place effects ∷ rs) = steps_of rs
steps_of (question counts ∷ rs) = steps_of rs

abbrev pub places_of : List Record → List (List ℤ)
places_of [] = []
places_of (steps n ∷ rs) = []
places_of (standing ∷ rs) = standing_places
places_of (place effects ∷ rs) = places_of rs ++ effects ∷ []
places_of (question counts ∷ rs) = places_of rs

abbrev pub asked_of : List Record → List (List ℕ)
asked_of [] = []
asked_of (steps n ∷ rs) = []
asked_of (standing ∷ rs) = []
asked_of (place effects ∷ rs) = asked_of rs
asked_of (question counts ∷ rs) = asked_of rs ++ counts ∷ []

abbrev pub and_then : Outcome → Outcome → Outcome
and_then (Ok _) next = next
and_then (Err fault) next = Err fault

abbrev pub offered : {L : Type 0} → Kind L → ℕ → List (List ℤ) → List (List ℤ) → Outcome
offered k n places [] = Ok tt
offered k n places (p ∷ ps) = and_then (verdict k n places p) (offered k n (places ++ p ∷ []) ps)

abbrev pub asked : ℕ → List ℕ → Outcome
asked n counts =
    first_of (cause (not (length counts == n)) Length ∷ cause (some large counts) (Count (first_large counts)) ∷ [])

abbrev pub answer : {L : Type 0} → Kind L → List Record → Record → Outcome
answer k rs (steps n) = first_of (cause (not (nat_le 1 n && nat_le n 24)) StepCount ∷ [])
answer k rs standing = offered k 7 [] standing_places
answer k rs (place effects) = verdict k (steps_of rs) (places_of rs) effects
answer k rs (question counts) = asked (steps_of rs) counts

abbrev pub Accepted : {L : Type 0} → Kind L → List Record → Type 0
Accepted k [] = Unit {0}
Accepted k (r ∷ rs) = Accepted k rs × Right r × May (nearest rs) (questions rs) (mark r) × (answer k rs r ≡ Ok tt)

abbrev pub LineFault : Option Mark → ℕ → List ℕ → ℕ → FileFault → Type 0
LineFault b n rest column Order = (column ≡ 1) × (((b ≡ None) × (rest ≡ [])) ⊎ ((m : Mark) × Opens rest m × (follows b m ≡ false)))
LineFault b n rest column TooManyQuestions = (column ≡ 1) × Opens rest Question × (follows b Question ≡ true) × (16 ≤ n)
LineFault b n rest column Grammar = (0 < length rest) × ((m : Mark) → Opens rest m → May b n m) × Broken rest column
LineFault b n rest column BufferTooShort = ⊥
LineFault b n rest column TooLong = ⊥
LineFault b n rest column (Sheet fault) = ⊥

abbrev pub column_at : List ℤ → Option ℕ → ℕ
column_at ns None = 1
column_at ns (Some step) = cond (nat_le 1 step && nat_le step (length ns)) (field_in 0 ns (step - 1)).column 1

abbrev pub column_of : Record → SheetFault → ℕ
column_of r fault = column_at (numbers r) (bracket fault)

pub record Refused {L : Type 0} (k : Kind L) (rs : List Record) (rest : List ℕ) (column : ℕ) (fault : SheetFault) : Type 0 where
  pub of : Record
  pub end : ℕ
  pub begins : Begins rest of end
  pub may : May (nearest rs) (questions rs) (mark of)
  pub refused : answer k rs of ≡ Err fault
  pub told : column ≡ column_of of fault

abbrev pub Why : {L : Type 0} → Kind L → List Record → List ℕ → ℕ → FileFault → Type 0
Why k rs rest column Order = LineFault (nearest rs) (questions rs) rest column Order
Why k rs rest column TooManyQuestions = LineFault (nearest rs) (questions rs) rest column TooManyQuestions
Why k rs rest column Grammar = LineFault (nearest rs) (questions rs) rest column Grammar
Why k rs rest column BufferTooShort = ⊥
Why k rs rest column TooLong = ⊥
Why k rs rest column (Sheet fault) = Refused k rs rest column fault

pub record FirstFault {L : Type 0} (k : Kind L) (s : List ℕ) (f : RunFault) : Type 0 where
  pub before : List Record
  pub rest : List ℕ
  pub column : ℕ
  pub is : s ≡ written before ++ rest
  pub accepted : Accepted k before
  pub told : f.at ≡ Some (record { line = length before + 1; column = column })
  pub why : Why k before rest column f.fault

pub record RightFile {L : Type 0} (k : Kind L) (s : List ℕ) (rs : List Record) : Type 0 where
  pub is : s ≡ written rs
  pub accepted : Accepted k rs
  pub some : 0 < length rs
