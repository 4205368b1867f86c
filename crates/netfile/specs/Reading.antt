-- Cited by private functions only: how far a file is read, and what has been made of it.
--
--   Unbegun s r              the reader r has all of the file s before it
--   Stopped r f              the line that comes is refused with the fault f
--   Comes r l                the line that comes is l
--   Told r a                 a tells of the line that comes: the line, or why it is refused
--   Advanced r l t           the line that comes is l, and t is the reader behind it
--   NextLine r a t           a tells of the line that comes, or that none does, and t is the reader then
--   NextPlace r a t          the same, where the line is marked as a place
--   Upto k s r rs            the bytes of s before the rest are the text of the accepted records rs; r has their number, the nearest mark and the number of questions
--   NoPlace r                no place can come
--   step_in f                the step that a fault names, from 1
--   place_of f               where a field begins
--   place_at fs i step       where a fault is told that was found in line i with the fields fs: at the field of the step that it names, else at column 1
--   Located l i f r          the run's fault r is f, found in line i, read as l, and told there
--   AsSheet o P r            r tells what the sheet said: where it is done, P of what was made; else its fault, passed up
--   SheetOf s rs             the open sheet s is that of the records rs
--   ClosedOf c rs            so is the closed sheet c
--   NetRead k s r c          the net of a file is read, and its sheet is closed; no place comes next
--   judged_line m j          the line of a judged answer, whose certificate has m coefficients
--   sheet_text rows js       the printout of the rows and of the answers js
--   Judges m A R js xs       the answers js tell the outcomes of the questions xs, on a sheet with the places A and the m rows R
--   FileRead k s c js        all of the file is read: c is the sheet of its records, and js judges its questions
use Rattle.std.specs.Prelude.{◌≡◌, ℕ, ◌+◌, ◌-◌, ◌<◌, true, cond, ◌&&◌, List, [], ◌∷◌, ◌++◌, map, length, take, drop, ℤ, pos, Some, None, Ok, Err, codes, Option, Result, nat_le, slice_index_or}
use Rattle.std.specs.List.{flat_map}
use Rattle.inline_list.specs.Items.{items}
use Rattle.ledger.specs.declared.Ledger.{Ghosts as Kind}
use Rattle.cycle_theory.specs.Walk.{outcome}
use Rattle.sheet.specs.declared.sheets.OpenSheet.{OpenSheet}
use Rattle.sheet.specs.declared.sheets.ClosedSheet.{ClosedSheet}
use Rattle.sheet.specs.declared.answer.Answer.TheVariants.{Certified, Broken, TooLarge}
use Rattle.sheet.specs.declared.answer.Answer.{Answer}
use Rattle.sheet.specs.Faults.{bracket}
use Rattle.sheet.specs.Verdict.{Outcome}
use Rattle.sheet.specs.Sheets as sheet
use Rattle.grammar.specs.declared.mark.Mark.TheVariants.{Place}
use Rattle.grammar.specs.declared.line.Field.{Field}
use Rattle.grammar.specs.declared.line.Line.{Line}
use Rattle.grammar.specs.Text.{Record}
use Rattle.grammar.specs.Lines.{ReadAs, Opens}
use Rattle.netfile.specs.declared.fault.FileFault.{FileFault}
use Rattle.netfile.specs.declared.fault.FileFault.TheVariants.{BufferTooShort, Grammar, Order, TooLong, TooManyQuestions, Sheet}
use Rattle.netfile.specs.declared.fault.Position.{Position}
use Rattle.netfile.specs.declared.fault.RunFault.{RunFault}
use Rattle.netfile.specs.declared.questions.Judged.{Judged}
use Rattle.netfile.specs.declared.reader.Reader.{Reader}
use Rattle.netfile.specs.Order.{asks, follows, May, nearest, questions}
use Rattle.netfile.specs.Files.{written, steps_of, places_of, asked_of, Accepted, LineFault, RightFile}
use Rattle.netfile.specs.Printouts.{line, row_line, outcome_line}

pub record Unbegun (s : List ℕ) (r : Reader) : Type 0 where
  pub rest_is : r.rest.now ≡ s
  pub lines_is : r.lines ≡ 0
  pub before_is : r.before ≡ None
  pub questions_is : r.questions ≡ 0

pub record Stopped (r : Reader) (f : RunFault) : Type 0 where
  pub column : ℕ
  pub told : f.at ≡ Some (record { line = r.lines + 1; column = column })
  pub why : LineFault r.before r.questions r.rest.now column f.fault

abbrev pub Comes : Reader → Line → Type 0
Comes r l = ReadAs r.rest.now (r.lines + 1) l × May r.before r.questions l.mark

abbrev pub Told : Reader → Result Line RunFault → Type 0
Told r (Ok l) = Comes r l
Told r (Err f) = Stopped r f

pub record Advanced (r : Reader) (l : Line) (t : Reader) : Type 0 where
  pub comes : Comes r l
  pub rest_is : t.rest.now ≡ drop l.end r.rest.now
  pub lines_is : t.lines ≡ r.lines + 1
  pub before_is : t.before ≡ Some l.mark
  pub questions_is : t.questions ≡ r.questions + asks l.mark

abbrev pub NextLine : Reader → Result (Option Line) RunFault → Reader → Type 0
NextLine r (Ok None) t = (r.rest.now ≡ []) × (t ≡ r)
NextLine r (Ok (Some l)) t = Advanced r l t
NextLine r (Err f) t = Stopped r f

abbrev pub NextPlace : Reader → Result (Option Line) RunFault → Reader → Type 0
NextPlace r (Ok None) t = (Opens r.rest.now Place → ⊥) × (t ≡ r)
NextPlace r (Ok (Some l)) t = Opens r.rest.now Place × Advanced r l t
NextPlace r (Err f) t = Stopped r f

pub record Upto {L : Type 0} (k : Kind L) (s : List ℕ) (r : Reader) (rs : List Record) : Type 0 where
  pub is : s ≡ written rs ++ r.rest.now
  pub accepted : Accepted k rs
  pub counted : r.lines ≡ length rs
  pub near : r.before ≡ nearest rs
  pub asked : r.questions ≡ questions rs

abbrev pub NoPlace : Reader → Type 0
NoPlace r = follows r.before Place ≡ true → Opens r.rest.now Place → ⊥

abbrev pub step_in : FileFault → Option ℕ
step_in BufferTooShort = None
step_in Grammar = None
step_in Order = None
step_in TooLong = None
step_in TooManyQuestions = None
step_in (Sheet fault) = bracket fault

abbrev pub place_of : Field → Position
place_of f = record { line = f.line; column = f.column }

abbrev pub place_at : List Field → ℕ → Option ℕ → Position
place_at fields i None = record { line = i; column = 1 }
place_at fields i (Some step) =
    cond (nat_le 1 step && nat_le step (length fields)) (place_of (slice_index_or fields (step - 1) (record { line = i; column = 1; value = pos 0 }))) (record { line = i; column = 1 })

abbrev pub Located : Line → ℕ → FileFault → RunFault → Type 0
Located l i fault f = f ≡ record { fault = fault; at = Some (place_at (items l.fields) i (step_in fault)) }

abbrev pub AsSheet : {T : Type 0} → Outcome → (T → Type 0) → Result T FileFault → Type 0
AsSheet o P (Ok x) = (o ≡ Ok tt) × P x
AsSheet o P (Err (Sheet fault)) = o ≡ Err fault
AsSheet o P (Err BufferTooShort) = ⊥
AsSheet o P (Err Grammar) = ⊥
AsSheet o P (Err Order) = ⊥
AsSheet o P (Err TooLong) = ⊥
AsSheet o P (Err TooManyQuestions) = ⊥

pub record SheetOf {L : Type 0} {k : Kind L} (s : OpenSheet L k) (rs : List Record) : Type 0 where
  pub steps : sheet.steps_of s ≡ steps_of rs
  pub places : sheet.places_of s ≡ places_of rs

pub record ClosedOf {L : Type 0} {k : Kind L} (c : ClosedSheet L k) (rs : List Record) : Type 0 where
  pub steps : c.steps.n ≡ steps_of rs
  pub places : sheet.places_in c ≡ places_of rs

pub record NetRead {L : Type 0} (k : Kind L) (s : List ℕ) (r : Reader) (c : ClosedSheet L k) : Type 0 where
  pub records : List Record
  pub upto : Upto k s r records
  pub some : 0 < length records
  pub sheet_is : ClosedOf c records
  pub unasked : asked_of records ≡ []
  pub quiet : questions records ≡ 0
  pub no_place : NoPlace r

-- the answer and the coefficients of its certificate
abbrev pub answer_line : Answer → List ℕ → List ℕ
answer_line (Certified t) coefficients = line (codes "A:") (t ∷ coefficients)
answer_line (Broken place) coefficients = line (codes "R:") (9 ∷ place ∷ [])
answer_line TooLarge coefficients = line (codes "R:") (10 ∷ 0 ∷ [])

abbrev pub judged_line : ℕ → Judged → List ℕ
judged_line m j = answer_line j.answer (take m j.coefficients)

abbrev pub sheet_text : List (List ℕ) → List Judged → List ℕ
sheet_text rows judged = (line (codes "M:") (length rows ∷ []) ++ flat_map row_line rows) ++ flat_map (judged_line (length rows)) judged

abbrev pub Judges : ℕ → List (List ℤ) → List (List ℕ) → List Judged → List (List ℕ) → Type 0
Judges m places rows judged asked = flat_map (judged_line m) judged ≡ flat_map outcome_line (map (outcome places rows) asked)

pub record FileRead {L : Type 0} (k : Kind L) (s : List ℕ) (c : ClosedSheet L k) (judged : List Judged) : Type 0 where
  pub records : List Record
  pub right : RightFile k s records
  pub sheet_is : ClosedOf c records
  pub judges : Judges (length (sheet.closed_list c)) (places_of records) (sheet.closed_list c) judged (asked_of records)
