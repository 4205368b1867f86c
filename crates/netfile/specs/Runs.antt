-- What a run answers.
--
--   ran_text rs            the printout of the net of the records rs and of its questions
--   Unread k s f           why the file s cannot be read, told as f: more than 16,384 bytes, or else its first fault
--   SheetRead k s c        the file s is right, and c is the closed sheet of its steps and places
--   Faulty k s was f       why the run of the file s, with the buffer `was`, is refused with f:
--                          a file of more than 16,384 bytes first; then its first fault; a buffer too short for the printout last
--   Ran k s was r is       the file is right and its printout stands at the front of the buffer, r bytes long, with the rest as it was;
--                          or r is the first fault, and the buffer is as it was
--   OnlyRun k s was r is   nothing else could have been told of this file and this buffer, or left in a buffer of its length
--   OneReading k           no file is the text of two lists of accepted records
--   OnlySheet k s r        no other net could have been read from the file s, and no fault told; or no other fault, and no sheet made
use Rattle.std.specs.Prelude.{◌≡◌, ℕ, ◌<◌, ◌≤◌, List, ◌++◌, length, drop, None, Ok, Err, Result}
use Rattle.ledger.specs.declared.Ledger.{Ghosts as Kind}
use Rattle.sheet.specs.declared.sheets.ClosedSheet.{ClosedSheet}
use Rattle.sheet.specs.Sheets.{places_in}
use Rattle.grammar.specs.Text.{Record}
use Rattle.netfile.specs.declared.fault.FileFault.{FileFault}
use Rattle.netfile.specs.declared.fault.FileFault.TheVariants.{BufferTooShort, Grammar, Order, TooLong, TooManyQuestions, Sheet}
use Rattle.netfile.specs.declared.fault.RunFault.{RunFault}
use Rattle.netfile.specs.Files.{steps_of, places_of, asked_of, FirstFault, RightFile}
use Rattle.netfile.specs.Printouts.{net_printout}

abbrev pub ran_text : List Record → List ℕ
ran_text rs = net_printout (steps_of rs) (places_of rs) (asked_of rs)

-- told of no line
abbrev pub OfFile : RunFault → Type 0
OfFile f = f.at ≡ None

abbrev pub WhyUnread : {L : Type 0} → Kind L → List ℕ → RunFault → FileFault → Type 0
WhyUnread k s f TooLong = (16384 < length s) × OfFile f
WhyUnread k s f BufferTooShort = ⊥
WhyUnread k s f Grammar = (length s ≤ 16384) × FirstFault k s f
WhyUnread k s f Order = (length s ≤ 16384) × FirstFault k s f
WhyUnread k s f TooManyQuestions = (length s ≤ 16384) × FirstFault k s f
WhyUnread k s f (Sheet fault) = (length s ≤ 16384) × FirstFault k s f

abbrev pub Unread : {L : Type 0} → Kind L → List ℕ → RunFault → Type 0
Unread k s f = WhyUnread k s f f.fault

pub record SheetRead {L : Type 0} (k : Kind L) (s : List ℕ) (c : ClosedSheet L k) : Type 0 where
  pub records : List Record
  pub short : length s ≤ 16384
  pub right : RightFile k s records
  pub steps : c.steps.n ≡ steps_of records
  pub places : places_in c ≡ places_of records

-- the file is right, and its printout is longer than the buffer
abbrev pub TooShortFor : {L : Type 0} → Kind L → List ℕ → List ℕ → Type 0
TooShortFor k s was = (rs : List Record) × RightFile k s rs × (length was < length (ran_text rs))

abbrev pub WhyNot : {L : Type 0} → Kind L → List ℕ → List ℕ → RunFault → FileFault → Type 0
WhyNot k s was f TooLong = (16384 < length s) × OfFile f
WhyNot k s was f BufferTooShort = (length s ≤ 16384) × OfFile f × TooShortFor k s was
WhyNot k s was f Grammar = (length s ≤ 16384) × FirstFault k s f
WhyNot k s was f Order = (length s ≤ 16384) × FirstFault k s f
WhyNot k s was f TooManyQuestions = (length s ≤ 16384) × FirstFault k s f
WhyNot k s was f (Sheet fault) = (length s ≤ 16384) × FirstFault k s f

abbrev pub Faulty : {L : Type 0} → Kind L → List ℕ → List ℕ → RunFault → Type 0
Faulty k s was f = WhyNot k s was f f.fault

pub record RanWell {L : Type 0} (k : Kind L) (s was : List ℕ) (n : ℕ) (is : List ℕ) : Type 0 where
  pub records : List Record
  pub short : length s ≤ 16384
  pub right : RightFile k s records
  pub long : n ≡ length (ran_text records)
  pub wrote : is ≡ ran_text records ++ drop n was

abbrev pub Ran : {L : Type 0} → Kind L → List ℕ → List ℕ → Result ℕ RunFault → List ℕ → Type 0
Ran k s was (Ok n) is = RanWell k s was n is
Ran k s was (Err f) is = Faulty k s was f × (is ≡ was)

abbrev pub OnlyRun : {L : Type 0} → Kind L → List ℕ → List ℕ → Result ℕ RunFault → List ℕ → Type 0
OnlyRun k s was r is = (r' : Result ℕ RunFault) (is' : List ℕ) → length is' ≡ length was → Ran k s was r' is' → (r' ≡ r) × (is' ≡ is)

abbrev pub OneReading : {L : Type 0} → Kind L → Type 0
OneReading k = (s : List ℕ) (rs qs : List Record) → RightFile k s rs → RightFile k s qs → rs ≡ qs

pub record OnlyNet {L : Type 0} (k : Kind L) (s : List ℕ) (c : ClosedSheet L k) : Type 0 where
  pub net : (rs : List Record) → RightFile k s rs → (c.steps.n ≡ steps_of rs) × (places_in c ≡ places_of rs)
  pub faultless : (f : RunFault) → Unread k s f → ⊥

pub record OnlyFault {L : Type 0} (k : Kind L) (s : List ℕ) (f : RunFault) : Type 0 where
  pub fault : (f' : RunFault) → Unread k s f' → f' ≡ f
  pub sheetless : (c : ClosedSheet L k) → SheetRead k s c → ⊥

abbrev pub OnlySheet : {L : Type 0} (k : Kind L) → List ℕ → Result (ClosedSheet L k) RunFault → Type 0
OnlySheet k s (Ok c) = OnlyNet k s c
OnlySheet k s (Err f) = OnlyFault k s f
