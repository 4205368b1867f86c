-- The net of a file, read line by line into a sheet.
use Rattle.std.proofs.Common.{◌≡◌, ℕ, ◌+◌, ◌<◌, ◌≤◌, List, [], ◌∷◌, length, ℤ, Some, None, Ok, Err, Result, sym, refl, ap, ◌∙◌, subst, arith}
use Rattle.std.proofs.lemmas.Bool.{eqb-true}
use Rattle.ledger.specs.declared.Ledger.{Ghosts as Kind}
use Rattle.sheet.specs.declared.fault.SheetFault.{SheetFault}
use Rattle.sheet.specs.declared.sheets.OpenSheet.{OpenSheet}
use Rattle.sheet.specs.declared.sheets.ClosedSheet.{ClosedSheet}
use Rattle.sheet.specs.Sheets.{Closed}
use Rattle.sheet.specs.Verdict.{Outcome}
use Rattle.grammar.specs.declared.mark.Mark.{Mark}
use Rattle.grammar.specs.declared.mark.Mark.TheVariants.{Place}
use Rattle.grammar.specs.declared.line.Line.{Line}
use Rattle.grammar.specs.Text.{Record, steps, standing, place, question, mark}
use Rattle.grammar.specs.Lines.{Opens, Shows}
use Rattle.grammar.proofs.Lines.{same_mark, begins_mark}
use Rattle.netfile.specs.declared.fault.FileFault.{FileFault}
use Rattle.netfile.specs.declared.fault.FileFault.TheVariants.{BufferTooShort, Grammar, Order, TooLong, TooManyQuestions, Sheet}
use Rattle.netfile.specs.declared.fault.Position.{Position}
use Rattle.netfile.specs.declared.fault.RunFault.{RunFault}
use Rattle.netfile.specs.Order.{rank, May, questions}
use Rattle.netfile.specs.Files.{steps_of, asked_of, answer, column_of, FirstFault}
use Rattle.netfile.specs.declared.reader.Reader.{Reader}
use Rattle.netfile.specs.Reading.{Unbegun, Comes, Advanced, Upto, Located, AsSheet, SheetOf, NetRead}
use Rattle.netfile.proofs.Verdicts.{names_few}
use Rattle.netfile.proofs.Files.{upto_start, upto_next, sheet_fault, told_at}

-- a fault that comes from the sheet
as_fault : {T : Type 0} (o : Outcome) (P : T → Type 0) (fault : FileFault) → AsSheet o P (Err fault) → (e : SheetFault) × (fault ≡ Sheet e) × (o ≡ Err e)
as_fault o P BufferTooShort h = absurd h
as_fault o P Grammar h = absurd h
as_fault o P Order h = absurd h
as_fault o P TooLong h = absurd h
as_fault o P TooManyQuestions h = absurd h
as_fault o P (Sheet e) h = (e, refl, h)

-- a line that the sheet refuses is the first fault of the file
pub refused_line : {L T : Type 0} (k : Kind L) {s : List ℕ} {r : Reader} {rs : List Record} → Upto k s r rs → steps_of rs ≤ 24 → (l : Line) (t : Reader) (a : Advanced r l t) (P : T → Type 0) (fault : FileFault) → AsSheet (answer k rs a.comes.0.of) P (Err fault) → (f : RunFault) → Located l t.lines fault f → FirstFault k s f
refused_line k {s} {r} {rs} u few l t a P fault says f located =
    let x = a.comes in
    let y = as_fault (answer k rs x.0.of) P fault says in
    let e = y.0 in
    let told : Located l (r.lines + 1) (Sheet e) f = subst (λ j. Located l j (Sheet e) f) a.lines_is (subst (λ y. Located l t.lines y f) y.1 located) in
    let at = told_at (r.lines + 1) l x.0.of x.0.shows e (names_few k rs x.0.of e few y.2) in
    subst (FirstFault k s) (sym (told ∙ ap (λ (p : Position). record { fault = Sheet e; at = Some p }) at))
    (sheet_fault k u l x e (column_of x.0.of e) y.2 refl)

-- the first line
pub first_rank : (r : Reader) (m : Mark) → r.before ≡ None → May r.before r.questions m → rank m ≡ 0
first_rank r m e may = eqb-true (rank m) 0 (subst (λ p. May p r.questions m) e may).0

unasked_first : (of : Record) → rank (mark of) ≡ 0 → asked_of (of ∷ []) ≡ []
unasked_first (steps n) h = refl
unasked_first standing h = refl
unasked_first (place effects) h = refl
unasked_first (question counts) h = absurd (omega arith)

quiet_first : (of : Record) → rank (mark of) ≡ 0 → questions (of ∷ []) ≡ 0
quiet_first (steps n) h = refl
quiet_first standing h = refl
quiet_first (place effects) h = refl
quiet_first (question counts) h = absurd (omega arith)

-- a line that is marked as a place
place_of : (r : Record) → mark r ≡ Place → (effects : List ℤ) × (r ≡ place effects)
place_of (steps n) e = cc
place_of standing e = cc
place_of (place effects) e = (effects, refl)
place_of (question counts) e = cc

pub place_line : (r : Reader) (l : Line) (x : Comes r l) → Opens r.rest.now Place → (effects : List ℤ) × (x.0.of ≡ place effects)
place_line r l x o = place_of x.0.of (same_mark r.rest.now (mark x.0.of) Place (begins_mark r.rest.now x.0.of l.end x.0.begins).1 o.1)

-- the net is read up to a line, into an open sheet
pub record NetSofar {L : Type 0} (k : Kind L) (s : List ℕ) (r : Reader) (sheet : OpenSheet L k) : Type 0 where
  pub records : List Record
  pub upto : Upto k s r records
  pub some : 0 < length records
  pub sheet_is : SheetOf sheet records
  pub unasked : asked_of records ≡ []
  pub quiet : questions records ≡ 0

pub few_steps : {L : Type 0} {k : Kind L} (sheet : OpenSheet L k) (rs : List Record) → SheetOf sheet rs → steps_of rs ≤ 24
few_steps sheet rs of = subst (λ n. n ≤ 24) of.steps sheet.steps.few.1

-- the first line, and what the sheet says to it
module _ {L : Type 0} (k : Kind L) {s : List ℕ} {r : Reader} (b : Unbegun s r) (l : Line) (t : Reader) (a : Advanced r l t) (o : Result (OpenSheet L k) FileFault) (says : (i : ℕ) (of : Record) → Shows i l of → rank (mark of) ≡ 0 → AsSheet (answer k [] of) (λ (x : OpenSheet L k). SheetOf x (of ∷ [])) o) where
  zero : rank (mark a.comes.0.of) ≡ 0
  zero = ap rank (sym a.comes.0.shows.marked) ∙ first_rank r l.mark b.before_is a.comes.1

  abbrev Made : OpenSheet L k → Type 0
  Made x = SheetOf x (a.comes.0.of ∷ [])

  said : AsSheet (answer k [] a.comes.0.of) Made o
  said = says (r.lines + 1) a.comes.0.of a.comes.0.shows zero

  pub first_refused : (fault : FileFault) → o ≡ Err fault → (f : RunFault) → Located l t.lines fault f → FirstFault k s f
  first_refused fault is f located = refused_line k (upto_start k s r b) (omega arith) l t a Made fault (subst (AsSheet (answer k [] a.comes.0.of) Made) is said) f located

  pub net_first : (sheet : OpenSheet L k) → o ≡ Ok sheet → NetSofar k s t sheet
  net_first sheet is =
      let x = a.comes.0 in
      let done : (answer k [] x.of ≡ Ok tt) × Made sheet = subst (AsSheet (answer k [] x.of) Made) is said in
      record {
        records = x.of ∷ [];
        upto = upto_next k (upto_start k s r b) l t a done.0;
        some = omega arith;
        sheet_is = done.1;
        unasked = unasked_first x.of zero;
        quiet = quiet_first x.of zero;
      }

-- a place, and what the sheet says to it
module _ {L : Type 0} (k : Kind L) {s : List ℕ} {r : Reader} {before : OpenSheet L k} (sofar : NetSofar k s r before) (l : Line) (t : Reader) (here : Opens r.rest.now Place × Advanced r l t) (after : OpenSheet L k) (o : Result (Unit {0}) FileFault) (says : (i : ℕ) (rs : List Record) (effects : List ℤ) → Shows i l (place effects) → SheetOf before rs → AsSheet (answer k rs (place effects)) (λ _. SheetOf after (place effects ∷ rs)) o) where
  abbrev rs : List Record
  rs = sofar.records

  abbrev Accepts : Record → Unit {0} → Type 0
  Accepts x _ = SheetOf after (x ∷ rs)

  said_place : AsSheet (answer k rs here.1.comes.0.of) (Accepts here.1.comes.0.of) o
  said_place =
      let x = here.1.comes.0 in
      let p = place_line r l here.1.comes here.0 in
      subst (λ x. AsSheet (answer k rs x) (Accepts x) o) (sym p.1) (says (r.lines + 1) rs p.0 (subst (Shows (r.lines + 1) l) p.1 x.shows) sofar.sheet_is)

  pub place_refused : (fault : FileFault) → o ≡ Err fault → (f : RunFault) → Located l t.lines fault f → FirstFault k s f
  place_refused fault is f located =
      let x = here.1.comes.0 in
      refused_line k sofar.upto (few_steps before rs sofar.sheet_is) l t here.1 (Accepts x.of) fault (subst (AsSheet (answer k rs x.of) (Accepts x.of)) is said_place) f located

  pub net_next : o ≡ Ok tt → NetSofar k s t after
  net_next is =
      let x = here.1.comes.0 in
      let p = place_line r l here.1.comes here.0 in
      let done : (answer k rs x.of ≡ Ok tt) × Accepts x.of tt = subst (AsSheet (answer k rs x.of) (Accepts x.of)) is said_place in
      let quiet = ap (λ y. questions (y ∷ rs)) p.1 in
      let before = sofar.quiet in
      record {
        records = x.of ∷ rs;
        upto = upto_next k sofar.upto l t here.1 done.0;
        some = omega arith;
        sheet_is = done.1;
        unasked = ap (λ y. asked_of (y ∷ rs)) p.1 ∙ sofar.unasked;
        quiet = quiet ∙ omega arith;
      }

-- no place comes any more
pub net_end : {L : Type 0} (k : Kind L) {s : List ℕ} {r : Reader} {sheet : OpenSheet L k} → NetSofar k s r sheet → (t : Reader) → (Opens r.rest.now Place → ⊥) × (t ≡ r) → (c : ClosedSheet L k) → Closed sheet c → NetRead k s t c
net_end k {s} {r} sofar t none c closed = subst (λ q. NetRead k s q c) (sym none.1) (record {
  records = sofar.records;
  upto = sofar.upto;
  some = sofar.some;
  sheet_is = record { steps = closed.steps ∙ sofar.sheet_is.steps; places = closed.places ∙ sofar.sheet_is.places };
  unasked = sofar.unasked;
  quiet = sofar.quiet;
  no_place = λ _ o. none.0 o;
})
