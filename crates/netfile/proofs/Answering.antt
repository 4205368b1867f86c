-- The questions of a file, put to its closed sheet line by line.
use Rattle.std.proofs.Common.{◌≡◌, ℕ, ◌+◌, ◌<◌, ◌≤◌, true, List, [], ◌∷◌, ◌++◌, map, length, ℤ, Some, Ok, Err, Result, sym, refl, ap, ◌∙◌, subst, arith}
use Rattle.std.specs.List.{flat_map}
use Rattle.std.proofs.lemmas.Bool.{false≢true}
use Rattle.std.proofs.lemmas.List.{length-append, map-append}
use Rattle.std.specs.Result.{IsOk}
use Rattle.inline_list.specs.declared.Full.{Full}
use Rattle.inline_list.specs.Items.{Pushed}
use Rattle.ledger.specs.declared.Ledger.{Ghosts as Kind}
use Rattle.cycle_theory.specs.Walk.{outcome}
use Rattle.sheet.specs.declared.sheets.ClosedSheet.{ClosedSheet}
use Rattle.sheet.specs.Sheets.{closed_list}
use Rattle.grammar.specs.declared.mark.Mark.TheVariants.{Place, Question}
use Rattle.grammar.specs.declared.line.Line.{Line}
use Rattle.grammar.specs.Text.{Record, steps, standing, place, question, mark}
use Rattle.grammar.specs.Lines.{Opens, Shows}
use Rattle.grammar.proofs.Lines.{begins_mark}
use Rattle.netfile.specs.declared.questions.Judged.{Judged}
use Rattle.netfile.specs.Order.{asks, follows, nearest, questions}
use Rattle.netfile.specs.Files.{steps_of, places_of, asked_of, answer, FirstFault}
use Rattle.netfile.specs.Printouts.{outcome_line}
use Rattle.netfile.specs.declared.reader.Reader.{Reader}
use Rattle.netfile.specs.declared.fault.FileFault.{FileFault}
use Rattle.netfile.specs.declared.fault.RunFault.{RunFault}
use Rattle.netfile.specs.Reading.{Comes, Advanced, Upto, NoPlace, Located, AsSheet, ClosedOf, judged_line, Judges, FileRead}
use Rattle.std.proofs.lemmas.Grind.{flat_map-append}
use Rattle.netfile.proofs.Files.{upto_next, upto_end, upto_may}
use Rattle.netfile.proofs.Nets.{refused_line}

-- after some line, and where no place can come, only a question can
question_of : (r : Record) (rs : List Record) (rest : List ℕ) → 0 < length rs → follows (nearest rs) (mark r) ≡ true → (follows (nearest rs) Place ≡ true → Opens rest Place → ⊥) → Opens rest (mark r) → (counts : List ℕ) × (r ≡ question counts)
question_of r [] rest some may none o = absurd (omega arith)
question_of (steps n) (q ∷ rs) rest some may none o = absurd (false≢true may)
question_of standing (q ∷ rs) rest some may none o = absurd (false≢true may)
question_of (place effects) (q ∷ rs) rest some may none o = absurd (none may o)
question_of (question counts) (q ∷ rs) rest some may none o = (counts, refl)

-- after a question no place can come
no_place_after : (r : Reader) → r.before ≡ Some Question → NoPlace r
no_place_after r is e o = false≢true (subst (λ p. follows p Place ≡ true) is e)

-- one answer more
judges_more : (m : ℕ) (places : List (List ℤ)) (rows : List (List ℕ)) (judged : List Judged) (j : Judged) (asked : List (List ℕ)) (counts : List ℕ) → Judges m places rows judged asked → judged_line m j ≡ outcome_line (outcome places rows counts) → Judges m places rows (judged ++ j ∷ []) (asked ++ counts ∷ [])
judges_more m places rows judged j asked counts before here =
    flat_map-append (judged_line m) judged (j ∷ [])
    ∙ ap (λ t. t ++ (judged_line m j ++ [])) before
    ∙ ap (λ t. flat_map outcome_line (map (outcome places rows) asked) ++ (t ++ [])) here
    ∙ sym (flat_map-append outcome_line (map (outcome places rows) asked) (outcome places rows counts ∷ []))
    ∙ ap (flat_map outcome_line) (sym (map-append (outcome places rows) asked (counts ∷ [])))

-- the file is read up to a line, with the answers to the questions before it
pub record Asking {L : Type 0} (k : Kind L) (s : List ℕ) (r : Reader) (c : ClosedSheet L k) (judged : List Judged) : Type 0 where
  pub records : List Record
  pub upto : Upto k s r records
  pub some : 0 < length records
  pub sheet_is : ClosedOf c records
  pub no_place : NoPlace r
  pub counted : length judged ≡ questions records
  pub judges : Judges (length (closed_list c)) (places_of records) (closed_list c) judged (asked_of records)

module _ {L : Type 0} (k : Kind L) {s : List ℕ} {r : Reader} {c : ClosedSheet L k} {judged : List Judged} (a : Asking k s r c judged) where
  -- the line that comes is a question
  pub asked_line : (l : Line) (x : Comes r l) → (counts : List ℕ) × (x.0.of ≡ question counts)
  asked_line l x =
      let rs = a.records in
      let o = begins_mark r.rest.now x.0.of l.end x.0.begins in
      let m = upto_may k a.upto l.mark x.1 in
      question_of x.0.of rs r.rest.now a.some (subst (λ x. follows (nearest rs) x ≡ true) x.0.shows.marked m.0) (λ e. a.no_place (ap (λ p. follows p Place) a.upto.near ∙ e)) o

  -- and there is room for its answer
  pub room_for : (l : Line) → Comes r l → length judged < 16
  room_for l x =
      let q = asked_line l x in
      let same : l.mark ≡ Question = x.0.shows.marked ∙ ap mark q.1 in
      let most = subst (λ m. r.questions + asks m ≤ 16) same x.1.1 in
      let e = a.counted in
      let f = a.upto.asked in
      omega arith

  pub asking_end : r.rest.now ≡ [] → FileRead k s c judged
  asking_end h = record { records = a.records; right = upto_end k a.upto h a.some; sheet_is = a.sheet_is; judges = a.judges }

pub few_steps_closed : {L : Type 0} {k : Kind L} (c : ClosedSheet L k) (rs : List Record) → ClosedOf c rs → steps_of rs ≤ 24
few_steps_closed c rs of = subst (λ n. n ≤ 24) of.steps c.steps.few.1

-- a question, and what the sheet says to it
module _ {L : Type 0} (k : Kind L) {s : List ℕ} {r : Reader} {c : ClosedSheet L k} {judged : List Judged} (a : Asking k s r c judged) (l : Line) (t : Reader) (on : Advanced r l t) (o : Result Judged FileFault) (says : (i : ℕ) (rs : List Record) (counts : List ℕ) → Shows i l (question counts) → ClosedOf c rs → AsSheet (answer k rs (question counts)) (λ j. judged_line (length (closed_list c)) j ≡ outcome_line (outcome (places_of rs) (closed_list c) counts)) o) where
  abbrev rs : List Record
  rs = a.records

  asked_here : (counts : List ℕ) × (on.comes.0.of ≡ question counts)
  asked_here = asked_line k a l on.comes

  abbrev Made : List ℕ → Judged → Type 0
  Made counts j = judged_line (length (closed_list c)) j ≡ outcome_line (outcome (places_of rs) (closed_list c) counts)

  said : AsSheet (answer k rs on.comes.0.of) (Made asked_here.0) o
  said =
      let x = on.comes.0 in
      let q = asked_here in
      subst (λ y. AsSheet (answer k rs y) (Made q.0) o) (sym q.1) (says (r.lines + 1) rs q.0 (subst (Shows (r.lines + 1) l) q.1 x.shows) a.sheet_is)

  pub question_refused : (fault : FileFault) → o ≡ Err fault → (f : RunFault) → Located l t.lines fault f → FirstFault k s f
  question_refused fault is f located =
      let x = on.comes.0 in
      refused_line k a.upto (few_steps_closed c rs a.sheet_is) l t on (Made asked_here.0) fault (subst (AsSheet (answer k rs x.of) (Made asked_here.0)) is said) f located

  pub asking_next : (j : Judged) → o ≡ Ok j → Asking k s t c (judged ++ j ∷ [])
  asking_next j is =
      let x = on.comes.0 in
      let counts = asked_here.0 in
      let asks = asked_here.1 in
      let list = closed_list c in
      let of = a.sheet_is in
      let done : (answer k rs x.of ≡ Ok tt) × Made counts j = subst (AsSheet (answer k rs x.of) (Made counts)) is said in
      record {
        records = x.of ∷ rs;
        upto = upto_next k a.upto l t on done.0;
        some = omega arith;
        sheet_is = subst (λ y. ClosedOf c (y ∷ rs)) (sym asks) (record { steps = of.steps; places = of.places });
        no_place = no_place_after t (on.before_is ∙ ap Some (x.shows.marked ∙ ap mark asks));
        counted = length-append judged (j ∷ []) ∙ ap (λ i. i + 1) a.counted ∙ ap (λ y. questions (y ∷ rs)) (sym asks);
        judges = subst (λ y. Judges (length list) (places_of (y ∷ rs)) list (judged ++ j ∷ []) (asked_of (y ∷ rs))) (sym asks)
            (judges_more (length list) (places_of rs) list judged j (asked_of rs) counts a.judges done.1);
      }

-- an answer more in a list with room
pub pushed : {T : Type 0} (n : ℕ) (xs : List T) (x : T) (r : Result (Unit {0}) Full) (ys : List T) → length xs < n → Pushed n xs x r ys → IsOk r × (ys ≡ xs ++ x ∷ [])
pushed n xs x (Ok _) ys h p = (refl, p.1)
pushed n xs x (Err e) ys h p = let full = p.0 in absurd (omega arith)
