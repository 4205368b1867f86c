-- A file that is read up to a line, and each way on from there.
use Rattle.std.proofs.Common.{◌≡◌, ℕ, ◌+◌, ◌-◌, ◌<◌, ◌≤◌, ◌&&◌, leb, ◌⊎◌, List, [], ◌∷◌, ◌++◌, length, get_or, drop, pos, Some, None, Ok, Err, Option, sym, refl, ap, ◌∙◌, subst, inl, inr, append_assoc, arith}
use Rattle.std.proofs.lemmas.List.{take-append-drop, append-nil}
use Rattle.std.proofs.lemmas.Bool.{cond-true, cond-false, cases_Bool, and_parts, leb-true}
use Rattle.inline_list.specs.Items.{items}
use Rattle.ledger.specs.declared.Ledger.{Ghosts as Kind}
use Rattle.sheet.specs.declared.fault.SheetFault.{SheetFault}
use Rattle.sheet.specs.Faults.{bracket}
use Rattle.grammar.specs.declared.mark.Mark.{Mark}
use Rattle.grammar.specs.declared.line.Field.{Field}
use Rattle.grammar.specs.declared.line.Line.{Line}
use Rattle.grammar.specs.Text.{Record, mark, numbers, text}
use Rattle.grammar.specs.Lines.{Shows, field_in}
use Rattle.netfile.specs.declared.fault.FileFault.{FileFault}
use Rattle.netfile.specs.declared.fault.FileFault.TheVariants.{BufferTooShort, Grammar, Order, TooLong, TooManyQuestions, Sheet}
use Rattle.netfile.specs.declared.fault.RunFault.{RunFault}
use Rattle.netfile.specs.declared.reader.Reader.{Reader}
use Rattle.netfile.specs.Order.{asks, May, nearest, questions}
use Rattle.netfile.specs.Files.{written, answer, LineFault, column_at, column_of, Why, FirstFault, RightFile}
use Rattle.netfile.specs.Reading.{Unbegun, Stopped, Comes, Advanced, Upto, place_of, place_at}

module _ {L : Type 0} (k : Kind L) where
  -- nothing has been read
  pub upto_start : (s : List ℕ) (r : Reader) → Unbegun s r → Upto k s r []
  upto_start s r b = record { is = sym b.rest_is; accepted = tt; counted = b.lines_is; near = b.before_is; asked = b.questions_is }

  module _ {s : List ℕ} {r : Reader} {rs : List Record} (u : Upto k s r rs) where
    pub upto_may : (m : Mark) → May r.before r.questions m → May (nearest rs) (questions rs) m
    upto_may m may = subst (λ q. May (nearest rs) q m) u.asked (subst (λ p. May p r.questions m) u.near may)

    -- one accepted line more
    pub upto_next : (l : Line) (t : Reader) (a : Advanced r l t) → answer k rs a.comes.0.of ≡ Ok tt → Upto k s t (a.comes.0.of ∷ rs)
    upto_next l t a done =
        let x = a.comes.0 in
        let same : l.mark ≡ mark x.of = x.shows.marked in
        record {
          is = u.is ∙ ap (λ w. written rs ++ w) (sym (take-append-drop l.end r.rest.now) ∙ ap (λ w. w ++ drop l.end r.rest.now) x.begins.is ∙ ap (λ w. text x.of ++ w) (sym a.rest_is)) ∙ sym (append_assoc (written rs) (text x.of) t.rest.now);
          accepted = (u.accepted, x.begins.right, subst (May (nearest rs) (questions rs)) same (upto_may l.mark a.comes.1), done);
          counted = a.lines_is ∙ ap (λ i. i + 1) u.counted ∙ omega arith;
          near = a.before_is ∙ ap Some same;
          asked = a.questions_is ∙ ap (λ q. q + asks l.mark) u.asked ∙ ap (λ m. questions rs + asks m) same;
        }

    -- a line that is refused before the sheet sees it
    why_line : (column : ℕ) (fault : FileFault) → LineFault (nearest rs) (questions rs) r.rest.now column fault → Why k rs r.rest.now column fault
    why_line column Order h = h
    why_line column TooManyQuestions h = h
    why_line column Grammar h = h
    why_line column BufferTooShort h = h
    why_line column TooLong h = h
    why_line column (Sheet fault) h = absurd h

    pub line_fault : (f : RunFault) → Stopped r f → FirstFault k s f
    line_fault f h = record {
      before = rs;
      rest = r.rest.now;
      column = h.column;
      is = u.is;
      accepted = u.accepted;
      told = h.told ∙ ap (λ (i : ℕ). Some (record { line = i + 1; column = h.column })) u.counted;
      why = why_line h.column f.fault (subst (λ q. LineFault (nearest rs) q r.rest.now h.column f.fault) u.asked (subst (λ p. LineFault p r.questions r.rest.now h.column f.fault) u.near h.why));
    }

    -- a line that the sheet refuses
    pub sheet_fault : (l : Line) (x : Comes r l) (fault : SheetFault) (column : ℕ) → answer k rs x.0.of ≡ Err fault → column ≡ column_of x.0.of fault → FirstFault k s (record { fault = Sheet fault; at = Some (record { line = r.lines + 1; column = column }) })
    sheet_fault l x fault column refused told = record {
      before = rs;
      rest = r.rest.now;
      column = column;
      is = u.is;
      accepted = u.accepted;
      told = ap (λ (i : ℕ). Some (record { line = i + 1; column = column })) u.counted;
      why = record {
        of = x.0.of;
        end = l.end;
        begins = x.0.begins;
        may = subst (May (nearest rs) (questions rs)) x.0.shows.marked (upto_may l.mark x.1);
        refused = refused;
        told = told;
      };
    }

    pub upto_end : r.rest.now ≡ [] → 0 < length rs → RightFile k s rs
    upto_end e some = record { is = u.is ∙ ap (λ w. written rs ++ w) e ∙ append-nil (written rs); accepted = u.accepted; some = some }

-- where a fault of the sheet is told
module _ (i : ℕ) (l : Line) (of : Record) (shows : Shows i l of) where
  abbrev start : Field
  start = record { line = i; column = 1; value = pos 0 }

  -- a step that is named, where all numbers of the line are kept
  step_told : (step : ℕ) → length (numbers of) ≤ 25 → place_at (items l.fields) i (Some step) ≡ record { line = i; column = column_at (numbers of) (Some step) }
  step_told step short =
      let kept = shows.kept in
      let size : length (items l.fields) ≡ length (numbers of) = omega arith in
      let inside = leb 1 step && leb step (length (numbers of)) in
      let test : (leb 1 step && leb step (length (items l.fields))) ≡ inside = ap (λ (n : ℕ). leb 1 step && leb step n) size in
      elim (cases_Bool inside) [
        | inl e ↦
            let parts = and_parts (leb 1 step) (leb step (length (numbers of))) e in
            let some = leb-true 1 step parts.0 in
            let few = leb-true step (length (numbers of)) parts.1 in
            cond-true _ (place_of (get_or (items l.fields) (step - 1) start)) (place_of start) (test ∙ e)
            ∙ ap (λ (f : Field). place_of f) (shows.held (step - 1) (omega arith) (omega arith) start)
            ∙ ap (λ (c : ℕ). record { line = i; column = c }) (sym (cond-true inside (field_in 0 (numbers of) (step - 1)).column 1 e))
        | inr e ↦
            cond-false _ (place_of (get_or (items l.fields) (step - 1) start)) (place_of start) (test ∙ e)
            ∙ ap (λ (c : ℕ). record { line = i; column = c }) (sym (cond-false inside (field_in 0 (numbers of) (step - 1)).column 1 e))
      ]

  place_told : (named : Option ℕ) → (named ≡ None) ⊎ (length (numbers of) ≤ 25) → place_at (items l.fields) i named ≡ record { line = i; column = column_at (numbers of) named }
  place_told None few = refl
  place_told (Some step) few =
      elim few [ inl none ↦ cc | inr short ↦ step_told step short ]

  pub told_at : (fault : SheetFault) → (bracket fault ≡ None) ⊎ (length (numbers of) ≤ 25) → place_at (items l.fields) i (bracket fault) ≡ record { line = i; column = column_of of fault }
  told_at fault few = place_told (bracket fault) few
