-- What is told of the line that comes.
use Rattle.std.proofs.Common.{◌≡◌, ◌+◌, ◌<◌, List, ℕ, length, take, Some, Ok, Err, Result, MatchResult, sym, refl, ap, ◌∙◌, subst}
use Rattle.std.specs.Result.{IsErrAnd}
use Rattle.grammar.specs.declared.broken.BrokenLine.{BrokenLine}
use Rattle.grammar.specs.declared.line.Line.{Line}
use Rattle.grammar.specs.declared.mark.Mark.{Mark}
use Rattle.grammar.specs.Text.{mark}
use Rattle.grammar.specs.Lines.{Opened, Unmarked, Answer}
use Rattle.grammar.proofs.Lines.{no_mark, same_mark, begins_mark}
use Rattle.netfile.specs.declared.fault.FileFault.TheVariants.{Grammar}
use Rattle.netfile.specs.declared.fault.RunFault.{RunFault}
use Rattle.netfile.specs.declared.reader.Reader.{Reader}
use Rattle.netfile.specs.Order.{May}
use Rattle.netfile.specs.Reading.{Stopped, Told}
use Rattle.netfile.proofs.Passed.{passed}

-- a fault of the grammar at this column
abbrev pub broken_at : Reader → BrokenLine → RunFault
broken_at r e = record { fault = Grammar; at = Some (record { line = r.lines + 1; column = e.column }) }

module _ (r : Reader) (some : 0 < length r.rest.now) where
  pub mark_broken : (e : BrokenLine) → Unmarked r.rest.now e.column → Stopped r (broken_at r e)
  mark_broken e b = record { column = e.column; told = refl; why = (some, λ m o. absurd (no_mark r.rest.now _ m b.0 b.1 o.0 o.1), b.0) }

  -- behind a mark that may come
  pub line_told : (m : Mark) (w : List ℕ) → Opened r.rest.now m w → May r.before r.questions m → (a : Result Line BrokenLine) → Answer r.rest.now (r.lines + 1) a → (told : Result Line RunFault) → MatchResult a (λ l. told ≡ Ok l) (λ e. IsErrAnd told (λ f. f ≡ broken_at r e)) → Told r told
  line_told m w opened may (Ok l) t told h =
      let s = r.rest.now in
      let same : m ≡ l.mark = same_mark s m (mark t.of) (ap (take 2) opened) (begins_mark s t.of l.end t.begins).1 ∙ sym t.shows.marked in
      subst (Told r) (sym h) (t, subst (May r.before r.questions) same may)
  line_told m w opened may (Err e) t told h =
      passed (Told r) h (record { column = e.column; told = refl; why = (some, λ n o. subst (May r.before r.questions) (same_mark r.rest.now m n (ap (take 2) opened) o.1) may, t) })
