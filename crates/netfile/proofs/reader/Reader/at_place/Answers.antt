use Rattle.std.proofs.lemmas.Bool.{false≢true}
use Rattle.grammar.specs.declared.mark.Mark.TheVariants.{Place}
use Rattle.grammar.proofs.Lines.{no_mark}
use Rattle.netfile.proofs.reader.Reader.at_place.Goals as goal

pub returns-in-Err : goal.returns-in-Err
returns-in-Err c = let b = c.in-Err.ensures in (λ e. absurd (false≢true e), λ o. absurd (no_mark _ _ Place b.0 b.1 o.0 o.1))
