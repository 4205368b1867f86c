-- The order of a file's lines, by their marks.
--
--   rank m            which part of the file lines with the mark m make up: `N:` and `S:` 0, `P:` 1, `Q:` 2
--   asks m            how many questions such a line asks
--   follows b m       a line with the mark m can come after one with the mark b, or first where there is none:
--                     `N:` or `S:` once and first, then `P:` lines, then `Q:` lines
--   May b n m         such a line can come after the mark b and n questions
--   nearest rs        the mark of the first of the records rs, if any
--   questions rs      how many of them are questions
--   Ordered b n m r   whether a line with the mark m can come there, or why not: only private functions cite it
use Rattle.std.specs.Prelude.{◌≡◌, ℕ, ◌+◌, ◌≤◌, Bool, true, false, ◌&&◌, List, [], ◌∷◌, Some, None, Ok, Err, Option, Result, ◌==◌, nat_le, nat_lt}
use Rattle.grammar.specs.declared.mark.Mark.{Mark}
use Rattle.grammar.specs.declared.mark.Mark.TheVariants.{Steps, Standing, Place, Question}
use Rattle.grammar.specs.Text.{Record, mark}
use Rattle.netfile.specs.declared.fault.FileFault.{FileFault}
use Rattle.netfile.specs.declared.fault.FileFault.TheVariants.{BufferTooShort, Grammar, Order, TooLong, TooManyQuestions, Sheet}

abbrev pub rank : Mark → ℕ
rank Steps = 0
rank Standing = 0
rank Place = 1
rank Question = 2

abbrev pub asks : Mark → ℕ
asks Steps = 0
asks Standing = 0
asks Place = 0
asks Question = 1

abbrev pub follows : Option Mark → Mark → Bool
follows None m = rank m == 0
follows (Some b) m = nat_lt 0 (rank m) && nat_le (rank b) (rank m)

abbrev pub May : Option Mark → ℕ → Mark → Type 0
May b n m = (follows b m ≡ true) × (n + asks m ≤ 16)

abbrev pub nearest : List Record → Option Mark
nearest [] = None
nearest (r ∷ rs) = Some (mark r)

abbrev pub questions : List Record → ℕ
questions [] = 0
questions (r ∷ rs) = questions rs + asks (mark r)

abbrev pub Ordered : Option Mark → ℕ → Mark → Result (Unit {0}) FileFault → Type 0
Ordered b n m (Ok _) = May b n m
Ordered b n m (Err Order) = follows b m ≡ false
Ordered b n m (Err TooManyQuestions) = (m ≡ Question) × (follows b Question ≡ true) × (16 ≤ n)
Ordered b n m (Err BufferTooShort) = ⊥
Ordered b n m (Err Grammar) = ⊥
Ordered b n m (Err TooLong) = ⊥
Ordered b n m (Err (Sheet fault)) = ⊥
