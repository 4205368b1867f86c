-- The texts that a run writes.
--
--   field n               one space and the number, in as many digits as it needs
--   fields ns             the fields of these numbers, one after the other
--   line mark ns          a line: its mark, its numbers, and byte 10
--   row_line row          the line of a row
--   outcome_line o        the line of a question's outcome: a certificate with its multiplier and coefficients, or why there is none
--   printout rows os      the number of rows, each row, and the outcome of each question
--   net_printout n A xs   the printout of the net with n steps and the places A, and of the questions xs
--   told_at p             the line and the column at which a fault is told, both 0 where it belongs to no line
--   fault_line f          the line that tells a fault: number, layer, line, column
--   Wrote text r was is   the text was written to the front of the buffer and r is its length, or there was no room for it;
--                         what stands behind it, and all of the buffer where there is no room, is as it was
use Rattle.std.specs.Prelude.{◌≡◌, ℕ, ◌<◌, List, [], ◌∷◌, ◌++◌, map, length, drop, ℤ, Some, None, Ok, Err, codes, decimal, Option, Result}
use Rattle.std.specs.List.{flat_map}
use Rattle.cycle_theory.specs.Method.{tss}
use Rattle.cycle_theory.specs.Walk.{Outcome, certified, broken, too_large, stuck, outcome}
use Rattle.netfile.specs.declared.fault.FileFault.{FileFault}
use Rattle.netfile.specs.declared.fault.FileFault.TheVariants.{BufferTooShort}
use Rattle.netfile.specs.declared.fault.Position.{Position}
use Rattle.netfile.specs.declared.fault.RunFault.{RunFault}
use Rattle.netfile.specs.Faults.{number, layer}

abbrev pub field : ℕ → List ℕ
field n = 32 ∷ decimal n

abbrev pub fields : List ℕ → List ℕ
fields ns = flat_map field ns

abbrev pub line : List ℕ → List ℕ → List ℕ
line mark ns = mark ++ (fields ns ++ (10 ∷ []))

abbrev pub row_line : List ℕ → List ℕ
row_line row = line (codes "C:") row

abbrev pub outcome_line : Outcome → List ℕ
outcome_line (certified t coefficients) = line (codes "A:") (t ∷ coefficients)
outcome_line (broken place) = line (codes "R:") (9 ∷ place ∷ [])
outcome_line too_large = line (codes "R:") (10 ∷ 0 ∷ [])
-- never the outcome of a question on a sheet
outcome_line stuck = line (codes "R:") (10 ∷ 0 ∷ [])

abbrev pub printout : List (List ℕ) → List Outcome → List ℕ
printout rows outcomes = (line (codes "M:") (length rows ∷ []) ++ flat_map row_line rows) ++ flat_map outcome_line outcomes

abbrev pub net_printout : ℕ → List (List ℤ) → List (List ℕ) → List ℕ
net_printout n places questions = printout (tss n places) (map (outcome places (tss n places)) questions)

abbrev pub told_at : Option Position → List ℕ
told_at None = 0 ∷ 0 ∷ []
told_at (Some p) = p.line ∷ p.column ∷ []

abbrev pub fault_line : RunFault → List ℕ
fault_line f = line (codes "F:") (number f.fault ∷ layer f.fault ∷ told_at f.at)

abbrev pub Wrote : List ℕ → Result ℕ FileFault → List ℕ → List ℕ → Type 0
Wrote text (Ok n) was is = (n ≡ length text) × (is ≡ text ++ drop n was)
Wrote text (Err fault) was is = (fault ≡ BufferTooShort) × (length was < length text) × (is ≡ was)
