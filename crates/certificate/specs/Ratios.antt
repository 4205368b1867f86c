-- Ratios as the code holds them; only inner functions' contracts cite this file.
--
--   ratio_of r   the ratio that the code holds as r; no ratio is 1 / 0, above all others
use Rattle.std.specs.Prelude.{Some, None, Option}
use Rattle.cycle_theory.specs.Walk.{Ratio}
use Rattle.certificate.specs.declared.ratio.Ratio.{Ratio as Held}

abbrev pub ratio_of : Option Held → Ratio
ratio_of None = record { top = 1; bottom = 0 }
ratio_of (Some r) = record { top = r.top; bottom = r.bottom }
