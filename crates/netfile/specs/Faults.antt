-- The numbers by which people know the faults of a run, and the layer that each comes from.
--
--   number fault   11 buffer too short · 12 grammar · 13 order · 14 file too long, or a 17th question · else the sheet's number
--   layer fault    1 the file · 2 the sheet · 3 the ledger
use Rattle.std.specs.Prelude.{ℕ}
use Rattle.sheet.specs.declared.fault.SheetFault.{SheetFault}
use Rattle.sheet.specs.declared.fault.SheetFault.TheVariants.{StepCount, Length, Effect, PlacesFull, RowTooLarge, Count, ListTooShort, Ledger}
use Rattle.sheet.specs.Faults as sheet
use Rattle.netfile.specs.declared.fault.FileFault.{FileFault}
use Rattle.netfile.specs.declared.fault.FileFault.TheVariants.{BufferTooShort, Grammar, Order, TooLong, TooManyQuestions, Sheet}

abbrev pub number : FileFault → ℕ
number BufferTooShort = 11
number Grammar = 12
number Order = 13
number TooLong = 14
number TooManyQuestions = 14
number (Sheet fault) = sheet.number fault

abbrev pub sheet_layer : SheetFault → ℕ
sheet_layer StepCount = 2
sheet_layer Length = 2
sheet_layer (Effect step) = 2
sheet_layer PlacesFull = 2
sheet_layer RowTooLarge = 2
sheet_layer (Count step) = 2
sheet_layer ListTooShort = 2
sheet_layer (Ledger fault) = 3

abbrev pub layer : FileFault → ℕ
layer BufferTooShort = 1
layer Grammar = 1
layer Order = 1
layer TooLong = 1
layer TooManyQuestions = 1
layer (Sheet fault) = sheet_layer fault
