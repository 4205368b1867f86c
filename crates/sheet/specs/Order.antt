-- The order of a sheet's ledgers, handed on in full. A sheet's type says that its ledgers are in order, and not by which proof (Held); of a
-- kind that may prove it in several ways, the clauses `order` of the calls hand on the proof itself.
--
--   Ordered s                   both ledgers of an open sheet are in order
--   OrderKept n h s came        opening gave them so, and each offer of the run by which s came kept them so
--   RowsOrdered c               the ledger of a closed sheet is in order
--   HoldsInOrder k n A ledger   what Holds says, with the proof that the ledger is in order
--   OrderOfClosing s c          what closing s as c promises of every run that led to s and kept the order
--   OrderOfBoth a b             what comparing a and b promises of every two such runs that led to them
use Rattle.std.specs.Prelude.{ℕ, List, [], ◌∷◌}
use Rattle.ledger.specs.declared.Ledger.{Ghosts as Kind}
use Rattle.cycle_theory.specs.Nets.{Place}
use Rattle.sheet.specs.declared.sheets.OpenSheet.{OpenSheet}
use Rattle.sheet.specs.declared.sheets.ClosedSheet.{ClosedSheet}
use Rattle.sheet.specs.Held.{Holds}
use Rattle.sheet.specs.Runs.{offered, told, History, accepted, CameBy, ClosedBy}

abbrev pub Ordered : {L : Type 0} {k : Kind L} → OpenSheet L k → Type 0
Ordered {k = k} s = k.orderly s.current × k.orderly s.spare

abbrev pub OrderKept : {L : Type 0} {k : Kind L} (n : ℕ) (h : History) (s : OpenSheet L k) → CameBy n h s → Type 0
OrderKept n [] s came = Ordered s
OrderKept n (offered p answer ∷ h) s came = OrderKept n h came.0 came.1 × (Ordered came.0 → Ordered s)
OrderKept n (told count ∷ h) s came = OrderKept n h s came.0

abbrev pub RowsOrdered : {L : Type 0} {k : Kind L} → ClosedSheet L k → Type 0
RowsOrdered {k = k} c = k.orderly c.rows

pub record HoldsInOrder {L : Type 0} (k : Kind L) (n : ℕ) (places : List Place) (ledger : L) : Type 0 where
  pub order : k.orderly ledger
  pub holds : Holds k n places ledger

abbrev pub OrderOfClosing : {L : Type 0} {k : Kind L} → OpenSheet L k → ClosedSheet L k → Type 0
OrderOfClosing {k = k} s c = (n : ℕ) (h : History) (came : CameBy n h s) → OrderKept n h s came → HoldsInOrder k n (accepted h) c.rows

abbrev pub OrderOfBoth : {L M : Type 0} {j : Kind L} {k : Kind M} → ClosedSheet L j → ClosedSheet M k → Type 0
OrderOfBoth {j = j} {k = k} a b =
    (m n : ℕ) (g h : History) (ca : ClosedBy m g a) (cb : ClosedBy n h b) → OrderKept m g ca.0 ca.1 → OrderKept n h cb.0 cb.1 →
    HoldsInOrder j m (accepted g) a.rows × HoldsInOrder k n (accepted h) b.rows
