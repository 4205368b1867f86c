-- Runs that keep the order of the ledgers. Assumes nothing.
use Rattle.std.proofs.Common.{ℕ, List, [], ◌∷◌, ℤ, sym, subst}
use Rattle.ledger.specs.declared.Ledger.{Ghosts as Kind}
use Rattle.sheet.specs.declared.sheets.OpenSheet.{OpenSheet}
use Rattle.sheet.specs.declared.sheets.ClosedSheet.{ClosedSheet}
use Rattle.sheet.specs.Held.{Holds}
use Rattle.sheet.specs.Sheets.{places_of, Closed}
use Rattle.sheet.specs.Runs.{offered, told, History, accepted, CameBy, ClosedBy}
use Rattle.sheet.specs.Order.{Ordered, OrderKept, RowsOrdered, HoldsInOrder, OrderOfBoth}
use Rattle.sheet.proofs.Histories.{Known, known}

-- after such a run both ledgers are in order
ordered : {L : Type 0} {k : Kind L} (n : ℕ) (h : History) (s : OpenSheet L k) (came : CameBy n h s) → OrderKept n h s came → Ordered s
ordered n [] s came kept = kept
ordered n (offered p answer ∷ h) s came kept = kept.1 (ordered n h came.0 came.1 kept.0)
ordered n (told count ∷ h) s came kept = ordered n h s came.0 kept

-- and the current one holds the rows of the accepted places
pub held_in_order : {L : Type 0} {k : Kind L} (n : ℕ) (h : History) (s : OpenSheet L k) (came : CameBy n h s) → OrderKept n h s came → HoldsInOrder k n (accepted h) s.current
held_in_order {k = k} n h s came kept =
    let w : Known n h s = known n h s came in
    record {
      order = (ordered n h s came kept).0;
      holds = subst (λ (A : List (List ℤ)). Holds k n A s.current) w.places (subst (λ (m : ℕ). Holds k m (places_of s) s.current) w.steps s.held);
    }

-- so does the ledger of the closed sheet
closed_in_order :
    {L : Type 0} {k : Kind L} (n : ℕ) (h : History) (c : ClosedSheet L k) (by : ClosedBy n h c) → OrderKept n h by.0 by.1 → HoldsInOrder k n (accepted h) c.rows
closed_in_order {L} {k} n h c by kept = subst (λ (l : L). HoldsInOrder k n (accepted h) l) (sym by.2.rows) (held_in_order n h by.0 by.1 kept)

pub both_in_order : {L M : Type 0} {j : Kind L} {k : Kind M} (a : ClosedSheet L j) (b : ClosedSheet M k) → OrderOfBoth a b
both_in_order a b m n g h ca cb first second = (closed_in_order m g a ca first, closed_in_order n h b cb second)

-- a sheet in order is closed in order
pub rows_ordered : {L : Type 0} {k : Kind L} (s : OpenSheet L k) (c : ClosedSheet L k) → Closed s c → Ordered s → RowsOrdered c
rows_ordered {L} {k} s c closed o = subst (λ (l : L). k.orderly l) (sym closed.rows) o.0
