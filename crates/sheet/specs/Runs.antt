-- Whole runs: from opening, over any offers and row counts, to closing. Throughout, k is what a kind of ledger states of itself.
--
--   Event, History        an offer with its answer, or a row count told; the events of a run, the newest first
--   accepted h            the places accepted in a run, the oldest first
--   CameBy n h s          opened with n steps, the sheet came by the history h to be s
--   ClosedBy n h c        and was closed as c
--   Throughout P h        P holds of every event of h, with what happened before it
--   AnswerRight k n e h   the event e, after h, is no offer, or an offer that was answered rightly
--   CountRight n e h      the event e, after h, is no row count, or the number of minimal cycles
--   OneRun n h c          the promise on one run
--   TwoRuns ..            the promise on two runs whose closed sheets were compared
--   PromiseOfClosing s c  what closing s as c promises, of every run that led to s
--   Promise a b answer    what comparing a and b promises, of every two runs that led to them: the promise on whole runs
use Rattle.std.specs.Prelude.{◌≡◌, ℕ, ◌↔◌, List, [], ◌∷◌, ◌++◌}
use Rattle.ledger.specs.declared.Ledger.{Ghosts as Kind}
use Rattle.cycle_theory.specs.Nets.{Counts, Place, Cycle}
use Rattle.cycle_theory.specs.Method.{tss}
use Rattle.cycle_theory.specs.Theorems.{SumOf, AllMinimal, HasMinimal}
use Rattle.sheet.specs.declared.sheets.OpenSheet.{OpenSheet}
use Rattle.sheet.specs.declared.sheets.ClosedSheet.{ClosedSheet}
use Rattle.sheet.specs.declared.comparing.Comparison.{Comparison}
use Rattle.sheet.specs.declared.comparing.Comparison.TheVariants.{Same}
use Rattle.sheet.specs.Verdict.{Outcome, causes, first_of, places_after}
use Rattle.sheet.specs.Held.{Holds}
use Rattle.sheet.specs.Sheets.{Opened, Offered, Told, Closed, places_in, closed_list}

pub data Event : Type 0 where
  offered : Place → Outcome → Event
  told : ℕ → Event

abbrev pub History : Type 0
History = List Event

abbrev pub accepted : History → List Place
accepted [] = []
accepted (offered p answer ∷ h) = places_after (accepted h) p answer
accepted (told count ∷ h) = accepted h

abbrev pub CameBy : {L : Type 0} {k : Kind L} → ℕ → History → OpenSheet L k → Type 0
CameBy n [] s = Opened n s
CameBy {L} {k} n (offered p answer ∷ h) s = (before : OpenSheet L k) × CameBy n h before × Offered before p answer s
CameBy n (told count ∷ h) s = CameBy n h s × Told s count

abbrev pub ClosedBy : {L : Type 0} {k : Kind L} → ℕ → History → ClosedSheet L k → Type 0
ClosedBy {L} {k} n h c = (s : OpenSheet L k) × CameBy n h s × Closed s c

abbrev pub Throughout : (Event → History → Type 0) → History → Type 0
Throughout P [] = Unit {0}
Throughout P (e ∷ h) = P e h × Throughout P h

-- refused with the first cause that held, and accepted where none did; `new` are the minimal cycles that the place would leave
abbrev pub AnswerRight : {L : Type 0} → Kind L → ℕ → Event → History → Type 0
AnswerRight k n (offered p answer) h =
    (new : List Counts) × AllMinimal n (accepted h ++ p ∷ []) new × (answer ≡ first_of (causes k n (accepted h) p new))
AnswerRight k n (told count) h = Unit {0}

abbrev pub CountRight : ℕ → Event → History → Type 0
CountRight n (offered p answer) h = Unit {0}
CountRight n (told count) h = HasMinimal n (accepted h) count

pub record OneRun {L : Type 0} {k : Kind L} (n : ℕ) (h : History) (c : ClosedSheet L k) : Type 0 where
  pub steps : c.steps.n ≡ n
  pub places : places_in c ≡ accepted h
  -- the ledger is in order and holds the rows of the accepted places
  pub held : Holds k n (accepted h) c.rows
  -- the closed list is that of the method, in its order
  pub list : closed_list c ≡ tss n (accepted h)
  -- it has every minimal cycle of the accepted places once, ascending, and no other row
  pub minimal : AllMinimal n (accepted h) (closed_list c)
  -- each cycle of the accepted places, times some positive number, is a sum of multiples of listed rows
  pub sums : (x : Counts) → Cycle n (accepted h) x → SumOf (closed_list c) x
  -- each row count told was the number of minimal cycles of the places accepted until then
  pub counts : Throughout (CountRight n) h
  -- each offer was refused with the first cause that held, and accepted where none did
  pub answers : Throughout (AnswerRight k n) h

pub record TwoRuns
    {L M : Type 0} {j : Kind L} {k : Kind M} (m : ℕ) (g : History) (a : ClosedSheet L j) (n : ℕ) (h : History) (b : ClosedSheet M k) (answer : Comparison) : Type 0 where
  pub first : OneRun m g a
  pub second : OneRun n h b
  -- Same, exactly when there are equally many steps and each cycle of either one's places is a cycle of the other's
  pub same : (answer ≡ Same) ↔ ((m ≡ n) × ((x : Counts) → Cycle m (accepted g) x ↔ Cycle n (accepted h) x))

abbrev pub PromiseOfClosing : {L : Type 0} {k : Kind L} → OpenSheet L k → ClosedSheet L k → Type 0
PromiseOfClosing s c = (n : ℕ) (h : History) → CameBy n h s → OneRun n h c

abbrev pub Promise : {L M : Type 0} {j : Kind L} {k : Kind M} → ClosedSheet L j → ClosedSheet M k → Comparison → Type 0
Promise a b answer = (m n : ℕ) (g h : History) → ClosedBy m g a → ClosedBy n h b → TwoRuns m g a n h b answer
