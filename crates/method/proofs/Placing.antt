-- A row's position in an ascending list, and an insertion there.
use Rattle.std.proofs.Common.{◌≡◌, ℕ, zero, suc, ◌+◌, ◌-◌, ◌<◌, ◌≤◌, true, false, cond, List, [], ◌∷◌, length, Ok, Err, sum_by, Result, sym, refl, ap, ◌∙◌, subst, inl, inr, ⊎_elim, le_of_suc-le-suc, not-suc-le-zero, arith}
use Rattle.std.specs.List.{insert as inserted}
use Rattle.std.proofs.lemmas.Bool.{cases_Bool, cond-true, cond-false, cases_order, cases_lt, both_ways}
use Rattle.std.proofs.lemmas.List.Sums.{sum_by-cons}
use Rattle.cycle_theory.specs.Nets.{Counts, Mem, Before, Ascending}
use Rattle.cycle_theory.specs.Method.{before, insert}
use Rattle.cycle_theory.proofs.Ascending.{before_true, neither_before, before_trans, before_irrefl}
use Rattle.ledger.specs.declared.Ledger.{Ghosts as Kind}
use Rattle.ledger.specs.declared.fault.LedgerFault.{LedgerFault}
use Rattle.ledger.specs.declared.fault.LedgerFault.TheVariants.{NoRow, NoPosition, CountTooLarge, Full}
use Rattle.ledger.specs.Rows.{Small}
use Rattle.ledger.specs.Calls.{Position, Inserts}
use Rattle.method.specs.Ascents.{row_at, Stands, InPosition}
use Rattle.method.proofs.Comparing.{true_before}

pub mem_row : (l : List Counts) (i : ℕ) → i < length l → Mem (row_at l i) l
mem_row [] i h = absurd (not-suc-le-zero h)
mem_row (x ∷ l) zero h = inl refl
mem_row (x ∷ l) (suc i) h = inr (mem_row l i (le_of_suc-le-suc h))

pub mem_index : (l : List Counts) (z : Counts) → Mem z l → (i : ℕ) × (i < length l) × (z ≡ row_at l i)
mem_index [] z m = absurd m
mem_index (x ∷ l) z (inl e) = (0, omega arith, e)
mem_index (x ∷ l) z (inr m) = let r = mem_index l z m in (suc r.0, (let h = r.1 in omega (arith, h)), r.2)

ascending_at : (l : List Counts) → Ascending l → (i j : ℕ) → i < j → j < length l → Before (row_at l i) (row_at l j)
ascending_at [] a i j h k = absurd (not-suc-le-zero k)
ascending_at (x ∷ l) a i zero h k = absurd (not-suc-le-zero h)
ascending_at (x ∷ l) a zero (suc j) h k = a.0 (row_at l j) (mem_row l j (le_of_suc-le-suc k))
ascending_at (x ∷ l) a (suc i) (suc j) h k = ascending_at l a.1 i j (le_of_suc-le-suc h) (le_of_suc-le-suc k)

-- equal rows of an ascending list stand at one index
pub index_once : (l : List Counts) → Ascending l → (i j : ℕ) → i < length l → j < length l → row_at l i ≡ row_at l j → i ≡ j
index_once l a i j hi hj e = ⊎_elim (λ q. q) (⊎_elim
    (λ (h : i < j). absurd (before_irrefl (row_at l i) (subst (λ (z : Counts). Before (row_at l i) z) (sym e) (ascending_at l a i j h hj))))
    (λ (h : j < i). absurd (before_irrefl (row_at l j) (subst (λ (z : Counts). Before (row_at l j) z) e (ascending_at l a j i h hi)))))
    (cases_order i j)

-- an insertion at the row's position is the method's
inserted_there : (l : List Counts) (x : Counts) (k : ℕ) → Ascending l → Stands l x k → (Mem x l → ⊥) → inserted l k x ≡ insert x l
inserted_there [] x zero a s new = refl
inserted_there [] x (suc k) a s new = absurd (not-suc-le-zero s.inside)
inserted_there (y ∷ l) x zero a s new =
    let t : before x y ≡ true = ⊎_elim (λ q. q)
    (λ f. ⊎_elim
    (λ g. absurd (s.after 0 (omega arith) (omega arith) (before_true y x g)))
    (λ g. absurd (new (inl (neither_before x y f g))))
    (cases_Bool (before y x)))
    (cases_Bool (before x y)) in
    sym (cond-true (before x y) (x ∷ y ∷ l) (cond (before y x) (y ∷ insert x l) (y ∷ l)) t)
inserted_there (y ∷ l) x (suc k) a s new =
    let b : Before y x = s.before 0 (omega arith) in
    let t : before y x ≡ true = true_before y x b in
    let f : before x y ≡ false = ⊎_elim
    (λ g. absurd (before_irrefl x (before_trans x y x (before_true x y g) b)))
    (λ q. q)
    (cases_Bool (before x y)) in
    let s' : Stands l x k = record {
      inside = le_of_suc-le-suc s.inside;
      before = λ i h. s.before (suc i) (omega arith);
      after = λ i h h'. s.after (suc i) (omega arith) (omega arith);
    } in
    ap (λ (m : List Counts). y ∷ m) (inserted_there l x k a.1 s' (λ m. new (inr m)))
    ∙ sym (cond-false (before x y) (x ∷ y ∷ l) (cond (before y x) (y ∷ insert x l) (y ∷ l)) f ∙ cond-true (before y x) (y ∷ insert x l) (y ∷ l) t)

-- what the ledger answers there
module _ {L : Type 0} (kind : Kind L) (l l' : L) (k : ℕ) (x : Counts) (asc : Ascending (kind.rows l)) (stands : Stands (kind.rows l) x k) (small : Small x) (new : Mem x (kind.rows l) → ⊥) where
  here : Position (k + 1) (kind.rows l)
  here = let h = stands.inside in (omega arith, omega (arith, h))

  pub kept_there : (r : Result (Unit {0}) LedgerFault) → Inserts kind.charge kind.TOTAL (kind.rows l) (k + 1) x (kind.rows l') r → InPosition kind l x l' r
  kept_there (Ok _) (p, s, fits, is) =
      let e : (k + 1) - 1 ≡ k = omega arith in
      is ∙ ap (λ (n : ℕ). inserted (kind.rows l) n x) e ∙ inserted_there (kind.rows l) x k asc stands new
  kept_there (Err NoRow) (why, same) = absurd why
  kept_there (Err NoPosition) (why, same) = absurd (why here)
  kept_there (Err (CountTooLarge j)) (why, same) =
      let h = why.1 in
      let b = h.2 in
      let s = small (j - 1) (let p = h.0 in let q = h.1 in omega (arith, p, q)) in
      absurd (let f : ⊥ = omega (arith, s, b) in f)
  kept_there (Err Full) (why, same) = (refl, why.2, same)

-- there are no more rows than their charges
pub length_le : (charge : List ℕ → ℕ) → ((row : List ℕ) → 1 ≤ charge row) → (rows : List Counts) → length rows ≤ sum_by charge rows
length_le charge one [] = omega arith
length_le charge one (x ∷ l) = let a = sum_by-cons charge x l in let b = one x in let r = length_le charge one l in omega (arith, a, b, r)

-- one turn of the search
module _ (rows : List Counts) (x at : Counts) (mid : ℕ) (asc : Ascending rows) (held : mid < length rows) (is : at ≡ row_at rows mid) where
  pub turn_right : before at x ≡ true → (i : ℕ) → i < mid + 1 → Before (row_at rows i) x
  turn_right t i h =
      let m : Before (row_at rows mid) x = subst (λ (z : Counts). Before z x) is (before_true at x t) in
      ⊎_elim
      (λ (l : i < mid). before_trans (row_at rows i) (row_at rows mid) x (ascending_at rows asc i mid l held) m)
      (λ (l : mid ≤ i). let e : mid ≡ i = omega arith in subst (λ (n : ℕ). Before (row_at rows n) x) e m)
      (cases_lt i mid)

  pub turn_left : before at x ≡ false → (i : ℕ) → mid ≤ i → i < length rows → Before (row_at rows i) x → ⊥
  turn_left f i h k l =
      let m : Before (row_at rows mid) x → ⊥ = λ q. both_ways (before at x) f (true_before at x (subst (λ (z : Counts). Before z x) (sym is) q)) in
      ⊎_elim
      (λ (g : mid < i). m (before_trans (row_at rows mid) (row_at rows i) x (ascending_at rows asc mid i g k) l))
      (λ (g : i ≤ mid). let e : i ≡ mid = omega arith in m (subst (λ (n : ℕ). Before (row_at rows n) x) e l))
      (cases_lt mid i)
