-- The unit rows, one after another: each may be held, and all fit. Calls on a ledger that are not refused.
use Rattle.std.proofs.Common.{◌≡◌, ℕ, zero, suc, ◌+◌, ◌-◌, ◌<◌, ◌≤◌, List, [], ◌∷◌, ◌++◌, length, take, drop, replicate, Err, sum_by, sym, ap, ◌∙◌, arith, length-set, take_all}
use Rattle.std.specs.List.{insert, AllByRecursion}
use Rattle.std.proofs.ByRecursion.{All-get_or, All-set}
use Rattle.std.proofs.lemmas.List.Sums.{sum_by-take-le}
use Rattle.std.proofs.lemmas.List.FromFn.{length-map-range_with_len, take-map-range_with_len, map-range_with_len_more, sum_by-map-range_with_len_more}
use Rattle.std.proofs.lemmas.List.{drop_all}
use Rattle.ledger.specs.declared.fault.LedgerFault.{LedgerFault}
use Rattle.ledger.specs.declared.fault.LedgerFault.TheVariants.{NoRow, NoPosition, CountTooLarge, Full}
use Rattle.ledger.specs.Rows.{unit, units, Small}
use Rattle.ledger.specs.Calls.{Position, Inserts}

all_zero : (n : ℕ) → AllByRecursion (λ x. x ≤ 1048575) (replicate n 0)
all_zero zero = tt
all_zero (suc n) = (omega arith, all_zero n)

pub length_units : (n : ℕ) → length (units n) ≡ n
length_units n = length-map-range_with_len unit 0 n

-- one unit row more fits
pub units_fit : (charge : List ℕ → ℕ) (total i : ℕ) → sum_by charge (units 24) ≤ total → i < 24 → sum_by charge (units i) + charge (unit i) ≤ total
units_fit charge total i all h =
    let a = sum_by-map-range_with_len_more charge unit 0 i i (omega arith) in
    let b = ap (sum_by charge) (take-map-range_with_len unit 0 24 (i + 1) (omega arith)) in
    let d = sum_by-take-le charge (units 24) (i + 1) in
    omega (arith, a, b, d)

-- the next unit row at the end
pub units_more : (i : ℕ) → insert (units i) i (unit i) ≡ units (i + 1)
units_more i =
    let n : length (units i) ≤ i = let e = length_units i in omega (arith, e) in
    let a : take i (units i) ≡ units i = take_all _ _ n in
    let b : drop i (units i) ≡ [] = drop_all _ _ n in
    ap (λ xs. xs ++ (unit i ∷ drop i (units i))) a ∙ ap (λ ys. units i ++ (unit i ∷ ys)) b ∙ sym (map-range_with_len_more unit 0 i i (omega arith))

module _ (charge : List ℕ → ℕ) (total : ℕ) (rows : List (List ℕ)) (k : ℕ) (row : List ℕ) (rows' : List (List ℕ)) where
  -- an insertion that nothing speaks against is accepted
  pub not_refused :
      (e : LedgerFault) → Position k rows → Small row → sum_by charge rows + charge row ≤ total → Inserts charge total rows k row rows' (Err e) → ⊥
  not_refused NoRow place small fits (why, same) = why
  not_refused NoPosition place small fits (why, same) = why place
  not_refused (CountTooLarge j) place small fits (why, same) = let h = why.1 in let s = small (j - 1) (omega arith) in omega (arith, s)
  not_refused Full place small fits (why, same) = let h = why.2 in omega (arith, h)

-- a unit row may be held
pub unit_small : (i : ℕ) → Small (unit i)
unit_small i j h = All-get_or (λ x. x ≤ 1048575) (unit i) j 0 (simp length-set (omega arith)) (All-set (λ x. x ≤ 1048575) (replicate 24 0) i 1 (omega arith) (all_zero 24))
