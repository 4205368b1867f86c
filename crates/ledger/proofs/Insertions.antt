-- What an insertion makes of a list that is in order.
use Rattle.std.proofs.Common.{◌≡◌, ℕ, ◌+◌, ◌≤◌, Bool, true, cond, List, [], ◌∷◌, length, take, drop, sum_by, sym, refl, ap, ◌∙◌, subst, arith}
use Rattle.std.specs.List.{insert, AllByRecursion}
use Rattle.std.proofs.lemmas.List.Sums.{sum_by-cons, sum_by-insert}
use Rattle.std.proofs.ByRecursion.{All-append, All-take, All-drop}
use Rattle.ledger.specs.Rows.{WellKept, Small}

pub all_inserted : {X : Type 0} (P : X → Type 0) (xs : List X) (i : ℕ) (y : X) → AllByRecursion P xs → P y → AllByRecursion P (insert xs i y)
all_inserted P xs i y all here = All-append P (take i xs) (y ∷ drop i xs) (All-take P i xs all) (here, All-drop P i xs all)

-- one row more may be held, where its charge fits
pub kept_inserted :
    (charge : List ℕ → ℕ) (total : ℕ) (rows : List (List ℕ)) (i : ℕ) (row : List ℕ) → WellKept charge total rows → length row ≡ 24 → Small row
    → sum_by charge rows + charge row ≤ total → WellKept charge total (insert rows i row)
kept_inserted charge total rows i row o wide small fits = record {
  wide = all_inserted (λ r. length r ≡ 24) rows i row o.wide wide;
  small = all_inserted Small rows i row o.small small;
  fits = let e = sum_by-insert charge rows i row in omega (arith, e);
}

-- the same of a list that equals the one with the row
pub kept_after :
    (charge : List ℕ → ℕ) (total : ℕ) (rows rows' : List (List ℕ)) (i : ℕ) (row : List ℕ) → rows' ≡ insert rows i row
    → WellKept charge total rows → length row ≡ 24 → Small row → sum_by charge rows + charge row ≤ total → WellKept charge total rows'
kept_after charge total rows rows' i row is o wide small fits =
    subst (WellKept charge total) (sym is) (kept_inserted charge total rows i row o wide small fits)

-- a change that is made where a test holds is made
pub made_when : {X : Type 0} (test : Bool) (changed same xs : X) → xs ≡ cond test changed same → test ≡ true → xs ≡ changed
made_when test changed same xs is holds = is ∙ ap (λ b. cond b changed same) holds

-- at a charge of one to a row the charges are as many as the rows
pub sum_by_one : {X : Type 0} (xs : List X) → sum_by (λ _. 1) xs ≡ length xs
sum_by_one [] = refl
sum_by_one (x ∷ xs) = sum_by-cons (λ _. 1) x xs ∙ (let e = sum_by_one xs in omega (arith, e))
