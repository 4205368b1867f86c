-- The pairs of a row: how many there are, and what it takes to put them among others.
use Rattle.std.proofs.Common.{◌≡◌, ℕ, zero, suc, ◌+◌, ◌-◌, ◌≤◌, cond, not, eqb, List, [], ◌∷◌, ◌++◌, map, length, get_or, take, drop, sym, refl, ap, ◌∙◌, ⊎_elim, append_assoc, append-nil, add-one, arith, length-append, length-drop, length-take, take_all, eq-eqb, ne_eqb}
use Rattle.std.proofs.lemmas.Bool.{cases_eq}
use Rattle.std.proofs.lemmas.List.Sums.{count_by_more_yes, count_by_more_no}
use Rattle.std.specs.List.{insert}
use Rattle.ledger.specs.Rows.{nonzeros}
use Rattle.ledger.specs.Packed.{packed}

pub packed_none : (row : List ℕ) → packed row 0 ≡ []
unfolding packed
packed_none row = refl

-- a count of 0 has no pair
pub packed_zero : (row : List ℕ) (j : ℕ) → get_or row j 0 ≡ 0 → packed row (j + 1) ≡ packed row j
unfolding packed
packed_zero row j e =
    ap (packed row) (add-one j) ∙ ap (λ b. packed row j ++ cond b [] ((j, get_or row j 0) ∷ [])) (eq-eqb _ _ e) ∙ append-nil (packed row j)

-- any other count has one
pub packed_used : (row : List ℕ) (j : ℕ) → (get_or row j 0 ≡ 0 → ⊥) → packed row (j + 1) ≡ packed row j ++ ((j, get_or row j 0) ∷ [])
unfolding packed
packed_used row j ne = ap (packed row) (add-one j) ∙ ap (λ b. packed row j ++ cond b [] ((j, get_or row j 0) ∷ [])) (ne_eqb _ _ ne)

pub length_packed_used : (row : List ℕ) (j : ℕ) → (get_or row j 0 ≡ 0 → ⊥) → length (packed row (j + 1)) ≡ length (packed row j) + 1
length_packed_used row j ne =
    let a = ap length (packed_used row j ne) in
    let b = length-append (packed row j) ((j, get_or row j 0) ∷ []) in
    omega (arith, a, b)

-- as many pairs as counts that are not 0
pub length_packed_upto : (row : List ℕ) (j : ℕ) → j ≤ length row → length (packed row j) ≡ nonzeros (take j row)
length_packed_upto row zero h = ap length (packed_none row)
length_packed_upto row (suc j) h =
    let i = length_packed_upto row j (omega arith) in
    let p = ap (λ n. length (packed row n)) (add-one j) in
    let t = ap (λ n. nonzeros (take n row)) (add-one j) in
    ⊎_elim
    (λ (e : get_or row j 0 ≡ 0).
    let a = ap length (packed_zero row j e) in
    let b = count_by_more_no (λ n. not (eqb n 0)) row j 0 (omega arith) (ap not (eq-eqb _ _ e)) in
    omega (arith, i, p, t, a, b))
    (λ (ne : get_or row j 0 ≡ 0 → ⊥).
    let a = length_packed_used row j ne in
    let b = count_by_more_yes (λ n. not (eqb n 0)) row j 0 (omega arith) (ap not (ne_eqb _ _ ne)) in
    omega (arith, i, p, t, a, b))
    (cases_eq (get_or row j 0) 0)

pub length_packed : (row : List ℕ) → length row ≡ 24 → length (packed row 24) ≡ nonzeros row
length_packed row wide = length_packed_upto row 24 (omega arith) ∙ ap nonzeros (take_all 24 row (omega arith))

packed_grows : (row : List ℕ) (j k : ℕ) → length (packed row j) ≤ length (packed row (j + k))
packed_grows row j zero = (let e : j + 0 ≡ j = omega arith in let a = ap (λ n. length (packed row n)) e in omega (arith, a))
packed_grows row j (suc k) =
    let e : j + suc k ≡ (j + k) + 1 = omega arith in
    let a = ap (λ n. length (packed row n)) e in
    let i = packed_grows row j k in
    ⊎_elim
    (λ (z : get_or row (j + k) 0 ≡ 0). let b = ap length (packed_zero row (j + k) z) in omega (arith, a, b, i))
    (λ (ne : get_or row (j + k) 0 ≡ 0 → ⊥). let b = length_packed_used row (j + k) ne in omega (arith, a, b, i))
    (cases_eq (get_or row (j + k) 0) 0)

-- the first j counts have no more pairs than all
pub packed_within : (row : List ℕ) (j : ℕ) → j ≤ 24 → length (packed row j) ≤ length (packed row 24)
packed_within row j h =
    let e : j + (24 - j) ≡ 24 = omega arith in
    let a = ap (λ n. length (packed row n)) e in
    let i = packed_grows row j (24 - j) in
    omega (arith, a, i)

pub map_inserted : {X Y : Type 0} (f : X → Y) (xs : List X) (i : ℕ) (x : X) → map f (insert xs i x) ≡ insert (map f xs) i (f x)
map_inserted f xs zero x = refl
map_inserted f [] (suc i) x = refl
map_inserted f (y ∷ xs) (suc i) x = ap (λ ys. f y ∷ ys) (map_inserted f xs i x)

-- an insertion behind a front
inserted_behind : {X : Type 0} (us bs : List X) (y : X) → insert (us ++ bs) (length us) y ≡ us ++ (y ∷ bs)
inserted_behind [] bs y = refl
inserted_behind (a ∷ us) bs y = ap (λ xs. a ∷ xs) (inserted_behind us bs y)

module _ (ps : List (ℕ × ℕ)) (row : List ℕ) (at : ℕ) (within : at ≤ length ps) where
  front : (j : ℕ) → length (take at ps ++ packed row j) ≡ at + length (packed row j)
  front j = simp (length-append, length-take) (omega arith)

  pub length_spliced : (j : ℕ) → length (take at ps ++ (packed row j ++ drop at ps)) ≡ length ps + length (packed row j)
  length_spliced j = simp (length-append, length-take, length-drop) (omega arith)

  -- the pair of one count more
  pub spliced_used :
      (j n : ℕ) (ps' : List (ℕ × ℕ)) → n ≡ at + length (packed row j) → ps' ≡ take at ps ++ (packed row j ++ drop at ps) → (get_or row j 0 ≡ 0 → ⊥)
      → insert ps' n (j, get_or row j 0) ≡ take at ps ++ (packed row (j + 1) ++ drop at ps)
  spliced_used j n ps' size is ne =
      let y : ℕ × ℕ = (j, get_or row j 0) in
      ap (λ k. insert ps' k y) (size ∙ sym (front j))
      ∙ ap (λ xs. insert xs (length (take at ps ++ packed row j)) y) (is ∙ sym (append_assoc (take at ps) (packed row j) (drop at ps)))
      ∙ inserted_behind (take at ps ++ packed row j) (drop at ps) y
      ∙ append_assoc (take at ps) (packed row j) (y ∷ drop at ps)
      ∙ ap (λ xs. take at ps ++ xs) (sym (append_assoc (packed row j) (y ∷ []) (drop at ps)))
      ∙ ap (λ xs. take at ps ++ (xs ++ drop at ps)) (sym (packed_used row j ne))
