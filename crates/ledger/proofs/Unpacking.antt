-- What an insertion makes of the rows that the pairs stand for.
use Rattle.std.proofs.Common.{◌≡◌, ℕ, zero, suc, ◌+◌, ◌-◌, ◌<◌, ◌≤◌, ◌≢◌, List, [], ◌∷◌, ◌++◌, length, get_or, take, drop, set, replicate, sum_by, sum, sym, refl, ap, ◌∙◌, subst, ⊎_elim, suc-add, zero-add, add-one, arith, length-drop, length-set, get_or-set_other, get_or-set_same, ext_get_or}
use lib.Seq.{take-append_seam, drop-append_seam}
use Rattle.std.proofs.lemmas.Bool.{cases_eq, cases_lt}
use Rattle.std.proofs.lemmas.List.Sums.{sum_by-cons, sum-map, fold_push}
use Rattle.std.proofs.lemmas.List.{get_or_default, drop-drop}
use Rattle.std.specs.List.{insert}
use Rattle.ledger.specs.declared.entry.Entry.{Entry}
use Rattle.ledger.specs.Rows.{nonzeros, entry_charge}
use Rattle.ledger.specs.Packed.{pair, pairs, placed, expanded, unpacked, packed, Exact}
use Rattle.ledger.proofs.Packing.{packed_none, packed_zero, packed_used}

abbrev spliced : {X : Type 0} → List X → ℕ → List X → List X
spliced xs at ys = take at xs ++ (ys ++ drop at xs)

take_spliced : {X : Type 0} (xs ys : List X) (m k : ℕ) → m + k ≤ length xs → take m (spliced xs (m + k) ys) ≡ take m xs
take_spliced xs ys zero k h = refl
take_spliced [] ys (suc m) k h = (let f : ⊥ = omega arith in absurd f)
take_spliced (x ∷ xs) ys (suc m) k h = rw (suc-add m k) (ap (λ zs. x ∷ zs) (take_spliced xs ys m k (omega arith)))

drop_spliced : {X : Type 0} (xs ys : List X) (m k : ℕ) → m + k ≤ length xs → drop m (spliced xs (m + k) ys) ≡ spliced (drop m xs) k ys
drop_spliced xs ys zero k h = rw (zero-add k)
drop_spliced [] ys (suc m) k h = (let f : ⊥ = omega arith in absurd f)
drop_spliced (x ∷ xs) ys (suc m) k h = rw (suc-add m k) (drop_spliced xs ys m k (omega arith))

pub length_unpacked : (ns : List ℕ) (ps : List (ℕ × ℕ)) → length (unpacked ns ps) ≡ length ns
length_unpacked [] ps = refl
length_unpacked (n ∷ ns) ps = ap suc (length_unpacked ns (drop n ps))

-- a row more, where its pairs stand among the others
pub unpacked_inserted :
    (ns : List ℕ) (ps qs : List (ℕ × ℕ)) (i : ℕ) → i ≤ length ns → sum (take i ns) ≤ length ps
    → unpacked (insert ns i (length qs)) (spliced ps (sum (take i ns)) qs) ≡ insert (unpacked ns ps) i (expanded qs)
unpacked_inserted ns ps qs zero h fit =
    ap (λ xs. expanded xs ∷ unpacked ns (drop (length qs) (qs ++ ps))) (take-append_seam qs ps) ∙ ap (λ xs. expanded qs ∷ unpacked ns xs) (drop-append_seam qs ps)
unpacked_inserted [] ps qs (suc i) h fit = (let f : ⊥ = omega arith in absurd f)
unpacked_inserted (n ∷ ns) ps qs (suc i) h fit =
    let s = sum_by-cons (λ x. x) n (take i ns) in
    let k = sum (take i ns) in
    let whole : n + k ≤ length ps = omega (arith, s, fit) in
    let rest : k ≤ length (drop n ps) = simp length-drop (omega (arith, whole)) in
    let m = insert ns i (length qs) in
    ap (λ at. expanded (take n (spliced ps at qs)) ∷ unpacked m (drop n (spliced ps at qs))) s
    ∙ ap (λ xs. expanded xs ∷ unpacked m (drop n (spliced ps (n + k) qs))) (take_spliced ps qs n k whole)
    ∙ ap (λ xs. expanded (take n ps) ∷ unpacked m xs) (drop_spliced ps qs n k whole)
    ∙ ap (λ rows. expanded (take n ps) ∷ rows) (unpacked_inserted ns (drop n ps) qs i (omega arith) rest)

-- what the pairs of the first j counts of a row stand for
record Front (row out : List ℕ) (j : ℕ) : Type 0 where
  long : length out ≡ 24
  below : (k : ℕ) → k < j → get_or out k 0 ≡ get_or row k 0
  above : (k : ℕ) → j ≤ k → get_or out k 0 ≡ 0

zeros : (n k : ℕ) → ◌≡◌ {A = ℕ} (get_or (replicate n 0) k 0) 0
zeros zero k = refl
zeros (suc n) zero = refl
zeros (suc n) (suc k) = zeros n k

front_zero : (row out : List ℕ) (j : ℕ) → get_or row j 0 ≡ 0 → Front row out j → Front row out (j + 1)
front_zero row out j e f = record {
  long = f.long;
  below = λ k l.
      ⊎_elim
      (λ (lt : k < j). f.below k lt)
      (λ (ge : j ≤ k). let same : k ≡ j = omega arith in rw same (f.above j (omega arith) ∙ sym e))
      (cases_lt k j);
  above = λ k l. f.above k (omega arith);
}

front_used : (row out : List ℕ) (j : ℕ) → j < 24 → Front row out j → Front row (set out j (get_or row j 0)) (j + 1)
front_used row out j h f = record {
  long = length-set out j (get_or row j 0) ∙ f.long;
  below = λ k l.
      ⊎_elim
      (λ (lt : k < j). let ne : k ≢ j = omega arith in get_or-set_other out j k (get_or row j 0) 0 ne ∙ f.below k lt)
      (λ (ge : j ≤ k).
      let same : k ≡ j = omega arith in
      let in-out : j < length out = let l = f.long in omega (arith, l) in
      rw same (get_or-set_same out j (get_or row j 0) 0 in-out))
      (cases_lt k j);
  above = λ k l. let ne : k ≢ j = omega arith in get_or-set_other out j k (get_or row j 0) 0 ne ∙ f.above k (omega arith);
}

fronts : (row : List ℕ) (j : ℕ) → j ≤ 24 → Front row (expanded (packed row j)) j
fronts row zero h =
    subst (λ ps. Front row (expanded ps) 0) (sym (packed_none row)) (record {
      long = refl;
      below = λ k l. (let f : ⊥ = omega arith in absurd f);
      above = λ k l. zeros 24 k;
    })
fronts row (suc j) h =
    let f = fronts row j (omega arith) in
    let next : Front row (expanded (packed row (j + 1))) (j + 1) =
    ⊎_elim
    (λ (e : get_or row j 0 ≡ 0). subst (λ ps. Front row (expanded ps) (j + 1)) (sym (packed_zero row j e)) (front_zero row _ j e f))
    (λ (ne : get_or row j 0 ≡ 0 → ⊥).
    let out = sym (fold_push placed (replicate 24 0) (packed row j) (j, get_or row j 0)) in
    subst (λ ps. Front row (expanded ps) (j + 1)) (sym (packed_used row j ne)) (
    subst (λ xs. Front row xs (j + 1)) out (front_used row _ j (omega arith) f)))
    (cases_eq (get_or row j 0) 0)
    in
    subst (λ n. Front row (expanded (packed row n)) n) (add-one j) next

-- a row is what its pairs stand for
pub expanded_packed : (row : List ℕ) → length row ≡ 24 → expanded (packed row 24) ≡ row
expanded_packed row wide =
    let f = fronts row 24 (omega arith) in
    let l = f.long in
    ext_get_or 0 _ _ (l ∙ sym wide) (λ k h. f.below k (omega (arith, l)))

-- row k, by its pairs
unpacked_at :
    (ns : List ℕ) (ps : List (ℕ × ℕ)) (k : ℕ) → k < length ns
    → get_or (unpacked ns ps) k [] ≡ expanded (take (get_or ns k 0) (drop (sum (take k ns)) ps))
unpacked_at [] ps k h = (let f : ⊥ = omega arith in absurd f)
unpacked_at (n ∷ ns) ps zero h = refl
unpacked_at (n ∷ ns) ps (suc k) h =
    unpacked_at ns (drop n ps) k (omega arith)
    ∙ ap (λ xs. expanded (take (get_or ns k 0) xs)) (drop-drop (sum (take k ns)) n ps)
    ∙ ap (λ at. expanded (take (get_or ns k 0) (drop at ps))) (sym (sum_by-cons (λ x. x) n (take k ns)))

pairs_take : (n : ℕ) (es : List Entry) → pairs (take n es) ≡ take n (pairs es)
pairs_take zero es = refl
pairs_take (suc n) [] = refl
pairs_take (suc n) (e ∷ es) = ap (λ ps. pair e ∷ ps) (pairs_take n es)

pairs_drop : (n : ℕ) (es : List Entry) → pairs (drop n es) ≡ drop n (pairs es)
pairs_drop zero es = refl
pairs_drop (suc n) [] = refl
pairs_drop (suc n) (e ∷ es) = pairs_drop n es

-- the pairs of a part of the entries
pairs_part : (n m : ℕ) (es : List Entry) → pairs (take n (drop m es)) ≡ take n (drop m (pairs es))
pairs_part n m es = pairs_take n (drop m es) ∙ ap (take n) (pairs_drop m es)

-- row i, as its entries were cut out
pub row_cut :
    (sizes : List ℕ) (es part : List Entry) (i at size : ℕ) (row : List ℕ) → i < length sizes → at ≡ sum (take i sizes) → size ≡ get_or sizes i size → part ≡ es
    → row ≡ expanded (pairs (take (at + size - at) (drop at part))) → row ≡ get_or (unpacked sizes (pairs es)) i []
row_cut sizes es part i at size row inside at_is size_is part-is row_is =
    row_is
    ∙ ap (λ n. expanded (pairs (take n (drop at part)))) (omega arith)
    ∙ ap (λ xs. expanded (pairs (take size (drop at xs)))) part-is
    ∙ ap expanded (pairs_part size at es)
    ∙ ap (λ n. expanded (take n (drop at (pairs es)))) (size_is ∙ get_or_default sizes i size 0 inside)
    ∙ ap (λ m. expanded (take (get_or sizes i 0) (drop m (pairs es)))) at_is
    ∙ sym (unpacked_at sizes (pairs es) i inside)

-- the charges of rows are as many as the rows and their counts that are not 0
sum_by_charges : (rows : List (List ℕ)) → sum_by entry_charge rows ≡ length rows + sum_by nonzeros rows
unfolding entry_charge
sum_by_charges [] = refl
sum_by_charges (row ∷ rows) =
    let i = sum_by_charges rows in
    let a = sum_by-cons entry_charge row rows in
    let b = sum_by-cons nonzeros row rows in
    omega (arith, i, a, b)

-- so, in order, the charges are as many as the rows and the pairs
pub charges_are : (ns : List ℕ) (ps : List (ℕ × ℕ)) → Exact ns ps → sum_by entry_charge (unpacked ns ps) ≡ length ns + sum ns
charges_are ns ps o =
    let a = sum_by_charges (unpacked ns ps) in
    let b = length_unpacked ns ps in
    let d = ap sum o.sizes_are ∙ sum-map nonzeros (unpacked ns ps) in
    omega (arith, a, b, d)
