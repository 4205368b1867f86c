-- A strictly ascending list is fixed by its members (determined).
use Rattle.std.proofs.Common.{◌≡◌, true, false, cond, ◌&&◌, eqb, ltb, ◌⊎◌, ◌↔◌, List, [], ◌∷◌, sym, refl, ◌∙◌, subst, inl, inr, arith}
use Rattle.std.proofs.lemmas.Bool.{false≢true, ltb-true, ltb-false, cond_both, eqb-true, and_parts, or_cases, eqb-false, and_cases, or_parts}
use Rattle.cycle_theory.specs.Nets.{Counts, Mem, Before, Ascending}
use Rattle.cycle_theory.specs.Method.{before, insert, ascending}

-- the test `before` says Before
pub before_true : (x y : Counts) → before x y ≡ true → Before x y
before_true [] (b ∷ y) t = tt
before_true (a ∷ x) (b ∷ y) t = elim (or_cases (ltb a b) (eqb a b && before x y) t) [
  | inl h ↦ inl (ltb-true a b h)
  | inr h ↦ inr (eqb-true a b (and_parts (eqb a b) (before x y) h).0, before_true x y (and_parts (eqb a b) (before x y) h).1)
]
before_true x y t = absurd (false≢true t)

-- where neither row is before the other, they are equal
pub neither_before : (x y : Counts) → before x y ≡ false → before y x ≡ false → x ≡ y
neither_before [] [] s t = refl
neither_before [] (b ∷ y) s t = absurd (false≢true (sym s))
neither_before (a ∷ x) [] s t = absurd (false≢true (sym t))
neither_before (a ∷ x) (b ∷ y) s t =
    let p : (ltb a b ≡ false) × ((eqb a b && before x y) ≡ false) = or_parts (ltb a b) (eqb a b && before x y) s in
    let q : (ltb b a ≡ false) × ((eqb b a && before y x) ≡ false) = or_parts (ltb b a) (eqb b a && before y x) t in
    let e : a ≡ b = omega (arith, ltb-false a b p.0, ltb-false b a q.0) in
    let f : before x y ≡ false = elim (and_cases (eqb a b) (before x y) p.1) [ inl h ↦ absurd (eqb-false a b h e) | inr h ↦ h ] in
    let g : before y x ≡ false = elim (and_cases (eqb b a) (before y x) q.1) [ inl h ↦ absurd (eqb-false b a h (sym e)) | inr h ↦ h ] in
    let r : x ≡ y = neither_before x y f g in cc

-- Before is an order
pub before_trans : (x y z : Counts) → Before x y → Before y z → Before x z
before_trans [] [] z h k = absurd h
before_trans [] (b ∷ y) [] h k = absurd k
before_trans [] (b ∷ y) (c ∷ z) h k = tt
before_trans (a ∷ x) [] z h k = absurd h
before_trans (a ∷ x) (b ∷ y) [] h k = absurd k
before_trans (a ∷ x) (b ∷ y) (c ∷ z) (inl p) (inl q) = inl (omega arith)
before_trans (a ∷ x) (b ∷ y) (c ∷ z) (inl p) (inr q) = inl (omega (arith, q.0))
before_trans (a ∷ x) (b ∷ y) (c ∷ z) (inr p) (inl q) = inl (omega (arith, p.0))
before_trans (a ∷ x) (b ∷ y) (c ∷ z) (inr p) (inr q) = inr (p.0 ∙ q.0, before_trans x y z p.1 q.1)

pub before_irrefl : (x : Counts) → Before x x → ⊥
before_irrefl [] h = h
before_irrefl (a ∷ x) (inl p) = omega arith
before_irrefl (a ∷ x) (inr p) = before_irrefl x p.1

-- m is l with x in it, ascending
pub record Put (x : Counts) (l m : List Counts) : Type 0 where
  pub asc : Ascending m
  pub out : (z : Counts) → Mem z m → (z ≡ x) ⊎ Mem z l
  pub now : Mem x m
  pub still : (z : Counts) → Mem z l → Mem z m

-- insert keeps a list ascending
pub put : (x : Counts) (l : List Counts) → Ascending l → Put x l (insert x l)
put x [] a = grind arith
put x (y ∷ l) a =
    let r : Put x l (insert x l) = put x l a.1 in
    cond_both (before x y) (x ∷ y ∷ l) (cond (before y x) (y ∷ insert x l) (y ∷ l)) (Put x (y ∷ l))
    (λ t. record {
      asc = (λ z m. elim m [ inl e ↦ subst (λ (v : Counts). Before x v) (sym e) (before_true x y t) | inr m' ↦ before_trans x y z (before_true x y t) (a.0 z m') ], a);
      out = λ z m. m;
      now = inl refl;
      still = λ z m. inr m;
    })
    (λ s. cond_both (before y x) (y ∷ insert x l) (y ∷ l) (Put x (y ∷ l))
    (λ t. record {
      asc = (λ z m. elim (r.out z m) [ inl e ↦ subst (λ (v : Counts). Before y v) (sym e) (before_true y x t) | inr m' ↦ a.0 z m' ], r.asc);
      out = λ z m. elim m [ inl e ↦ inr (inl e) | inr m' ↦ elim (r.out z m') [ inl e ↦ inl e | inr q ↦ inr (inr q) ] ];
      now = inr r.now;
      still = λ z m. elim m [ inl e ↦ inl e | inr m' ↦ inr (r.still z m') ];
    })
    (λ t. record { asc = a; out = λ z m. inr m; now = inl (neither_before x y s t); still = λ z m. m }))

-- so the rows come in ascending order
pub ascending_ascends : (l : List Counts) → Ascending (ascending l)
ascending_ascends [] = tt
ascending_ascends (x ∷ l) = (put x (ascending l) (ascending_ascends l)).asc

-- and are the same rows
pub mem_ascending : (l : List Counts) (z : Counts) → Mem z (ascending l) → Mem z l
mem_ascending [] z m = m
mem_ascending (x ∷ l) z m = elim ((put x (ascending l) (ascending_ascends l)).out z m) [ inl e ↦ inl e | inr q ↦ inr (mem_ascending l z q) ]

pub ascending_mem : (l : List Counts) (z : Counts) → Mem z l → Mem z (ascending l)
ascending_mem [] z m = m
ascending_mem (x ∷ l) z (inl e) = grind (arith, put, ascending_ascends)
ascending_mem (x ∷ l) z (inr m) = (put x (ascending l) (ascending_ascends l)).still z (ascending_mem l z m)

-- the first rows are equal, since each stands in the other list; then the rest
pub determined : (l m : List Counts) → Ascending l → Ascending m → ((z : Counts) → Mem z l ↔ Mem z m) → l ≡ m
determined [] [] a b h = refl
determined [] (y ∷ m) a b h = absurd ((h y).1 (inl refl))
determined (x ∷ l) [] a b h = absurd ((h x).0 (inl refl))
determined (x ∷ l) (y ∷ m) a b h =
    let e : x ≡ y = elim ((h x).0 (inl refl)) [
      | inl q ↦ q
      | inr p ↦ elim ((h y).1 (inl refl)) [
        | inl q ↦ sym q
        | inr q ↦ absurd (before_irrefl x (before_trans x y x (a.0 y q) (b.0 x p)))
      ]
    ] in
    let t : l ≡ m = determined l m a.1 b.1 (λ z. (
      λ i. elim ((h z).0 (inr i)) [ inl q ↦ absurd (before_irrefl x (subst (λ (v : Counts). Before x v) (q ∙ sym e) (a.0 z i))) | inr q ↦ q ],
      λ i. elim ((h z).1 (inr i)) [ inl q ↦ absurd (before_irrefl y (subst (λ (v : Counts). Before y v) (q ∙ e) (b.0 z i))) | inr q ↦ q ],
    )) in
    cc
