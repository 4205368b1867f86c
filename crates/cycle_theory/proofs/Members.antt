-- What stands in a list that was joined, filtered or mapped.
use Rattle.std.proofs.Common.{arith, ◌≡◌, Bool, true, false, ◌⊎◌, List, [], ◌∷◌, ◌++◌, map, refl, ap, ◌∙◌, inl, inr}
use Rattle.std.proofs.lemmas.Bool.{false≢true, and_parts, and_from}
use Rattle.cycle_theory.specs.Nets.{Mem}
use Rattle.cycle_theory.specs.Method.{keep_if, keep, every}

-- joined lists
pub mem_left : {A : Type 0} (a : A) (l m : List A) → Mem a l → Mem a (l ++ m)
mem_left a [] m h = absurd h
mem_left a (b ∷ l) m (inl e) = inl e
mem_left a (b ∷ l) m (inr h) = inr (mem_left a l m h)

pub mem_right : {A : Type 0} (a : A) (l m : List A) → Mem a m → Mem a (l ++ m)
mem_right a [] m h = h
mem_right a (b ∷ l) m h = inr (mem_right a l m h)

pub mem_append : {A : Type 0} (a : A) (l m : List A) → Mem a (l ++ m) → Mem a l ⊎ Mem a m
mem_append a [] m h = inr h
mem_append a (b ∷ l) m (inl e) = inl (inl e)
mem_append a (b ∷ l) m (inr h) = grind (arith, mem_append a l m h)

-- a member that is kept or not
pub mem_keep_if : {A : Type 0} (a : A) (b : Bool) (x : A) (l : List A) → Mem a (keep_if b x l) → ((b ≡ true) × (a ≡ x)) ⊎ Mem a l
mem_keep_if a true x l (inl e) = inl (refl, e)
mem_keep_if a true x l (inr h) = inr h
mem_keep_if a false x l h = inr h

pub keep_if_first : {A : Type 0} (a : A) (b : Bool) (x : A) (l : List A) → b ≡ true → a ≡ x → Mem a (keep_if b x l)
keep_if_first a true x l t e = inl e
keep_if_first a false x l t e = absurd (false≢true t)

pub keep_if_rest : {A : Type 0} (a : A) (b : Bool) (x : A) (l : List A) → Mem a l → Mem a (keep_if b x l)
keep_if_rest a true x l h = inr h
keep_if_rest a false x l h = h

-- a filtered list has the members that pass the test
pub mem_keep : {A : Type 0} (f : A → Bool) (a : A) (l : List A) → Mem a (keep f l) → Mem a l × (f a ≡ true)
mem_keep f a [] h = absurd h
mem_keep f a (x ∷ l) h = elim (mem_keep_if a (f x) x (keep f l) h) [
  | inl t ↦ (inl t.1, ap f t.1 ∙ t.0)
  | inr q ↦ (inr (mem_keep f a l q).0, (mem_keep f a l q).1)
]

pub keep_mem : {A : Type 0} (f : A → Bool) (a : A) (l : List A) → Mem a l → f a ≡ true → Mem a (keep f l)
keep_mem f a [] h t = absurd h
keep_mem f a (x ∷ l) (inl e) t = grind arith
keep_mem f a (x ∷ l) (inr h) t = keep_if_rest a (f x) x (keep f l) (keep_mem f a l h t)

-- a test that passes at every member
pub every_mem : {A : Type 0} (f : A → Bool) (l : List A) → every f l ≡ true → (a : A) → Mem a l → f a ≡ true
every_mem f [] t a h = absurd h
every_mem f (x ∷ l) t a (inl e) = ap f e ∙ (and_parts (f x) (every f l) t).0
every_mem f (x ∷ l) t a (inr h) = every_mem f l (and_parts (f x) (every f l) t).1 a h

pub mem_every : {A : Type 0} (f : A → Bool) (l : List A) → ((a : A) → Mem a l → f a ≡ true) → every f l ≡ true
mem_every f [] h = refl
mem_every f (x ∷ l) h = and_from (f x) (every f l) (h x (inl refl)) (mem_every f l (λ a m. h a (inr m)))

-- a mapped list has the values of the members
pub mem_map : {A B : Type 0} (f : A → B) (b : B) (l : List A) → Mem b (map f l) → (a : A) × (Mem a l) × (b ≡ f a)
mem_map f b [] m = absurd m
mem_map f b (x ∷ l) (inl e) = (x, inl refl, e)
mem_map {A} f b (x ∷ l) (inr m) =
    let t : (a : A) × (Mem a l) × (b ≡ f a) = mem_map f b l m in
    (t.0, inr t.1, t.2)

pub map_mem : {A B : Type 0} (f : A → B) (a : A) (l : List A) → Mem a l → Mem (f a) (map f l)
map_mem f a [] m = absurd m
map_mem f a (x ∷ l) (inl e) = inl (ap f e)
map_mem f a (x ∷ l) (inr m) = inr (map_mem f a l m)
