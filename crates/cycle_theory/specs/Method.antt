-- The method: from the single steps, one place after the other, to the rows. Everything here computes.
--
-- tabulate n f          the list of f 0, f 1, .. of length n
-- delta i j             1 where i is j, and 0 elsewhere
-- unit n i              the row of n counts that counts step i once
-- units_to n k          the units of the steps below k, that of the last step first
-- units n               all n units, ascending
-- surplus z             s of a positive z = s, otherwise 0
-- deficit z             r of a negative z = −r, otherwise 0
-- weighted r u s v      r × u + s × v
-- combined p u v        r × u + s × v, where u has the positive sum s on p, and v the negative sum −r
-- gcd_to k a b          Euclid's algorithm, in at most k turns
-- gcd a b               the greatest common divisor of two numbers
-- divisor x             the greatest common divisor of the counts of x
-- divided x             x divided by it
-- keep_if test x list   x and then the list where the test is true, else the list
-- keep test list        the members that pass the test
-- every test list       whether all members pass the test
-- is_zero z             whether z is 0
-- is_positive z         whether z is above 0
-- is_negative z         whether z is below 0
-- pairs p us vs         for each u of us and each v of vs, combined p u v, divided
-- all_rows p rows       the rows with sum 0 on p; and of each with a positive and each with a negative sum their row, divided
-- covered a b           whether b is not 0 where a is not
-- within x y            whether every step that x uses, y uses
-- same x y              whether x and y are equal
-- stays rows x          whether no row different from x uses only steps which x uses
-- once rows             one of equal rows, that which stands last
-- cleaned rows          one of equal rows; a row is dropped when a different row uses only steps which that row uses
-- before x y            whether x has the smaller count at the first step where the two rows differ
-- insert x rows         x put in its place among ascending rows, unless it stands there
-- ascending rows        the rows in ascending order
-- step p rows           the rows after the place p, from those before it
-- after rows places     the rows after all of the places, in their order
-- tss n places          the method: from the units, one place after the other
use Rattle.std.specs.Prelude.{ℕ, zero, suc, ◌+◌, ◌*◌, ◌/◌, ◌%◌, Bool, true, false, cond, not, ◌&&◌, ◌||◌, List, [], ◌∷◌, ◌++◌, map, length, ℤ, pos, negsuc, ◌==◌, nat_lt}
use Rattle.cycle_theory.specs.Nets.{Counts, at, Place, sum}

abbrev pub tabulate : ℕ → (ℕ → ℕ) → Counts
tabulate zero f = []
tabulate (suc n) f = f 0 ∷ tabulate n (λ j. f (suc j))

abbrev pub delta : ℕ → ℕ → ℕ
delta zero zero = 1
delta zero (suc j) = 0
delta (suc i) zero = 0
delta (suc i) (suc j) = delta i j

abbrev pub unit : ℕ → ℕ → Counts
unit n i = tabulate n (delta i)

abbrev pub units_to : ℕ → ℕ → List Counts
units_to n zero = []
units_to n (suc k) = unit n k ∷ units_to n k

abbrev pub units : ℕ → List Counts
units n = units_to n n

abbrev pub surplus : ℤ → ℕ
surplus (pos s) = s
surplus (negsuc k) = 0

abbrev pub deficit : ℤ → ℕ
deficit (pos s) = 0
deficit (negsuc k) = suc k

abbrev pub weighted : ℕ → Counts → ℕ → Counts → Counts
weighted r u s v = tabulate (length u) (λ j. r * at u j + s * at v j)

abbrev pub combined : Place → Counts → Counts → Counts
combined p u v = weighted (deficit (sum p v)) u (surplus (sum p u)) v

abbrev pub gcd_to : ℕ → ℕ → ℕ → ℕ
gcd_to zero a b = a
gcd_to (suc k) a zero = a
gcd_to (suc k) a (suc b) = gcd_to k (suc b) (a % suc b)

abbrev pub gcd : ℕ → ℕ → ℕ
gcd a b = gcd_to b a b

abbrev pub divisor : Counts → ℕ
divisor [] = 0
divisor (a ∷ x) = gcd a (divisor x)

abbrev pub divided : Counts → Counts
divided x = tabulate (length x) (λ j. at x j / divisor x)

abbrev pub keep_if : {A : Type 0} → Bool → A → List A → List A
keep_if true x list = x ∷ list
keep_if false x list = list

abbrev pub keep : {A : Type 0} → (A → Bool) → List A → List A
keep test [] = []
keep test (x ∷ list) = keep_if (test x) x (keep test list)

abbrev pub every : {A : Type 0} → (A → Bool) → List A → Bool
every test [] = true
every test (x ∷ list) = test x && every test list

abbrev pub pairs : Place → List Counts → List Counts → List Counts
pairs p [] vs = []
pairs p (u ∷ us) vs = map (λ v. divided (combined p u v)) vs ++ pairs p us vs

abbrev pub is_zero : ℤ → Bool
is_zero (pos s) = s == 0
is_zero (negsuc k) = false

abbrev pub is_positive : ℤ → Bool
is_positive (pos s) = nat_lt 0 s
is_positive (negsuc k) = false

abbrev pub is_negative : ℤ → Bool
is_negative (pos s) = false
is_negative (negsuc k) = true

abbrev pub all_rows : Place → List Counts → List Counts
all_rows p rows =
    keep (λ x. is_zero (sum p x)) rows
    ++ pairs p (keep (λ u. is_positive (sum p u)) rows) (keep (λ v. is_negative (sum p v)) rows)

abbrev pub covered : ℕ → ℕ → Bool
covered zero b = true
covered (suc a) zero = false
covered (suc a) (suc b) = true

abbrev pub within : Counts → Counts → Bool
within [] y = true
within (a ∷ x) [] = covered a 0 && within x []
within (a ∷ x) (b ∷ y) = covered a b && within x y

abbrev pub same : Counts → Counts → Bool
same [] [] = true
same [] (b ∷ y) = false
same (a ∷ x) [] = false
same (a ∷ x) (b ∷ y) = a == b && same x y

abbrev pub stays : List Counts → Counts → Bool
stays rows x = every (λ w. same w x || not (within w x)) rows

abbrev pub once : List Counts → List Counts
once [] = []
once (x ∷ rows) = keep_if (every (λ y. not (same x y)) rows) x (once rows)

abbrev pub cleaned : List Counts → List Counts
cleaned rows = once (keep (stays rows) rows)

abbrev pub before : Counts → Counts → Bool
before [] [] = false
before [] (b ∷ y) = true
before (a ∷ x) [] = false
before (a ∷ x) (b ∷ y) = nat_lt a b || (a == b && before x y)

abbrev pub insert : Counts → List Counts → List Counts
insert x [] = x ∷ []
insert x (y ∷ rows) = cond (before x y) (x ∷ y ∷ rows) (cond (before y x) (y ∷ insert x rows) (y ∷ rows))

abbrev pub ascending : List Counts → List Counts
ascending [] = []
ascending (x ∷ rows) = insert x (ascending rows)

abbrev pub step : Place → List Counts → List Counts
step p rows = ascending (cleaned (all_rows p rows))

abbrev pub after : List Counts → List Place → List Counts
after rows [] = rows
after rows (p ∷ places) = after (step p rows) places

abbrev pub tss : ℕ → List Place → List Counts
tss n places = after (units n) places
