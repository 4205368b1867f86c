-- From the machine to what is written: where a line can go on, and where none can.
use Rattle.std.proofs.Common.{◌≡◌, ℕ, ◌+◌, ◌<◌, ◌≤◌, true, List, [], ◌∷◌, ◌++◌, map, reverse, length, take, drop, ℤ, pos, negsuc, nat_abs, Some, None, Ok, Err, decimal, Option, Result, sym, refl, ap, ◌∙◌, subst, inl, inr, append_assoc, arith}
use mathlib.Core.List.{reverse_aux}
use Rattle.std.specs.List.{flat_map, AllByRecursion}
use Rattle.std.proofs.lemmas.Bool.{false≢true, cases_order, cases_lt}
use Rattle.std.proofs.lemmas.Fmt.{decimal_digit}
use Rattle.std.proofs.Math.Seq.{take-append_seam, take-append-add}
use Rattle.std.proofs.lemmas.List.{append-nil, reverse-reverse, take-append-drop, take-take, length-append, length-take-le}
use Rattle.grammar.specs.declared.mark.Mark.{Mark}
use Rattle.grammar.specs.declared.mark.Mark.TheVariants.{Steps, Standing, Place, Question}
use Rattle.grammar.specs.Text.{Record, steps, standing, place, question, mark, numbers, letter, field, text, Short, Right}
use Rattle.grammar.specs.declared.broken.BrokenLine.{BrokenLine}
use Rattle.grammar.specs.declared.line.Line.{Line}
use Rattle.grammar.specs.Lines.{Viable, GoesOn, Breaks, Begins, Broken, Shows, Answer, Told, Exactly, OneWay, Apart, OneBreak}
use Rattle.grammar.specs.Reading.{First, Signed, signs}
use Rattle.grammar.proofs.Machine.{State, start, lettered, resting, spaced, minus, ended, more, enough, when, step, and_then, goes, goes_on, reads_field}

-- the text of the numbers so far, the last one first in the list
abbrev pub back : List ℤ → List ℕ
back [] = []
back (x ∷ xs) = back xs ++ field x

abbrev pub front : Mark → List ℤ → List ℕ
front m xs = letter m ∷ (58 ∷ back xs)

-- numbers that the mark can have
abbrev pub Fit : Mark → List ℤ → Type 0
Fit m [] = Unit {0}
Fit m (x ∷ xs) = Fit m xs × (more m xs ≡ true) × Short x × Signed m x

opens : (m : Mark) → goes (letter m ∷ (58 ∷ [])) start ≡ Some (resting m [])
opens Steps = refl
opens Standing = refl
opens Place = refl
opens Question = refl

pub reach : (m : Mark) (xs : List ℤ) → Fit m xs → goes (front m xs) start ≡ Some (resting m xs)
reach m [] f = opens m
reach m (x ∷ xs) f = goes_on (front m xs) (field x) start (resting m xs) (reach m xs f.0) ∙ reads_field m xs x f.1 f.2 f.3

pub back_onto : (es xs : List ℤ) → back (reverse_aux es xs) ≡ back xs ++ flat_map field es
back_onto [] xs = sym (append-nil (back xs))
back_onto (e ∷ es) xs = back_onto es (e ∷ xs) ∙ append_assoc (back xs) (field e) (flat_map field es)

pub text_front : (r : Record) → text r ≡ front (mark r) (reverse (numbers r)) ++ (10 ∷ [])
text_front r = ap (λ l. letter (mark r) ∷ (58 ∷ (l ++ (10 ∷ [])))) (sym (back_onto (numbers r) []))

signed_place : (z : ℤ) → Signed Place z
signed_place (pos n) = tt
signed_place (negsuc n) = refl

fit_place : (es xs : List ℤ) → AllByRecursion Short es → Fit Place xs → Fit Place (reverse_aux es xs)
fit_place [] xs a f = f
fit_place (e ∷ es) xs a f = fit_place es (e ∷ xs) a.1 (f, refl, a.0, signed_place e)

fit_question : (cs : List ℕ) (xs : List ℤ) → AllByRecursion Short (map pos cs) → Fit Question xs → Fit Question (reverse_aux (map pos cs) xs)
fit_question [] xs a f = f
fit_question (c ∷ cs) xs a f = fit_question cs (pos c ∷ xs) a.1 (f, refl, a.0, tt)

fit_text : (r : Record) → Right r → Fit (mark r) (reverse (numbers r))
fit_text (steps n) a = (tt, refl, a.0, tt)
fit_text standing a = tt
fit_text (place es) a = fit_place es [] a tt
fit_text (question cs) a = fit_question cs [] a tt

enough_text : (r : Record) → enough (mark r) (reverse (numbers r)) ≡ true
enough_text (steps n) = refl
enough_text standing = refl
enough_text (place es) = refl
enough_text (question cs) = refl

past_end : (t : List ℕ) (m : Mark) (xs : List ℤ) → goes t (ended m xs) ≡ Some (ended m xs)
past_end [] m xs = refl
past_end (b ∷ t) m xs = past_end t m xs

-- the machine reads what is written, and looks at nothing after it
pub reads_text : (r : Record) (t : List ℕ) → Right r → goes (text r ++ t) start ≡ Some (ended (mark r) (reverse (numbers r)))
reads_text r t a =
    let m = mark r in
    let xs = reverse (numbers r) in
    ap (λ l. goes (l ++ t) start) (text_front r)
    ∙ ap (λ l. goes l start) (append_assoc (front m xs) (10 ∷ []) t)
    ∙ goes_on (front m xs) (10 ∷ t) start (resting m xs) (reach m xs (fit_text r a))
    ∙ ap (λ b. and_then (when b (ended m xs)) (goes t)) (enough_text r)
    ∙ past_end t m xs

abbrev record_of : Mark → List ℤ → Record
record_of Steps [] = standing
record_of Steps (x ∷ xs) = steps (nat_abs x)
record_of Standing xs = standing
record_of Place xs = place xs
record_of Question xs = question (map nat_abs xs)

counts_back : (cs : List ℕ) → map nat_abs (map pos cs) ≡ cs
counts_back [] = refl
counts_back (c ∷ cs) = ap (λ l. c ∷ l) (counts_back cs)

record_back : (r : Record) → record_of (mark r) (numbers r) ≡ r
record_back (steps n) = refl
record_back standing = refl
record_back (place es) = refl
record_back (question cs) = ap question (counts_back cs)

abbrev seen : Option State → Record
seen None = standing
seen (Some start) = standing
seen (Some (lettered m)) = standing
seen (Some (resting m xs)) = standing
seen (Some (spaced m xs)) = standing
seen (Some (minus m xs)) = standing
seen (Some (ended m xs)) = record_of m (reverse xs)

seen_text : (r : Record) → seen (Some (ended (mark r) (reverse (numbers r)))) ≡ r
seen_text r = ap (record_of (mark r)) (reverse-reverse (numbers r)) ∙ record_back r

pub one_way : OneWay
one_way r q t u a b e =
    sym (seen_text r) ∙ ap seen (sym (reads_text r t a) ∙ ap (λ l. goes l start) e ∙ reads_text q u b) ∙ seen_text q

-- at a byte that the machine does not take, no record goes on
pub stuck : (σ : State) (q : List ℕ) → goes q start ≡ Some σ → (b : ℕ) → step σ b ≡ None → Viable (q ++ (b ∷ [])) → ⊥
stuck σ q h b bars v =
    let e : Some (ended (mark v.of) (reverse (numbers v.of))) ≡ None =
    sym (reads_text v.of [] v.right)
    ∙ ap (λ l. goes l start) (append-nil (text v.of) ∙ v.is ∙ append_assoc q (b ∷ []) v.rest)
    ∙ goes_on q (b ∷ v.rest) start σ h
    ∙ ap (λ o. and_then o (goes v.rest)) bars
    in
    let z : ◌≡◌ {A = ℕ} 0 1 = cc in
    omega arith

-- the record of a line that has ended
pub record Ended (m : Mark) (xs : List ℤ) : Type 0 where
  pub of : Record
  pub right : Right of
  pub marked : mark of ≡ m
  pub numbered : numbers of ≡ reverse xs

shorts : (m : Mark) (xs ys : List ℤ) → Fit m xs → AllByRecursion Short ys → AllByRecursion Short (reverse_aux xs ys)
shorts m [] ys f a = a
shorts m (x ∷ xs) ys f a = shorts m xs (x ∷ ys) f.0 (f.2, a)

counts : (xs : List ℤ) (cs : List ℕ) → Fit Question xs → (ds : List ℕ) × (map pos ds ≡ reverse_aux xs (map pos cs))
counts [] cs f = (cs, refl)
counts (pos n ∷ xs) cs f = counts xs (n ∷ cs) f.0
counts (negsuc n ∷ xs) cs f = absurd (false≢true f.3)

pub whole : (m : Mark) (xs : List ℤ) → Fit m xs → enough m xs ≡ true → Ended m xs
whole Steps [] f e = absurd (false≢true e)
whole Steps (pos n ∷ []) f e = record { of = steps n; right = (f.2, tt); marked = refl; numbered = refl }
whole Steps (pos n ∷ (x ∷ xs)) f e = absurd (false≢true f.1)
whole Steps (negsuc n ∷ xs) f e = absurd (false≢true f.3)
whole Standing [] f e = record { of = standing; right = tt; marked = refl; numbered = refl }
whole Standing (x ∷ xs) f e = absurd (false≢true f.1)
whole Place xs f e = record { of = place (reverse xs); right = shorts Place xs [] f tt; marked = refl; numbered = refl }
whole Question xs f e =
    let c = counts xs [] f in
    record { of = question c.0; right = subst (AllByRecursion Short) (sym c.1) (shorts Question xs [] f tt); marked = refl; numbered = c.1 }

pub ended_text : (m : Mark) (xs : List ℤ) (w : Ended m xs) → text w.of ≡ front m xs ++ (10 ∷ [])
ended_text m xs w =
    text_front w.of
    ∙ ap (λ k. front k (reverse (numbers w.of)) ++ (10 ∷ [])) w.marked
    ∙ ap (λ l. front m l ++ (10 ∷ [])) (ap reverse w.numbered ∙ reverse-reverse xs)

-- each part of a line can go on
ends : (m : Mark) (xs : List ℤ) → Fit m xs → enough m xs ≡ true → GoesOn (front m xs)
ends m xs f e = let w = whole m xs f e in record { of = w.of; next = 10; rest = []; right = w.right; is = ended_text m xs w }

rest_goes_on : (m : Mark) (xs : List ℤ) → Fit m xs → GoesOn (front m xs)
rest_goes_on Steps [] f = record { of = steps 0; next = 32; rest = decimal 0 ++ (10 ∷ []); right = (omega arith, tt); is = ap (λ l. 78 ∷ (58 ∷ (32 ∷ (l ++ (10 ∷ []))))) (append-nil (decimal 0)) }
rest_goes_on Steps (x ∷ xs) f = ends Steps (x ∷ xs) f refl
rest_goes_on Standing xs f = ends Standing xs f refl
rest_goes_on Place xs f = ends Place xs f refl
rest_goes_on Question xs f = ends Question xs f refl

letter_goes_on : (m : Mark) → GoesOn (letter m ∷ [])
letter_goes_on m = let g = rest_goes_on m [] tt in record { of = g.of; next = 58; rest = g.next ∷ g.rest; right = g.right; is = g.is }

start_goes_on : GoesOn []
start_goes_on = let g = letter_goes_on Place in record { of = g.of; next = 80; rest = g.next ∷ g.rest; right = g.right; is = g.is }

enough_more : (m : Mark) (x : ℤ) (xs : List ℤ) → enough m (x ∷ xs) ≡ true
enough_more Steps x xs = refl
enough_more Standing x xs = refl
enough_more Place x xs = refl
enough_more Question x xs = refl

-- through a field whose text is p, a byte, and q
through : (m : Mark) (x : ℤ) (xs : List ℤ) (p q : List ℕ) (b : ℕ) → Fit m (x ∷ xs) → field x ≡ p ++ (b ∷ q) → GoesOn (front m xs ++ p)
through m x xs p q b f e =
    let w = whole m (x ∷ xs) f (enough_more m x xs) in
    record {
      of = w.of;
      next = b;
      rest = q ++ (10 ∷ []);
      right = w.right;
      is = ended_text m (x ∷ xs) w
          ∙ ap (λ l. (front m xs ++ l) ++ (10 ∷ [])) e
          ∙ append_assoc (front m xs) (p ++ (b ∷ q)) (10 ∷ [])
          ∙ ap (λ l. front m xs ++ l) (append_assoc p (b ∷ q) (10 ∷ []))
          ∙ sym (append_assoc (front m xs) p (b ∷ (q ++ (10 ∷ []))));
    }

spaced_goes_on : (m : Mark) (xs : List ℤ) → Fit m xs → more m xs ≡ true → GoesOn (front m xs ++ (32 ∷ []))
spaced_goes_on m xs f room =
    through m (pos 0) xs (32 ∷ []) [] 48 (f, room, omega arith, tt) (ap (λ l. 32 ∷ l) (decimal_digit 0 (omega arith)))

minus_goes_on : (m : Mark) (xs : List ℤ) → Fit m xs → more m xs ≡ true → signs m ≡ true → GoesOn (front m xs ++ (32 ∷ (45 ∷ [])))
minus_goes_on m xs f room sign =
    through m (negsuc 0) xs (32 ∷ (45 ∷ [])) [] 49 (f, room, omega arith, sign) (ap (λ l. 32 ∷ (45 ∷ l)) (decimal_digit 1 (omega arith)))

-- how a line breaks: behind q, at a byte that the machine does not take
breaks : (q r : List ℕ) (σ : State) → goes q start ≡ Some σ → GoesOn q → First (λ b. step σ b ≡ None) r → Breaks (q ++ r) (length q)
breaks q [] σ h g bars = record {
  within = let l1 = length-append q [] in omega arith;
  stands = subst GoesOn (sym (take-append_seam q [])) g;
  stuck = λ l. absurd (let l1 = length-append q [] in omega arith);
}
breaks q (b ∷ r) σ h g bars = record {
  within = let l1 = length-append q (b ∷ r) in omega arith;
  stands = subst GoesOn (sym (take-append_seam q (b ∷ r))) g;
  stuck = λ l v. stuck σ q h b bars (subst Viable (take-append-add q (b ∷ r) 1) v);
}

pub break_at : (s q r : List ℕ) (c : ℕ) (σ : State) → s ≡ q ++ r → c ≡ length q + 1 → goes q start ≡ Some σ → GoesOn q → First (λ b. step σ b ≡ None) r → Broken s c
break_at s q r c σ e told h g bars = record { bytes = length q; told = told; breaks = subst (λ v. Breaks v (length q)) (sym e) (breaks q r σ h g bars) }

pub break_start : (s : List ℕ) → First (λ b. step start b ≡ None) s → Broken s 1
break_start s bars = break_at s [] s 1 start refl refl refl start_goes_on bars

letter_read : (m : Mark) → goes (letter m ∷ []) start ≡ Some (lettered m)
letter_read Steps = refl
letter_read Standing = refl
letter_read Place = refl
letter_read Question = refl

pub break_letter : (m : Mark) (r : List ℕ) → First (λ b. step (lettered m) b ≡ None) r → Broken (letter m ∷ r) 2
break_letter m r bars = break_at (letter m ∷ r) (letter m ∷ []) r 2 (lettered m) refl refl (letter_read m) (letter_goes_on m) bars

pub break_rest : (s r : List ℕ) (c : ℕ) (m : Mark) (xs : List ℤ) → s ≡ front m xs ++ r → c ≡ length (front m xs) + 1 → Fit m xs → First (λ b. step (resting m xs) b ≡ None) r → Broken s c
break_rest s r c m xs e told f bars = break_at s (front m xs) r c (resting m xs) e told (reach m xs f) (rest_goes_on m xs f) bars

space_read : (m : Mark) (xs : List ℤ) → Fit m xs → more m xs ≡ true → goes (front m xs ++ (32 ∷ [])) start ≡ Some (spaced m xs)
space_read m xs f room = goes_on (front m xs) (32 ∷ []) start (resting m xs) (reach m xs f) ∙ ap (λ t. and_then (when t (spaced m xs)) (goes [])) room

pub break_spaced : (s r : List ℕ) (c : ℕ) (m : Mark) (xs : List ℤ) → s ≡ front m xs ++ (32 ∷ r) → c ≡ length (front m xs) + 2 → Fit m xs → more m xs ≡ true → First (λ b. step (spaced m xs) b ≡ None) r → Broken s c
break_spaced s r c m xs e told f room bars =
    let long = length-append (front m xs) (32 ∷ []) in
    break_at s (front m xs ++ (32 ∷ [])) r c (spaced m xs) (e ∙ sym (append_assoc (front m xs) (32 ∷ []) r)) (omega arith) (space_read m xs f room) (spaced_goes_on m xs f room) bars

minus_read : (m : Mark) (xs : List ℤ) → Fit m xs → more m xs ≡ true → signs m ≡ true → goes (front m xs ++ (32 ∷ (45 ∷ []))) start ≡ Some (minus m xs)
minus_read m xs f room sign =
    goes_on (front m xs) (32 ∷ (45 ∷ [])) start (resting m xs) (reach m xs f)
    ∙ ap (λ t. and_then (when t (spaced m xs)) (goes (45 ∷ []))) room
    ∙ ap (λ t. and_then (when t (minus m xs)) (goes [])) sign

pub break_minus : (s r : List ℕ) (c : ℕ) (m : Mark) (xs : List ℤ) → s ≡ front m xs ++ (32 ∷ (45 ∷ r)) → c ≡ length (front m xs) + 3 → Fit m xs → more m xs ≡ true → signs m ≡ true → First (λ b. step (minus m xs) b ≡ None) r → Broken s c
break_minus s r c m xs e told f room sign bars =
    let long = length-append (front m xs) (32 ∷ (45 ∷ [])) in
    break_at s (front m xs ++ (32 ∷ (45 ∷ []))) r c (minus m xs) (e ∙ sym (append_assoc (front m xs) (32 ∷ (45 ∷ [])) r)) (omega arith) (minus_read m xs f room sign) (minus_goes_on m xs f room sign) bars

-- the two laws that make the answer the only one
front_viable : (s : List ℕ) (j k : ℕ) → j ≤ k → (r : Record) (t : List ℕ) → Right r → text r ≡ take k s ++ t → Viable (take j s)
front_viable s j k h r t a e =
    let cut : take k s ≡ take j s ++ drop j (take k s) = sym (take-append-drop j (take k s)) ∙ ap (λ l. l ++ drop j (take k s)) (take-take j k s h) in
    record { of = r; rest = drop j (take k s) ++ t; right = a; is = e ∙ ap (λ l. l ++ t) cut ∙ append_assoc (take j s) (drop j (take k s)) t }

later : (s : List ℕ) (j k : ℕ) → j < k → Breaks s j → Breaks s k → ⊥
later s j k h a b =
    let g = b.stands in
    let w = b.within in
    a.stuck (omega arith) (front_viable s (j + 1) k (omega arith) g.of (g.next ∷ g.rest) g.right g.is)

pub one_break : OneBreak
one_break s j k a b =
    elim (cases_order j k) [ inl e ↦ e | inr o ↦ elim o [ inl h ↦ absurd (later s j k h a b) | inr h ↦ absurd (later s k j h b a) ] ]

pub apart : Apart
apart s r k j b x =
    let w = b.within in
    elim (cases_lt j k) [
      | inl h ↦ x.stuck (omega arith) (front_viable s (j + 1) k (omega arith) r [] b.right (sym b.is ∙ sym (append-nil (take k s))))
      | inr h ↦
          let g = x.stands in
          let cut : take j s ≡ text r ++ drop k (take j s) = sym (take-append-drop k (take j s)) ∙ ap (λ l. l ++ drop k (take j s)) (take-take k j s h ∙ b.is) in
          let longer : text g.of ≡ text r ++ (drop k (take j s) ++ (g.next ∷ g.rest)) = g.is ∙ ap (λ l. l ++ (g.next ∷ g.rest)) cut ∙ append_assoc (text r) (drop k (take j s)) (g.next ∷ g.rest) in
          let same : g.of ≡ r = one_way g.of r [] (drop k (take j s) ++ (g.next ∷ g.rest)) g.right b.right (append-nil (text g.of) ∙ longer) in
          let l1 = ap length longer in
          let l2 = ap (λ q. length (text q)) same in
          let l3 = length-append (text r) (drop k (take j s) ++ (g.next ∷ g.rest)) in
          let l4 = length-append (drop k (take j s)) (g.next ∷ g.rest) in
          omega arith
    ]

-- two lines at the start of the same bytes are the same
pub same_line : (s : List ℕ) (r q : Record) (j k : ℕ) → Begins s r j → Begins s q k → (r ≡ q) × (j ≡ k)
same_line s r q j k a b =
    let whole : text r ++ drop j s ≡ text q ++ drop k s = ap (λ l. l ++ drop j s) (sym a.is) ∙ take-append-drop j s ∙ sym (take-append-drop k s) ∙ ap (λ l. l ++ drop k s) b.is in
    let same : r ≡ q = one_way r q (drop j s) (drop k s) a.right b.right whole in
    let l1 = sym (length-take-le j s a.within) ∙ ap length a.is in
    let l2 = sym (length-take-le k s b.within) ∙ ap length b.is in
    (same, l1 ∙ ap (λ w. length (text w)) same ∙ sym l2)

told_right : (s : List ℕ) (i : ℕ) (a : Result Line BrokenLine) → Answer s i a → (r : Record) (k : ℕ) → Begins s r k → Told r k i a
told_right s i (Ok l) t r k b =
    let e = same_line s t.of r l.end k t.begins b in
    (e.1, subst (Shows i l) e.0 t.shows)
told_right s i (Err e) t r k b = absurd (apart s r k t.bytes b t.breaks)

told_broken : (s : List ℕ) (i : ℕ) (a : Result Line BrokenLine) → Answer s i a → (k : ℕ) → Breaks s k → a ≡ Err (record { column = k + 1 })
told_broken s i (Ok l) t k b = absurd (apart s t.of l.end k t.begins b)
told_broken s i (Err e) t k b = ap (λ j. Err (record { column = j })) (t.told ∙ ap (λ j. j + 1) (one_break s t.bytes k t.breaks b))

pub exactly : (s : List ℕ) (i : ℕ) (a : Result Line BrokenLine) → Answer s i a → Exactly s i a
exactly s i a t = record { right = told_right s i a t; broken = told_broken s i a t }

-- a line that has a mark does not break in it, and it has one mark
pub no_mark : (s : List ℕ) (c : ℕ) (m : Mark) → Broken s c → c ≤ 2 → 2 ≤ length s → take 2 s ≡ letter m ∷ (58 ∷ []) → ⊥
no_mark s c m b early l e =
    let g = rest_goes_on m [] tt in
    let told = b.told in
    b.breaks.stuck (omega arith) (front_viable s (b.bytes + 1) 2 (omega arith) g.of (g.next ∷ g.rest) g.right (g.is ∙ ap (λ w. w ++ (g.next ∷ g.rest)) (sym e)))

pub same_mark : (s : List ℕ) (m k : Mark) → take 2 s ≡ letter m ∷ (58 ∷ []) → take 2 s ≡ letter k ∷ (58 ∷ []) → m ≡ k
same_mark s m k e f =
    let h : Some (resting m []) ≡ Some (resting k []) = sym (opens m) ∙ ap (λ w. goes w start) (sym e ∙ f) ∙ opens k in
    cc

pub begins_mark : (s : List ℕ) (r : Record) (k : ℕ) → Begins s r k → (2 ≤ length s) × (take 2 s ≡ letter (mark r) ∷ (58 ∷ []))
begins_mark s r k b =
    let long = sym (length-take-le k s b.within) ∙ ap length b.is in
    let w = b.within in
    (omega arith, sym (take-take 2 k s (omega arith)) ∙ ap (take 2) b.is)
