-- A line that is read up to some field, and each way on from there.
use Rattle.std.proofs.Common.{◌≡◌, ℕ, suc, ◌+◌, ◌-◌, ◌<◌, ◌≤◌, min, Bool, true, false, cond, not, ◌⊎◌, List, [], ◌∷◌, ◌++◌, reverse, length, get_or, take, ℤ, pos, negsuc, None, Ok, Err, Result, sym, refl, ap, ◌∙◌, subst, inl, inr, append_assoc, arith}
use Rattle.std.specs.Fmt.{signed_decimal}
use Rattle.std.specs.List.{flat_map}
use Rattle.std.proofs.Math.Seq.{take-append_seam}
use Rattle.std.proofs.lemmas.Bool.{false≢true, false_from_ne_true, cond-true, cond-false, eq-eqb, ne_eqb, le-ltb, lt-leb, and_left, and_right, cases_eq, cases_Bool, cases_lt}
use Rattle.std.proofs.lemmas.Bool.Decides.{nat_tests}
use Rattle.std.proofs.lemmas.List.{length-append, length-reverse, reverse-reverse, take-append-le, take_at, get_or_append_left, get_or_at, reverse-append}
use Rattle.inline_list.specs.declared.Full.{Full}
use Rattle.inline_list.specs.declared.list.InlineList.{InlineList}
use Rattle.inline_list.specs.Items.{items, Pushed}
use Rattle.grammar.specs.declared.broken.BrokenLine.{BrokenLine}
use Rattle.grammar.specs.declared.mark.Mark.{Mark}
use Rattle.grammar.specs.declared.mark.Mark.TheVariants.{Steps, Standing, Place, Question}
use Rattle.grammar.specs.declared.line.Field.{Field}
use Rattle.grammar.specs.Text.{letter, field}
use Rattle.grammar.specs.Lines.{Broken, Held, field_in, ReadAs}
use Rattle.grammar.specs.Reading.{First, NoByte, NoDigit, FullZ, Number, Another, room_at, enough_at, signs}
use Rattle.grammar.proofs.Machine.{resting, spaced, minus, more, enough, is_digit, grown, step}
use Rattle.grammar.proofs.Lines.{back, front, Fit, back_onto, whole, ended_text, break_rest, break_spaced, break_minus}

room_more : (m : Mark) (xs : List ℤ) → room_at m (length xs) ≡ more m xs
room_more Steps [] = refl
room_more Steps (x ∷ xs) = ne_eqb (suc (length xs)) 0 (λ e. omega arith)
room_more Standing xs = refl
room_more Place xs = refl
room_more Question xs = refl

enough_same : (m : Mark) (xs : List ℤ) → enough_at m (length xs) ≡ enough m xs
enough_same Steps [] = refl
enough_same Steps (x ∷ xs) = ap not (ne_eqb (suc (length xs)) 0 (λ e. omega arith))
enough_same Standing xs = refl
enough_same Place xs = refl
enough_same Question xs = refl

-- no digit, or the last number takes none
abbrev Stops : List ℕ → List ℤ → Type 0
Stops s [] = Unit {0}
Stops s (x ∷ xs) = NoDigit s ⊎ FullZ x

full_stuck : (m : Mark) (z : ℤ) (xs : List ℤ) (d : ℕ) → FullZ z → grown m (z ∷ xs) d ≡ None
full_stuck m (pos v) xs d (inl e) = cond-false _ _ _ (and_left _ _ (le-ltb 0 v (omega arith)))
full_stuck m (pos v) xs d (inr h) = cond-false _ _ _ (and_right _ _ (lt-leb v 999999 h))
full_stuck m (negsuc v) xs d h = cond-false _ _ _ (lt-leb v 999998 h)

no_digit : (b : ℕ) → (b < 48) ⊎ (57 < b) → is_digit b ≡ false
no_digit b (inl h) = and_left _ _ (lt-leb 48 b h)
no_digit b (inr h) = and_right _ _ (lt-leb b 57 h)

digit_stuck : (m : Mark) (xs : List ℤ) (b : ℕ) (t : List ℕ) → Stops (b ∷ t) xs → cond (is_digit b) (grown m xs (b - 48)) None ≡ None
digit_stuck m [] b t l = elim (cases_Bool (is_digit b)) [ inl e ↦ cond-true _ _ _ e | inr e ↦ cond-false _ _ _ e ]
digit_stuck m (x ∷ xs) b t (inl n) = cond-false _ _ _ (no_digit b n)
digit_stuck m (x ∷ xs) b t (inr f) =
    elim (cases_Bool (is_digit b)) [ inl e ↦ cond-true _ _ _ e ∙ full_stuck m x xs (b - 48) f | inr e ↦ cond-false _ _ _ e ]

rest_stuck : (m : Mark) (xs : List ℤ) (s : List ℕ) → Stops s xs → (more m xs ≡ true → NoByte 32 s) → (enough m xs ≡ true → NoByte 10 s) → First (λ b. step (resting m xs) b ≡ None) s
rest_stuck m xs [] l room ends = tt
rest_stuck m xs (b ∷ t) l room ends =
    elim (cases_eq b 32) [
      | inl e ↦ cond-true _ _ _ (eq-eqb b 32 e) ∙ cond-false _ _ _ (false_from_ne_true (more m xs) (λ h. room h e))
      | inr n ↦ cond-false _ _ _ (ne_eqb b 32 n) ∙ elim (cases_eq b 10) [
        | inl e ↦ cond-true _ _ _ (eq-eqb b 10 e) ∙ cond-false _ _ _ (false_from_ne_true (enough m xs) (λ h. ends h e))
        | inr o ↦ cond-false _ _ _ (ne_eqb b 10 o) ∙ digit_stuck m xs b t l
      ]
    ]

spaced_stuck : (m : Mark) (xs : List ℤ) (s : List ℕ) → NoDigit s → (signs m ≡ true → NoByte 45 s) → First (λ b. step (spaced m xs) b ≡ None) s
spaced_stuck m xs [] n sign = tt
spaced_stuck m xs (b ∷ t) n sign =
    cond-false _ _ _ (no_digit b n)
    ∙ elim (cases_eq b 45) [ inl e ↦ cond-true _ _ _ (eq-eqb b 45 e) ∙ cond-false _ _ _ (false_from_ne_true (signs m) (λ h. sign h e)) | inr o ↦ cond-false _ _ _ (ne_eqb b 45 o) ]

minus_stuck : (m : Mark) (xs : List ℤ) (s : List ℕ) → First (λ b. (b ≡ 48) ⊎ ((b < 48) ⊎ (57 < b))) s → First (λ b. step (minus m xs) b ≡ None) s
minus_stuck m xs [] h = tt
minus_stuck m xs (b ∷ t) (inl e) = cond-true _ _ _ (let d : is_digit b ≡ true = grind (arith, nat_tests) in d) ∙ cond-false _ _ _ (le-ltb 48 b (omega arith))
minus_stuck m xs (b ∷ t) (inr n) = cond-false _ _ _ (no_digit b n)

-- the fields that are held, when one comes after them
reverse_push : (z : ℤ) (xs : List ℤ) → reverse (z ∷ xs) ≡ reverse xs ++ (z ∷ [])
reverse_push z xs = reverse-append (z ∷ []) xs

field_kept : (i : ℕ) (ns : List ℤ) (z : ℤ) (k : ℕ) → k < length ns → field_in i (ns ++ (z ∷ [])) k ≡ field_in i ns k
field_kept i ns z k h =
    ap (λ l. record { line = i; column = length (flat_map field l) + 4; value = get_or (ns ++ (z ∷ [])) k (pos 0) }) (take-append-le k ns (z ∷ []) (omega arith))
    ∙ ap (λ (v : ℤ). record { line = i; column = length (flat_map field (take k ns)) + 4; value = v }) (get_or_append_left ns (z ∷ []) (pos 0) k h)

field_new : (i : ℕ) (ns : List ℤ) (z : ℤ) (c : ℕ) → c ≡ length (flat_map field ns) + 4 → record { line = i; column = c; value = z } ≡ field_in i (ns ++ (z ∷ [])) (length ns)
field_new i ns z c e =
    ap (λ (k : ℕ). record { line = i; column = k; value = z }) (e ∙ ap (λ l. length (flat_map field l) + 4) (sym (take-append_seam ns (z ∷ []))))
    ∙ ap (λ (v : ℤ). record { line = i; column = length (flat_map field (take (length ns) (ns ++ (z ∷ [])))) + 4; value = v }) (sym (get_or_at ns z [] (pos 0) (length ns) refl))

-- the fields fs are the first 25 of line i with the numbers ns
pub record Fields (i : ℕ) (fs : List Field) (ns : List ℤ) : Type 0 where
  pub kept : length fs ≡ min (length ns) 25
  pub held : Held i fs ns

fields_more : (i : ℕ) (fs gs : List Field) (ns : List ℤ) (z : ℤ) (f : Field) (r : Result (Unit {0}) Full) → f ≡ field_in i (ns ++ (z ∷ [])) (length ns) → Fields i fs ns → Pushed 25 fs f r gs → Fields i gs (ns ++ (z ∷ []))
fields_more i fs gs ns z f (Ok u) new h push =
    let kept = h.kept in
    let room = push.0 in
    let longer = length-append ns (z ∷ []) in
    let one = ap length push.1 ∙ length-append fs (f ∷ []) in
    record {
      kept = omega arith;
      held = λ k small l d.
          elim (cases_lt k (length ns)) [
            | inl lower ↦ ap (λ l. get_or l k d) push.1 ∙ get_or_append_left fs (f ∷ []) d k (omega arith) ∙ h.held k small lower d ∙ sym (field_kept i ns z k lower)
            | inr upper ↦
                let last : k ≡ length ns = omega arith in
                ap (λ l. get_or l k d) push.1 ∙ get_or_at fs f [] d k (omega arith) ∙ new ∙ ap (field_in i (ns ++ (z ∷ []))) (sym last)
          ];
    }
fields_more i fs gs ns z f (Err e) new h push =
    let kept = h.kept in
    let full = push.0 in
    let longer = length-append ns (z ∷ []) in
    let same = ap length push.1 in
    record {
      kept = omega arith;
      held = λ k small l d. ap (λ l. get_or l k d) push.1 ∙ h.held k small (omega arith) d ∙ sym (field_kept i ns z k (omega arith));
    }

-- the bytes of a line, and those behind its mark
abbrev pub behind : Mark → List ℕ → List ℕ
behind m w = letter m ∷ (58 ∷ w)

-- line i, of whose bytes w stand behind the mark, is read up to `rest`, which begins at this column
pub record Sofar (i : ℕ) (w : List ℕ) (m : Mark) (column count : ℕ) (fs : List Field) (rest : List ℕ) : Type 0 where
  pub xs : List ℤ
  pub fit : Fit m xs
  pub is : w ≡ back xs ++ rest
  pub placed : column ≡ length (back xs) + 3
  pub counted : count ≡ length xs
  pub few : count + 3 ≤ column
  pub fields : Fields i fs (reverse xs)
  pub stops : Stops rest xs

back_joined : (xs : List ℤ) → back xs ≡ flat_map field (reverse xs)
back_joined xs = ap back (sym (reverse-reverse xs)) ∙ back_onto (reverse xs) []

more_is : (m : Mark) (n : ℕ) (xs : List ℤ) → n ≡ length xs → room_at m n ≡ more m xs
more_is m n xs count = ap (room_at m) count ∙ room_more m xs

enough_is : (m : Mark) (n : ℕ) (xs : List ℤ) → n ≡ length xs → enough_at m n ≡ enough m xs
enough_is m n xs count = ap (enough_at m) count ∙ enough_same m xs

space_comes : (s t : List ℕ) (p n : ℕ) (m : Mark) (b : Bool) → Another s p m n (Ok b) t → b ≡ true → (s ≡ 32 ∷ t) × (room_at m n ≡ true)
space_comes s t p n m true told e = told
space_comes s t p n m false told e = absurd (false≢true e)

end_comes : (s t : List ℕ) (p n : ℕ) (m : Mark) (b : Bool) → Another s p m n (Ok b) t → b ≡ false → (s ≡ 10 ∷ t) × (enough_at m n ≡ true)
end_comes s t p n m false told e = told
end_comes s t p n m true told e = absurd (false≢true (sym e))

-- after a space, behind which column c is, comes the number z
pub next_so : {i : ℕ} {w : List ℕ} {m : Mark} {p n : ℕ} {fs : List Field} {s : List ℕ} (t : List ℕ) (b : Bool) (c q : ℕ) (z : ℤ) (u : List ℕ) (f : Field) (r : Result (Unit {0}) Full) (gs : List Field) → Sofar i w m p n fs s → Another s p m n (Ok b) t → b ≡ true → c + length t ≡ p + length s → Number t c m (Ok z) u → q + length u ≡ c + length t → f ≡ record { line = i; column = c; value = z } → Pushed 25 fs f r gs → Sofar i w m q (n + 1) gs u
next_so {i} {w} {m} {p} {n} {fs} {s} t b c q z u f r gs so told branch moved read along is push =
    let comes = space_comes s t p n m b told branch in
    let space = comes.0 in
    let xs = so.xs in
    let count = so.counted in
    let placed = so.placed in
    let few = so.few in
    let one = ap length space in
    let long = ap length read.0 ∙ length-append (signed_decimal z) u in
    let more_long = length-append (back xs) (field z) in
    let back_long = ap length (back_joined xs) in
    let reversed = length-reverse xs in
    let new = is ∙ field_new i (reverse xs) z c (omega arith) in
    record {
      xs = z ∷ xs;
      fit = (so.fit, sym (more_is m n xs count) ∙ comes.1, read.1, read.2);
      is = so.is ∙ ap (λ l. back xs ++ l) (space ∙ ap (λ l. 32 ∷ l) read.0) ∙ sym (append_assoc (back xs) (field z) u);
      placed = omega arith;
      counted = omega arith;
      few = omega arith;
      fields = subst (Fields i gs) (sym (reverse_push z xs)) (fields_more i fs gs (reverse xs) z f r new so.fields push);
      stops = read.3;
    }

pub number_breaks : {i : ℕ} {w : List ℕ} {m : Mark} {p n : ℕ} {fs : List Field} {s : List ℕ} (t : List ℕ) (b : Bool) (c : ℕ) (e : BrokenLine) (u : List ℕ) → Sofar i w m p n fs s → Another s p m n (Ok b) t → b ≡ true → c + length t ≡ p + length s → Number t c m (Err e) u → Broken (behind m w) e.column
number_breaks {i} {w} {m} {p} {n} {fs} {s} t b c e u so told branch moved read =
    let comes = space_comes s t p n m b told branch in
    let space = comes.0 in
    let xs = so.xs in
    let fits = sym (more_is m n xs so.counted) ∙ comes.1 in
    let placed = so.placed in
    let one = ap length space in
    let is = ap (behind m) (so.is ∙ ap (λ l. back xs ++ l) space) in
    elim read [
      | inl r ↦ let told = r.0 in break_spaced (behind m w) t e.column m xs is (omega arith) so.fit fits (spaced_stuck m xs t r.1 r.2)
      | inr r ↦
          let told = r.2 in
          break_minus (behind m w) r.0 e.column m xs (is ∙ ap (λ l. front m xs ++ (32 ∷ l)) r.1) (omega arith) so.fit fits r.3 (minus_stuck m xs r.0 r.4)
    ]

pub rest_breaks : {i : ℕ} {w : List ℕ} {m : Mark} {p n : ℕ} {fs : List Field} {s : List ℕ} (t : List ℕ) (e : BrokenLine) → Sofar i w m p n fs s → Another s p m n (Err e) t → Broken (behind m w) e.column
rest_breaks {i} {w} {m} {p} {n} {fs} {s} t e so bars =
    let xs = so.xs in
    let told = bars.0 in
    let placed = so.placed in
    break_rest (behind m w) s e.column m xs (ap (behind m) so.is) (omega arith) so.fit
    (rest_stuck m xs s so.stops (λ h. bars.1 (more_is m n xs so.counted ∙ h)) (λ h. bars.2 (enough_is m n xs so.counted ∙ h)))

pub ends_so : {i : ℕ} {w : List ℕ} {m : Mark} {p n : ℕ} (l : InlineList Field 25) {s : List ℕ} (t : List ℕ) (b : Bool) (q : ℕ) → Sofar i w m p n (items l) s → Another s p m n (Ok b) t → b ≡ false → q + length t ≡ p + length s → ReadAs (behind m w) i (record { mark = m; count = n; fields = l; end = q - 1 })
ends_so {i} {w} {m} {p} {n} l {s} t b q so told branch moved =
    let comes = end_comes s t p n m b told branch in
    let byte = comes.0 in
    let one = ap length byte in
    let few = so.few in
    let xs = so.xs in
    let count = so.counted in
    let placed = so.placed in
    let e = whole m xs so.fit (sym (enough_is m n xs count) ∙ comes.1) in
    let is : behind m w ≡ (front m xs ++ (10 ∷ [])) ++ t = ap (behind m) (so.is ∙ ap (λ v. back xs ++ v) byte) ∙ sym (append_assoc (front m xs) (10 ∷ []) t) in
    let long = length-append (front m xs) (10 ∷ []) in
    let all = ap length is ∙ length-append (front m xs ++ (10 ∷ [])) t in
    let back_long = length-reverse xs in
    let numbered = ap length e.numbered in
    let kept = so.fields.kept in
    record {
      of = e.of;
      begins = record {
        within = omega arith;
        right = e.right;
        is = ap (take (q - 1)) is ∙ take_at (front m xs ++ (10 ∷ [])) t (q - 1) (omega arith) ∙ sym (ended_text m xs e);
      };
      shows = record {
        marked = sym e.marked;
        counted = omega arith;
        kept = omega arith;
        held = subst (Held i (items l)) (sym e.numbered) so.fields.held;
      };
    }
