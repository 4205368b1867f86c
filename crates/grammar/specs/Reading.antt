-- Cited by private functions only: what each step of the reader says of the bytes s before it, which begin at column c, and the bytes t left behind it.
--
--   First P s          the first byte of s is P, where s has one
--   NoByte b s         s does not begin with b
--   NoDigit s          s begins with no digit
--   Full v             no digit can follow the number v: it is 0, or has seven digits
--   Passed s b r t     r tells whether s begins with b
--   Digit s r t        r is the digit with which s begins, or none
--   Digits s r t       r is the number whose digits s begins with, and no more can follow; or s begins with no digit
--   room_at m n        another number can follow n of them
--   enough_at m n      the line can end after n of them
--   signs m            its numbers can have a minus
--   FullZ z, Signed m z  no digit can follow z; z has a minus only where m allows it
--   Number s c m r t   r is the number with which s begins; or the column at which none can go on
--   Another s c m n r t  after n numbers, r tells whether another comes or the line ends; or the column at which neither can
use Rattle.std.specs.Prelude.{◌≡◌, ◌≢◌, ℕ, ◌+◌, ◌<◌, ◌≤◌, Bool, true, false, not, ◌⊎◌, List, [], ◌∷◌, ◌++◌, ℤ, pos, negsuc, Some, None, Ok, Err, decimal, Option, Result, ◌==◌}
use Rattle.std.specs.Fmt.{signed_decimal}
use Rattle.grammar.specs.declared.broken.BrokenLine.{BrokenLine}
use Rattle.grammar.specs.declared.mark.Mark.{Mark}
use Rattle.grammar.specs.declared.mark.Mark.TheVariants.{Steps, Standing, Place, Question}
use Rattle.grammar.specs.Text.{Short}

abbrev pub First : (ℕ → Type 0) → List ℕ → Type 0
First P [] = Unit {0}
First P (b ∷ _) = P b

abbrev pub NoByte : ℕ → List ℕ → Type 0
NoByte b s = First (λ x. x ≢ b) s

abbrev pub NoDigit : List ℕ → Type 0
NoDigit s = First (λ b. (b < 48) ⊎ (57 < b)) s

abbrev pub Full : ℕ → Type 0
Full v = (v ≡ 0) ⊎ (999999 < v)

abbrev pub Passed : List ℕ → ℕ → Bool → List ℕ → Type 0
Passed s b true t = s ≡ b ∷ t
Passed s b false t = NoByte b s × (t ≡ s)

abbrev pub Digit : List ℕ → Option ℕ → List ℕ → Type 0
Digit s None t = NoDigit s × (t ≡ s)
Digit s (Some d) t = (s ≡ (48 + d) ∷ t) × (d < 10)

abbrev pub Digits : List ℕ → Option ℕ → List ℕ → Type 0
Digits s None t = NoDigit s
Digits s (Some v) t = (s ≡ decimal v ++ t) × (v ≤ 9999999) × (NoDigit t ⊎ Full v)

abbrev pub room_at : Mark → ℕ → Bool
room_at Steps n = n == 0
room_at Standing n = false
room_at Place n = true
room_at Question n = true

abbrev pub enough_at : Mark → ℕ → Bool
enough_at Steps n = not (n == 0)
enough_at Standing n = true
enough_at Place n = true
enough_at Question n = true

abbrev pub signs : Mark → Bool
signs Steps = false
signs Standing = false
signs Place = true
signs Question = false

abbrev pub FullZ : ℤ → Type 0
FullZ (pos v) = Full v
FullZ (negsuc v) = 999998 < v

abbrev pub Signed : Mark → ℤ → Type 0
Signed m (pos n) = Unit {0}
Signed m (negsuc n) = signs m ≡ true

abbrev pub Number : List ℕ → ℕ → Mark → Result ℤ BrokenLine → List ℕ → Type 0
Number s c m (Ok z) t = (s ≡ signed_decimal z ++ t) × Short z × Signed m z × (NoDigit t ⊎ FullZ z)
Number s c m (Err e) t = ((e.column ≡ c) × NoDigit s × (signs m ≡ true → NoByte 45 s)) ⊎ ((u : List ℕ) × (s ≡ 45 ∷ u) × (e.column ≡ c + 1) × (signs m ≡ true) × First (λ b. (b ≡ 48) ⊎ ((b < 48) ⊎ (57 < b))) u)

abbrev pub Another : List ℕ → ℕ → Mark → ℕ → Result Bool BrokenLine → List ℕ → Type 0
Another s c m n (Ok true) t = (s ≡ 32 ∷ t) × (room_at m n ≡ true)
Another s c m n (Ok false) t = (s ≡ 10 ∷ t) × (enough_at m n ≡ true)
Another s c m n (Err e) t = (e.column ≡ c) × (room_at m n ≡ true → NoByte 32 s) × (enough_at m n ≡ true → NoByte 10 s)
