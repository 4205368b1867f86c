-- What a `?` passes up, and what `map_err` makes of an error.
use Rattle.std.proofs.Common.{◌≡◌, Ok, Err, Result, MatchResult, refl, sym, ap, ◌∙◌, subst}
use Rattle.std.specs.Result.{IsErrAnd}
use Rattle.std.proofs.lemmas.Result.{err_from_is_err_and}

pub passed : {T E : Type 0} (P : Result T E → Type 0) {r : Result T E} {f : E} → IsErrAnd r (λ e. e ≡ f) → P (Err f) → P r
passed P {r} h p = let x = err_from_is_err_and r h in subst P (sym (x.1 ∙ ap Err x.2)) p

pub at_fault : {T E : Type 0} {f : E} (r : Result T E) (P : T → Type 0) (Q : E → Type 0) → IsErrAnd r (λ e. e ≡ f) → Q f → MatchResult r P Q
at_fault r P Q h q = passed (λ a. MatchResult a P Q) h q

-- m is the result of `map_err` on r, which makes an error d of an error e only where Q e d
abbrev pub Mapped : {T D E : Type 0} → (E → D → Type 0) → Result T E → Result T D → Type 0
Mapped Q r m = MatchResult r (λ x. m ≡ Ok x) (λ e. IsErrAnd m (Q e))

pub mapped_as : {T D E : Type 0} (Q P : E → D → Type 0) (r : Result T E) (m : Result T D) → ((e : E) (d : D) → P e d → Q e d) → Mapped P r m → Mapped Q r m
mapped_as Q P (Ok x) m f h = h
mapped_as Q P (Err e) (Err d) f h = f e d h
mapped_as Q P (Err e) (Ok x) f h = absurd h

-- where m is an error, so is r
pub mapped : {T D E : Type 0} (Q : E → D → Type 0) (r : Result T E) {m : Result T D} {d : D} → Mapped Q r m → m ≡ Err d → (e : E) × (r ≡ Err e) × Q e d
mapped Q (Ok x) {m} {d} h is = let e : m ≡ Ok x = h in cc
mapped Q (Err e) h is = (e, refl, subst (λ a. IsErrAnd a (Q e)) is h)

-- and where it is done, so is r
pub unmapped : {T D E : Type 0} (P : E → D → Type 0) (r : Result T E) {m : Result T D} {x : T} → Mapped P r m → m ≡ Ok x → r ≡ Ok x
unmapped P (Ok y) {m} {x} h is = let e : m ≡ Ok y = h in cc
unmapped P (Err e) h is = absurd (subst (λ a. IsErrAnd a (P e)) is h)
