-- What the digits that were read are.
use Rattle.std.proofs.Common.{◌≡◌, ℕ, ◌+◌, ◌*◌, ◌/◌, ◌%◌, ◌<◌, ◌≤◌, List, [], ◌∷◌, ◌++◌, ◌⊎◌, inl, decimal, refl, sym, ap, subst, ◌∙◌, append_assoc, arith}
use Rattle.std.proofs.lemmas.Fmt.{decimal_digit, decimal_step}
use Rattle.grammar.specs.Reading.{First}

pub one_digit : (s t : List ℕ) (d : ℕ) → s ≡ (48 + d) ∷ t → d < 10 → s ≡ decimal d ++ t
one_digit s t d e small = e ∙ ap (λ l. l ++ t) (sym (decimal_digit d small))

one_more : (v d : ℕ) → d < 10 → 0 < v → v ≤ 999999 → decimal v ++ ((48 + d) ∷ []) ≡ decimal (v * 10 + d)
one_more v d small some few =
    let front : (v * 10 + d) / 10 ≡ v = omega arith in
    let last : (v * 10 + d) % 10 ≡ d = omega arith in
    sym (decimal_step (v * 10 + d) (omega arith) (omega arith) ∙ ap (λ k. decimal k ++ ((48 + (v * 10 + d) % 10) ∷ [])) front ∙ ap (λ k. decimal v ++ ((48 + k) ∷ [])) last)

pub next_digit : (s t u : List ℕ) (v d : ℕ) → s ≡ decimal v ++ t → t ≡ (48 + d) ∷ u → d < 10 → 0 < v → v ≤ 999999 → s ≡ decimal (v * 10 + d) ++ u
next_digit s t u v d e f small some few =
    e ∙ ap (λ l. decimal v ++ l) f ∙ sym (append_assoc (decimal v) ((48 + d) ∷ []) u) ∙ ap (λ l. l ++ u) (one_more v d small some few)

-- a zero that was read is no digit that can follow a minus
pub zero_first : (s t : List ℕ) (v : ℕ) → s ≡ decimal v ++ t → v ≡ 0 → First (λ b. (b ≡ 48) ⊎ ((b < 48) ⊎ (57 < b))) s
zero_first s t v e z = subst (First (λ b. (b ≡ 48) ⊎ ((b < 48) ⊎ (57 < b)))) (sym (e ∙ ap (λ k. decimal k ++ t) z ∙ ap (λ l. l ++ t) (decimal_digit 0 (omega arith)))) (inl refl)
