-- A line that breaks in its mark.
use Rattle.std.proofs.Common.{◌≡◌, ℕ, ◌<◌, eqb, List, [], ◌∷◌, length, get_or, None, sym, ◌∙◌, subst, arith}
use Rattle.std.proofs.lemmas.Bool.{cond-false, ne_eqb}
use Rattle.grammar.specs.declared.mark.Mark.{Mark}
use Rattle.grammar.specs.declared.mark.Mark.TheVariants.{Steps, Standing, Place, Question}
use Rattle.grammar.specs.Text.{letter}
use Rattle.grammar.specs.Lines.{Broken}
use Rattle.grammar.proofs.Machine.{start, step}
use Rattle.grammar.proofs.Lines.{break_start, break_letter}

start_stuck : (b : ℕ) → ((m : Mark) → b ≡ letter m → ⊥) → step start b ≡ None
start_stuck b h =
    cond-false (eqb b 78) _ _ (ne_eqb b 78 (h Steps))
    ∙ cond-false (eqb b 83) _ _ (ne_eqb b 83 (h Standing))
    ∙ cond-false (eqb b 80) _ _ (ne_eqb b 80 (h Place))
    ∙ cond-false (eqb b 81) _ _ (ne_eqb b 81 (h Question))

pub unlettered : (s : List ℕ) → (0 < length s → (m : Mark) → get_or s 0 0 ≡ letter m → ⊥) → Broken s 1
unlettered [] h = break_start [] tt
unlettered (b ∷ t) h = break_start (b ∷ t) (start_stuck b (h (omega arith)))

behind_letter : (t : List ℕ) (m : Mark) → (0 < length t → get_or t 0 0 ≡ 58 → ⊥) → Broken (letter m ∷ t) 2
behind_letter [] m h = break_letter m [] tt
behind_letter (b ∷ t) m h = break_letter m (b ∷ t) (cond-false (eqb b 58) _ _ (ne_eqb b 58 (h (omega arith))))

pub uncolon : (s : List ℕ) (m : Mark) → 0 < length s → get_or s 0 0 ≡ letter m → (1 < length s → get_or s 1 0 ≡ 58 → ⊥) → Broken s 2
uncolon [] m l e h = absurd (omega arith)
uncolon (a ∷ t) m l e h = subst (λ b. Broken (b ∷ t) 2) (sym e) (behind_letter t m (λ some. h (omega arith)))
