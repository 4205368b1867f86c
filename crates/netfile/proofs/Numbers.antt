-- The numbers that a line holds are those of its record.
use Rattle.std.proofs.Common.{◌≡◌, ℕ, List, map, take, ℤ, pos, nat_abs, sym, ap, ◌∙◌, arith}
use Rattle.std.proofs.lemmas.Simd.{map-map}
use Rattle.std.proofs.lemmas.List.{map-id, length-map, length-take, get_or-take, get_or-map, ext_get_or}
use Rattle.inline_list.specs.Items.{items}
use Rattle.grammar.specs.declared.line.Field.{Field}
use Rattle.grammar.specs.declared.line.Line.{Line}
use Rattle.grammar.specs.Text.{Record, numbers, place, question}
use Rattle.grammar.specs.Lines.{Shows}

none : Field
none = record { line = 0; column = 0; value = pos 0 }

-- what `of` says of each field that is kept, and of each number
pub values : {Y : Type 0} (of : ℤ → Y) (i : ℕ) (l : Line) (r : Record) → Shows i l r → map (λ f. of f.value) (items l.fields) ≡ take 25 (map of (numbers r))
values of i l r shows =
    let ns = numbers r in
    let kept = shows.kept in
    let l1 = length-map (items l.fields) (λ (f : Field). of f.value) in
    let l2 = length-map ns of in
    let l3 = length-take 25 (map of ns) in
    ext_get_or (of (pos 0)) _ _ (omega arith) (λ j h.
    get_or-map (λ (f : Field). of f.value) (items l.fields) j none (of (pos 0)) (omega arith)
    ∙ ap (λ (f : Field). of f.value) (shows.held j (omega arith) (omega arith) none)
    ∙ sym (get_or-map of ns j (pos 0) (of (pos 0)) (omega arith))
    ∙ sym (get_or-take 25 (map of ns) j (of (pos 0)) (omega arith)))

pub effects_held : (i : ℕ) (l : Line) (effects : List ℤ) → Shows i l (place effects) → map (λ f. f.value) (items l.fields) ≡ take 25 effects
effects_held i l effects shows = values (λ z. z) i l (place effects) shows ∙ ap (take 25) (map-id effects)

pub counts_held : (i : ℕ) (l : Line) (counts : List ℕ) → Shows i l (question counts) → map (λ f. nat_abs f.value) (items l.fields) ≡ take 25 counts
counts_held i l counts shows = values nat_abs i l (question counts) shows ∙ ap (take 25) (map-map nat_abs pos counts ∙ map-id counts)
