-- Shares multiplied by a number, within the limit or not.
use Rattle.std.proofs.Common.{◌≡◌, ℕ, zero, suc, ◌*◌, ◌<◌, ◌≤◌, true, false, leb, List, [], ◌∷◌, ◌++◌, length, get_or, refl, not-suc-le-zero, le_of_suc-le-suc}
use Rattle.std.proofs.lemmas.Bool.{and_parts, and_from, and_left, and_right, le-leb, lt-leb}
use Rattle.cycle_theory.specs.Walk.{most}
use Rattle.certificate.specs.declared.certificate.Share.{Share}
use Rattle.certificate.specs.Extending.{times, all_small}

pub all_small_more : (shares : List Share) (s : Share) → all_small shares ≡ true → s.coefficient ≤ most → all_small (shares ++ s ∷ []) ≡ true
all_small_more [] s t l = and_from (leb s.coefficient most) true (le-leb s.coefficient most l) refl
all_small_more (r ∷ shares) s t l =
    let both = and_parts (leb r.coefficient most) (all_small shares) t in
    and_from (leb r.coefficient most) (all_small (shares ++ s ∷ [])) both.0 (all_small_more shares s both.1 l)

pub times_large : (p : ℕ) (shares : List Share) (i : ℕ) (d : Share) → i < length shares → most < p * (get_or shares i d).coefficient → all_small (times p shares) ≡ false
times_large p [] i d h l = absurd (not-suc-le-zero h)
times_large p (s ∷ shares) zero d h l = and_left (leb (p * s.coefficient) most) (all_small (times p shares)) (lt-leb (p * s.coefficient) most l)
times_large p (s ∷ shares) (suc i) d h l = and_right (leb (p * s.coefficient) most) (all_small (times p shares)) (times_large p shares i d (le_of_suc-le-suc h) l)
