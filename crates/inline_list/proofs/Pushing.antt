-- Putting an item where there is room for it. Assumes nothing.
use Rattle.std.proofs.Common.{◌≡◌, ℕ, ◌<◌, List, [], ◌∷◌, ◌++◌, length, Ok, Err, Result, arith}
use Rattle.inline_list.specs.declared.Full.{Full}
use Rattle.inline_list.specs.Items.{Pushed}

pub pushed_with_room : {T : Type 0} (n : ℕ) (xs : List T) (x : T) (answer : Result (Unit {0}) Full) (ys : List T) → length xs < n → Pushed n xs x answer ys → ys ≡ xs ++ x ∷ []
pushed_with_room n xs x (Ok _) ys room pushed = pushed.1
pushed_with_room n xs x (Err _) ys room pushed = absurd (let e = pushed.0 in omega (arith, e, room))
