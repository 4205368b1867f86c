-- What a list of few items holds, and what its calls do.
--
--   items l                      the items, first to last
--   Roomy n xs answer            whether the items xs, of which there may be n, have room for one more was answered so
--   Pushed n xs x answer ys      putting x at the end of the items xs, of which there may be n, was answered so, and left ys
--   Copied n xs answer           making a list of the items xs, of which there may be n, was answered so
use Rattle.std.specs.Prelude.{◌≡◌, ℕ, ◌<◌, ◌≤◌, List, [], ◌∷◌, ◌++◌, length, take, Ok, Err, Result}
use Rattle.inline_list.specs.declared.Full.{Full}
use Rattle.inline_list.specs.declared.list.InlineList.{InlineList}

abbrev pub items : {T : Type 0} {n : ℕ} → InlineList T n → List T
items l = take l.count l.slots

abbrev pub Roomy : {T : Type 0} → ℕ → List T → Result (Unit {0}) Full → Type 0
Roomy n xs (Ok _) = length xs < n
Roomy n xs (Err _) = length xs ≡ n

abbrev pub Pushed : {T : Type 0} → ℕ → List T → T → Result (Unit {0}) Full → List T → Type 0
Pushed n xs x (Ok _) ys = (length xs < n) × (ys ≡ xs ++ x ∷ [])
Pushed n xs x (Err _) ys = (length xs ≡ n) × (ys ≡ xs)

abbrev pub Copied : {T : Type 0} (n : ℕ) → List T → Result (InlineList T n) Full → Type 0
Copied n xs (Ok l) = (length xs ≤ n) × (items l ≡ xs)
Copied n xs (Err _) = n < length xs
