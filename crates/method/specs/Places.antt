-- Places as the code holds them.
--
--   effects_of place   the effects of a place, one for each step
--   Checked p r        what making a place of the list p answers: its place, or why p is none
use Rattle.std.specs.Prelude.{◌≡◌, ◌<◌, ◌≤◌, true, false, List, length, ℤ, Ok, Err, Result}
use Rattle.inline_list.specs.Items.{items}
use Rattle.method.specs.declared.place.Place.{Place}
use Rattle.method.specs.declared.fault.PlaceFault.{PlaceFault}
use Rattle.method.specs.declared.fault.PlaceFault.TheVariants.{TooLong, Effect}
use Rattle.method.specs.Effects.{some, outside, first_outside}

abbrev pub effects_of : Place → List ℤ
effects_of place = items place.effects

abbrev pub Checked : List ℤ → Result Place PlaceFault → Type 0
Checked p (Ok place) = (length p ≤ 24) × (some outside p ≡ false) × (effects_of place ≡ p)
Checked p (Err TooLong) = 24 < length p
Checked p (Err (Effect step)) = (length p ≤ 24) × (some outside p ≡ true) × (step ≡ first_outside 1 p)
