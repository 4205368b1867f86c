-- What a sheet's ledger holds. Each sheet has it as a ghost field, so that this file does not name the sheets.
-- A ghost field takes a fact that has one proof at most: of a ledger's order, whose kind may prove it in several ways, ∥ .. ∥₁ says just that it holds.
--
--   effects_in places      the places of a list, first to last
--   Holds k n A ledger     the ledger, of kind k, is in order and holds the method's rows of the places A, each with n effects, 24 counts wide
use Rattle.std.specs.Prelude.{◌≡◌, ℕ, List, map, length}
use Rattle.ledger.specs.declared.Ledger.{Ghosts as Kind}
use Rattle.cycle_theory.specs.Nets.{Place, Mem}
use Rattle.cycle_theory.specs.Method.{tss}
use Rattle.inline_list.specs.declared.list.InlineList.{InlineList}
use Rattle.inline_list.specs.Items.{items}
use Rattle.method.specs.declared.place.Place.{Place as Kept}
use Rattle.method.specs.Places.{effects_of}
use Rattle.method.specs.Stepping.{written}

abbrev pub effects_in : {most : ℕ} → InlineList Kept most → List Place
effects_in places = map effects_of (items places)

pub record Holds {L : Type 0} (k : Kind L) (n : ℕ) (places : List Place) (ledger : L) : Type 0 where
  pub order : ∥ k.orderly ledger ∥₁
  pub rows : k.rows ledger ≡ written (tss n places)
  pub long : (p : Place) → Mem p places → length p ≡ n
