use Rattle.std.proofs.Common.{◌≡◌, map, take}
use Rattle.inline_list.specs.Items.{items}
use Rattle.netfile.proofs.values.values_of.Given as goal

abbrev pub invariant-loop-field : goal.invariant-loop-field
invariant-loop-field g l = items l.values ≡ map (λ f. g.V.Value.of f.value) (take l.field-index (items l.line.fields))
