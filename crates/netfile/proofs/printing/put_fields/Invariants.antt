use Rattle.std.proofs.Common.{◌∷◌, take}
use Rattle.std.specs.List.{flat_map}
use Rattle.netfile.proofs.printing.put_fields.Given as goal

abbrev pub invariant-loop-n : goal.invariant-loop-n
invariant-loop-n g l = g.S.Sink.takes l.initial.sink (flat_map (λ n. 32 ∷ g.N.Integer.text n) (take l.n-index l.numbers)) l.sink
