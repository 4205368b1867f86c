use Rattle.std.proofs.Common.{◌≡◌, ◌*◌, ◌≤◌, true, take}
use Rattle.cycle_theory.specs.Walk.{most}
use Rattle.inline_list.specs.Items.{items}
use Rattle.certificate.specs.Extending.{times, all_small}
use Rattle.certificate.proofs.certificate.Certificate.scaled.Given as goal

abbrev pub invariant-loop-share : goal.invariant-loop-share
invariant-loop-share l = record {
  low : l.p * l.self.multiplier ≤ most;
  multiplier : l.all.multiplier ≡ l.p * l.self.multiplier;
  shares : items l.all.shares ≡ times l.p (take l.share-index l.share-items);
  small : all_small (items l.all.shares) ≡ true;
}
