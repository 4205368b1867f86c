use Rattle.certificate.proofs.LeastSoFar.{least_takes}
use Rattle.certificate.proofs.round.Walk.take.Goals as goal

pub left-requires : goal.left-requires
left-requires c = least_takes _ _ c.in_ok-ratio.ratio c.in_ok-ratio.ensures
