use Rattle.std.proofs.Common.{arith}
use Rattle.ledger.proofs.Masks.{mask_used, mask_zero}
use Rattle.ledger.proofs.row.Row.used.Goals as goal
use Rattle.ledger.proofs.row.Row.used.Goals.{then-count-ne0, else-count-ne0}

pub loop-j-preserved : goal.loop-j-preserved
loop-j-preserved c =
    elim c.if-count-ne0.branch [
      | then-count-ne0 w ↦ simp w.mask-is (mask_used _ _ _ (omega arith) w.if-count-ne0.true c.loop-j.invariant)
      | else-count-ne0 w ↦ simp w.mask-is (mask_zero _ _ _ w.if-count-ne0.false c.loop-j.invariant)
    ]
