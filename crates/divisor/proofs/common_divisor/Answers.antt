use Rattle.std.proofs.Common.{◌<◌, ◌≤◌, sym, subst, ◌∙◌}
use Rattle.cycle_theory.proofs.LeastRatios.{gcd_pos}
use Rattle.divisor.proofs.Turns.{gcd_turn, gcd_end, gcd_within}
use Rattle.divisor.proofs.common_divisor.Goals as goal

pub loop-y-preserved : goal.loop-y-preserved
loop-y-preserved c = gcd_turn c.loop-y.x c.loop-y.y c.loop-y-test.true ∙ c.loop-y.invariant

pub returns : goal.returns
returns c =
    let value = sym (gcd_end c.loop-y.x c.loop-y.y c.loop-y-test.false) ∙ c.loop-y.invariant in record {
      value = value;
      some = λ h. subst (λ d. 0 < d) (sym value) (gcd_pos c.args.a c.args.b h);
      within = λ h. subst (λ d. d ≤ c.args.b) (sym value) (gcd_within c.args.a c.args.b h);
    }
