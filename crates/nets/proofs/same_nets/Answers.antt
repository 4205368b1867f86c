use Rattle.std.proofs.Common.{List, map, subst}
use Rattle.cycle_theory.specs.Nets.{Place}
use Rattle.method.specs.Places.{effects_of}
use Rattle.sheet.specs.Runs.{accepted}
use Rattle.nets.specs.Nets.{SheetOf, Tells}
use Rattle.nets.proofs.same_nets.Goals as goal

-- the promise of comparing, at the two histories
pub returns : goal.returns
returns g c =
    let m = c.args.left.steps.n in
    let n = c.args.right.steps.n in
    let answer = c.compare.result in
    let left = map effects_of c.args.left.places.now in
    let right = map effects_of c.args.right.places.now in
    let a : SheetOf m left _ = c.in_ok-a.ensures.made in
    let b : SheetOf n right _ = c.in_ok-b.ensures.made in
    let told : Tells m (accepted a.history) n (accepted b.history) answer = (c.compare.ensures.promise m n a.history b.history a.closed b.closed).same in
    subst (λ (A : List Place). Tells m A n right answer) a.places_are
    (subst (λ (B : List Place). Tells m (accepted a.history) n B answer) b.places_are told)
