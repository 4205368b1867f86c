use Rattle.std.proofs.Common.{◌≡◌, ◌+◌, length, refl, sym, subst, arith}
use Rattle.std.proofs.lemmas.Bool.{both_ways}
use Rattle.cycle_theory.specs.Nets.{Mem}
use Rattle.cycle_theory.specs.Method.{combined, divided}
use Rattle.method.specs.Ascents.{row_at}
use Rattle.method.specs.Building.{Adjacent, Pair, SoFar, Grown}
use Rattle.method.proofs.Surveying.{told_here, row_here}
use Rattle.method.proofs.Filling.{grown_same, grown_more}
use Rattle.method.proofs.Growing.{next_same, next_more, pairs_done, pair_once, pair_in_step}
use Rattle.method.proofs.build.add_pairs.Goals as goal
use Rattle.method.proofs.build.add_pairs.Goals.{then-are_adjacent+in-Some, else-are_adjacent}

pub returns-in_default : goal.returns-in_default
returns-in_default g c p A ready first grown =
    let rows = g.L.Ledger.rows c.args.current.now in
    let a = c.args.a.now in
    let b = c.b-item.result in
    let second = told_here p rows c.args.survey.now c.loop-b.b-index b ready.surveyed c.loop-b-test.true c.b-item.is in
    let adjacent : Adjacent p rows a.row b.row = (c.are_adjacent.ensures p rows ready.surveyed first second).0 c.if-are_adjacent.true in
    let z = divided (combined p (row_at rows a.row) (row_at rows b.row)) in
    let pair : Pair p rows a.row b.row z = record { first = first.inside; second = second.inside; adjacent = adjacent; is = refl } in
    (z, pair_in_step A rows ready.cover ready.ascending p a.row b.row z pair, c.in_default.ensures p ready.order first second adjacent)

pub loop-b-preserved : goal.loop-b-preserved
loop-b-preserved g c = elim c.if-are_adjacent.branch [
  | then-are_adjacent+in-Some w ↦ simp (w.spare-is, w.room-is) (λ p A ready first grown.
      let rows = g.L.Ledger.rows c.args.current.now in
      let a = c.args.a.now in
      let b = c.b-item.result in
      let second = told_here p rows c.args.survey.now c.loop-b.b-index b ready.surveyed c.loop-b-test.true c.b-item.is in
      let turn : b.row ≡ c.loop-b.b-index = row_here p rows c.args.survey.now c.loop-b.b-index b ready.surveyed c.loop-b-test.true c.b-item.is in
      let adjacent : Adjacent p rows a.row b.row = (c.are_adjacent.ensures p rows ready.surveyed first second).0 w.if-are_adjacent.true in
      let x = w.in-Some.held.row.counts in
      let pair : Pair p rows a.row b.row x = record { first = first.inside; second = second.inside; adjacent = adjacent; is = w.in-Some.ensures p ready.order first second adjacent } in
      let before = subst (λ i. Grown g.L.Ledger (SoFar p rows a.row i) c.loop-b.spare c.loop-b.room) (sym turn) (c.loop-b.invariant p A ready first grown) in
      let new : Mem x before.made → ⊥ = λ m. pair_once A rows ready.cover ready.ascending p a.row b.row x pair ((before.exactly x).0 m) in
      subst (λ i. Grown g.L.Ledger (SoFar p rows a.row (i + 1)) w.add-room.new.spare w.add-room.result) turn
      (grown_more g.L.Ledger (SoFar p rows a.row b.row) (SoFar p rows a.row (b.row + 1)) _ _ before x _ _ (w.add-room.ensures.order before.order) w.in-Some.held.small (next_more p rows a.row b.row x pair)
      (w.add-room.ensures.filled before.made before.order before.ascending new before.filled)))
  | else-are_adjacent w ↦ simp (w.spare-is, w.room-is) (λ p A ready first grown.
      let rows = g.L.Ledger.rows c.args.current.now in
      let a = c.args.a.now in
      let b = c.b-item.result in
      let second = told_here p rows c.args.survey.now c.loop-b.b-index b ready.surveyed c.loop-b-test.true c.b-item.is in
      let turn : b.row ≡ c.loop-b.b-index = row_here p rows c.args.survey.now c.loop-b.b-index b ready.surveyed c.loop-b-test.true c.b-item.is in
      let none = λ (q : Adjacent p rows a.row b.row). both_ways _ w.if-are_adjacent.false ((c.are_adjacent.ensures p rows ready.surveyed first second).1 q) in
      subst (λ i. Grown g.L.Ledger (SoFar p rows a.row (i + 1)) c.loop-b.spare c.loop-b.room) turn
      (grown_same g.L.Ledger (SoFar p rows a.row b.row) (SoFar p rows a.row (b.row + 1)) _ _
      (subst (λ i. Grown g.L.Ledger (SoFar p rows a.row i) c.loop-b.spare c.loop-b.room) (sym turn) (c.loop-b.invariant p A ready first grown)) (next_same p rows a.row b.row none)))
]

pub returns : goal.returns
returns g c p A ready first grown =
    let rows = g.L.Ledger.rows c.args.current.now in
    let b = c.loop-b.b-index in
    let a = c.args.a.now.row in
    let all : b ≡ length rows = let many = ready.surveyed.many in let l = c.loop-b-test.false in let q = c.loop-b.auto.b-index-end in omega (arith, many, l, q) in
    grown_same g.L.Ledger (SoFar p rows a b) (SoFar p rows (a + 1) 0) _ _ (c.loop-b.invariant p A ready first grown) (pairs_done p rows a b all)
