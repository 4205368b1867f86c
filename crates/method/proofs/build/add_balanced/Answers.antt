use Rattle.std.proofs.Common.{◌≡◌, ◌+◌, ◌<◌, length, pos, sym, ap, ◌∙◌, subst, arith}
use Rattle.cycle_theory.specs.Nets.{Mem, sum}
use Rattle.method.specs.Ascents.{row_at}
use Rattle.method.specs.Building.{SoFar, Even}
use Rattle.method.proofs.Surveying.{told_here, row_here}
use Rattle.method.proofs.Filling.{grown_same, grown_more}
use Rattle.method.proofs.Growing.{even_same, even_more, even_new, even_done}
use Rattle.method.proofs.Signs.{balanced, unbalanced}
use Rattle.method.proofs.build.add_balanced.Goals as goal
use Rattle.method.proofs.build.add_balanced.Goals.{then-reading-eq0, else-reading-eq0}

pub loop-reading-preserved : goal.loop-reading-preserved
loop-reading-preserved g c = elim c.if-reading-eq0.branch [
  | then-reading-eq0 w ↦ simp (w.spare-is, w.room-is) (λ p A ready order empty.
      let rows = g.L.Ledger.rows c.args.current.now in
      let k = c.loop-reading.reading-index in
      let r = c.reading-item.result in
      let told = told_here p rows c.args.survey.now k r ready.surveyed c.loop-reading-test.true c.reading-item.is in
      let turn : r.row ≡ k = row_here p rows c.args.survey.now k r ready.surveyed c.loop-reading-test.true c.reading-item.is in
      let here : k < length rows = subst (λ i. i < length rows) turn told.inside in
      let x = w.row_at.result.row.counts in
      let is : x ≡ row_at rows k = w.row_at.ensures ready.order told.inside ∙ ap (row_at rows) turn in
      let zero : sum p (row_at rows k) ≡ pos 0 = ap (λ i. sum p (row_at rows i)) (sym turn) ∙ sym told.sum_is ∙ balanced _ r.bounded w.if-reading-eq0.true in
      let grown = c.loop-reading.invariant p A ready order empty in
      let new : Mem x grown.made → ⊥ = λ m. even_new p rows k here x is ready.ascending ((grown.exactly x).0 m) in
      grown_more g.L.Ledger (Even p rows k) (Even p rows (k + 1)) _ _ grown x _ _ (w.add-room.ensures.order grown.order) w.row_at.result.small (even_more p rows k here x is zero)
      (w.add-room.ensures.filled grown.made grown.order grown.ascending new grown.filled))
  | else-reading-eq0 w ↦ simp (w.spare-is, w.room-is) (λ p A ready order empty.
      let rows = g.L.Ledger.rows c.args.current.now in
      let k = c.loop-reading.reading-index in
      let r = c.reading-item.result in
      let told = told_here p rows c.args.survey.now k r ready.surveyed c.loop-reading-test.true c.reading-item.is in
      let turn : r.row ≡ k = row_here p rows c.args.survey.now k r ready.surveyed c.loop-reading-test.true c.reading-item.is in
      grown_same g.L.Ledger (Even p rows k) (Even p rows (k + 1)) _ _ (c.loop-reading.invariant p A ready order empty)
      (even_same p rows k (λ e. unbalanced _ r.bounded w.if-reading-eq0.false (told.sum_is ∙ ap (λ i. sum p (row_at rows i)) turn ∙ e))))
]

pub returns : goal.returns
returns g c p A ready order empty =
    let rows = g.L.Ledger.rows c.args.current.now in
    let k = c.loop-reading.reading-index in
    let all : k ≡ length rows = let many = ready.surveyed.many in let l = c.loop-reading-test.false in let q = c.loop-reading.auto.reading-index-end in omega (arith, many, l, q) in
    grown_same g.L.Ledger (Even p rows k) (SoFar p rows 0 0) _ _ (c.loop-reading.invariant p A ready order empty) (even_done p rows k all)
