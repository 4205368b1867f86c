use Rattle.std.proofs.Common.{◌≡◌, [], ◌∷◌, length, sym, ap, ◌∙◌, subst, arith, length-append}
use Rattle.inline_list.specs.Items.{items}
use Rattle.method.specs.Places.{effects_of}
use Rattle.method.proofs.Surveying.{Front, front_more, pushed_there}
use Rattle.method.proofs.survey.survey_of.Goals as goal

pub loop-k-preserved : goal.loop-k-preserved
loop-k-preserved g c =
    let s = items c.loop-k.survey in
    let r = c.reading_of.result in
    let many : length s ≡ c.loop-k.k = c.loop-k.invariant.0 in
    let few = c.row_count-k-end.ensures.few in
    let lt = c.loop-k-test.true in
    let now = pushed_there s (items c.push.new.self) r c.push.result (omega (arith, many, few, lt)) c.push.ensures in (
      ap length now ∙ omega (arith, many, length-append s (r ∷ [])),
      λ o. subst (Front (effects_of c.args.place.now) (g.L.Ledger.rows c.args.rows.now)) (sym now)
          (front_more (effects_of c.args.place.now) (g.L.Ledger.rows c.args.rows.now) s r (c.loop-k.invariant.1 o) (c.reading_of.ensures.row ∙ sym many)
          (c.reading_of.ensures.told o (let is = c.row_count-k-end.ensures.is o in omega (arith, is, lt)))),
    )
