use Rattle.std.proofs.Common.{List, ◌∷◌, [], ◌++◌, ℤ, ap, sym, refl, ◌∙◌, subst}
use Rattle.std.proofs.lemmas.Result.{err_from_is_err_and}
use Rattle.inline_list.proofs.Pushing.{pushed_with_room}
use Rattle.sheet.specs.Sheets.{places_of}
use Rattle.sheet.proofs.Causes.{done_not_refused}
use Rattle.sheet.proofs.Held.{made, made_order, made_rows}
use Rattle.sheet.proofs.Offers.{effects_pushed, told_answer, holds_more, refused_so}
use Rattle.sheet.proofs.sheets.OpenSheet.offer.Goals as goal

pub invariant_of-self : goal.invariant_of-self
invariant_of-self g c =
    let s = c.args.self.now in
    record { held = s.held; spare_order = made_order s _ _ _ c.in_err-next_rows.ensures; spare_empty = made_rows s _ _ _ c.in_err-next_rows.ensures }

pub returns-in_err-next_rows-clause-offered : goal.returns-in_err-next_rows-clause-offered
returns-in_err-next_rows-clause-offered g c =
    let s = c.args.self.now in
    let r = err_from_is_err_and c.from_residual-in_err-next_rows.result c.from_residual-in_err-next_rows.ensures.1 in
    rw (r.1, r.2) (refused_so s _ c.args.effects.now _ refl refl refl
    (told_answer s c.args.effects.now (c.if-effects-get.false ∙ c.get.ensures) c.in_ok-place.ensures.1 c.in_ok-check_room.ensures c.in_ok-place.place c.in_ok-place.ensures.2 _ _ c.in_err-next_rows.ensures))

pub returns-in_err-next_rows-clause-order : goal.returns-in_err-next_rows-clause-order
returns-in_err-next_rows-clause-order g c was = (was.0, (made c.args.self.now _ _ _ c.in_err-next_rows.ensures was.0 was.1).order)

pub invariant_of-self-2 : goal.invariant_of-self-2
invariant_of-self-2 g c = record {
  held = holds_more c.args.self.now c.args.effects.now (c.if-effects-get.false ∙ c.get.ensures) c.in_ok-place.place c.in_ok-place.ensures.2 _ _ c.in_ok-next_rows.ensures c.swap.ensures.x_after c.push.new.self (pushed_with_room 32 _ _ c.push.result _ c.in_ok-check_room.ensures c.push.ensures);
  spare_order = ∣ c.clear.ensures.order ∣₁;
  spare_empty = c.clear.ensures.empty;
}

pub returns-clause-offered : goal.returns-clause-offered
returns-clause-offered g c =
    let s = c.args.self.now in
    record {
      steps = refl;
      answered = sym (told_answer s c.args.effects.now (c.if-effects-get.false ∙ c.get.ensures) c.in_ok-place.ensures.1 c.in_ok-check_room.ensures c.in_ok-place.place c.in_ok-place.ensures.2 _ _ c.in_ok-next_rows.ensures);
      places = effects_pushed s.places c.push.new.self c.in_ok-place.place (pushed_with_room 32 _ _ c.push.result _ c.in_ok-check_room.ensures c.push.ensures) ∙ ap (λ (q : List ℤ). places_of s ++ q ∷ []) c.in_ok-place.ensures.2;
      refused = λ fault e. absurd (done_not_refused fault e);
    }

pub returns-clause-order : goal.returns-clause-order
returns-clause-order g c was =
    let s = c.args.self.now in
    let new = (made s _ _ _ c.in_ok-next_rows.ensures was.0 was.1).order in
    (subst (λ l. g.L.Ledger.orderly l) (sym c.swap.ensures.x_after) new, c.clear.ensures.order)
