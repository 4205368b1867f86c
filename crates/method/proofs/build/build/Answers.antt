use Rattle.std.proofs.Common.{◌≡◌, length, sym, subst, arith}
use Rattle.std.proofs.lemmas.Result.{err_from_is_err_and}
use Rattle.method.specs.Places.{effects_of}
use Rattle.method.specs.Surveys.{Surveyed}
use Rattle.method.specs.Building.{Ready}
use Rattle.method.proofs.Ending.{ended_full, ended_ok}
use Rattle.method.proofs.build.build.Goals as goal

-- there is no room
pub returns-in_err-room-2 : goal.returns-in_err-room-2
returns-in_err-room-2 g c =
    let r = err_from_is_err_and c.from_residual-in_err-room-2.result c.from_residual-in_err-room-2.ensures.1 in
    rw (r.1, r.2) (λ A oc cover asc os empty.
    let rows = g.L.Ledger.rows c.args.current.now in
    let p = effects_of c.args.place.now in
    let surveyed = subst (Surveyed p rows) (sym c.as_slice-readings.ensures.value) (c.survey_of.ensures oc) in
    let ready : Ready g.L.Ledger p A c.args.current.now c.as_slice-readings.result.now = record { order = oc; cover = cover; ascending = asc; surveyed = surveyed } in
    let all : c.loop-a.a-index ≡ length rows = let many = surveyed.many in let l = c.loop-a-test.false in let k = c.loop-a.auto.a-index-end in omega (arith, many, l, k) in
    ended_full g.L.Ledger A rows cover asc p c.loop-a.a-index all c.loop-a.spare c.loop-a.room
    (c.loop-a.invariant A ready (c.add_balanced-room.ensures p A ready os empty)) _ c.in_err-room-2.was)

pub returns : goal.returns
returns g c A oc cover asc os empty =
    let rows = g.L.Ledger.rows c.args.current.now in
    let p = effects_of c.args.place.now in
    let surveyed = subst (Surveyed p rows) (sym c.as_slice-readings.ensures.value) (c.survey_of.ensures oc) in
    let ready : Ready g.L.Ledger p A c.args.current.now c.as_slice-readings.result.now = record { order = oc; cover = cover; ascending = asc; surveyed = surveyed } in
    let all : c.loop-a.a-index ≡ length rows = let many = surveyed.many in let l = c.loop-a-test.false in let k = c.loop-a.auto.a-index-end in omega (arith, many, l, k) in
    ended_ok g.L.Ledger A rows cover asc p c.loop-a.a-index all c.loop-a.spare c.loop-a.room
    (c.loop-a.invariant A ready (c.add_balanced-room.ensures p A ready os empty)) c.in_ok-room-2.was
