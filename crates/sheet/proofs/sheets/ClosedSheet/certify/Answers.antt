use Rattle.std.proofs.lemmas.Result.{err_from_is_err_and}
use Rattle.sheet.proofs.Certifying.{certifying_refused, certifying_broken, certifying_none, certifying_some}
use Rattle.sheet.proofs.sheets.ClosedSheet.certify.Goals as goal

pub returns-in_err-counts : goal.returns-in_err-counts
returns-in_err-counts g c =
    let p = err_from_is_err_and c.from_residual.result c.from_residual.ensures.1 in
    rw (p.1, p.2) (certifying_refused c.args.self.now _ _ _ _ c.get.ensures c.len-count.ensures _ c.in_err-counts.ensures)

pub returns-in-Some : goal.returns-in-Some
returns-in-Some g c =
    certifying_broken c.args.self.now _ _ _ _ c.get.ensures c.len-count.ensures c.in_ok-counts.ensures.0 _ c.in_ok-counts.ensures.1 _ c.as_slice.ensures.value _ c.in-Some.ensures

pub returns-in_default-walk : goal.returns-in_default-walk
returns-in_default-walk g c =
    certifying_none c.args.self.now _ _ _ _ c.get.ensures c.len-count.ensures c.in_ok-counts.ensures.0 _ c.in_ok-counts.ensures.1 _ c.as_slice.ensures.value c.in_default.ensures c.in_default-walk.ensures

pub returns : goal.returns
returns g c =
    certifying_some c.args.self.now _ _ _ _ c.get.ensures c.len-count.ensures c.in_ok-counts.ensures.0 _ c.in_ok-counts.ensures.1 _ c.as_slice.ensures.value c.in_default.ensures
    c.in-Some-walk.certificate _ c.multiplier.ensures _ c.in-Some-walk.ensures c.write_coefficients.ensures
