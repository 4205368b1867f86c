use Rattle.std.proofs.Common.{◌≡◌, None, sym, refl, rules, subst}
use Rattle.netfile.specs.declared.fault.FileFault.{FileFault}
use Rattle.netfile.specs.declared.fault.RunFault.{RunFault}
use Rattle.netfile.specs.Reading.{FileRead}
use Rattle.netfile.specs.Runs.{Ran}
use Rattle.netfile.proofs.Passed.{passed, Mapped, mapped_as}
use Rattle.netfile.proofs.Runs.{faulty, ran_so}
use Rattle.netfile.proofs.OneAnswer.{only_run}
use Rattle.netfile.proofs.running.run.Goals as goal

pub returns-in_err-sheet-clause-only : goal.returns-in_err-sheet-clause-only
returns-in_err-sheet-clause-only g c =
    let k = g.L.Ledger in
    let s = c.args.file.now in
    let was = c.args.out.now in
    only_run k s was c.from_residual.result was refl (passed (λ r. Ran k s was r was) c.from_residual.ensures.1 (faulty k s was _ c.in_err-sheet.ensures.read, refl))

pub returns : goal.returns
returns g c =
    let k = g.L.Ledger in
    let s = c.args.file.now in
    let was = c.args.out.now in
    let is = c.print.new.out in
    let sheet = c.in_ok-sheet.sheet in
    let whole = c.in_ok-sheet.ensures.read in
    let read : FileRead k s sheet c.as_slice.result.now = subst (FileRead k s sheet) (sym c.as_slice.ensures.value) whole.1 in
    let Of : FileFault → RunFault → Type 0 = λ e f. f ≡ record { fault = e; at = None } in
    let told : Mapped Of c.print.result c.map_err.result = mapped_as Of _ _ _ (λ e d h. search rules) c.map_err.ensures.cases in
    let ran : Ran k s was c.map_err.result is = ran_so k s sheet c.as_slice.result.now read was is c.print.result c.map_err.result whole.0 c.print.ensures told in
    record { ran = ran; only = only_run k s was c.map_err.result is c.print.auto.out ran }
