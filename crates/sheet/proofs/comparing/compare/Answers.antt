use Rattle.std.proofs.Common.{◌≡◌, refl, sym, ◌∙◌}
use Rattle.std.proofs.lemmas.Bool.{false≢true}
use Rattle.sheet.specs.declared.comparing.Comparison.TheVariants.{Same, Different}
use Rattle.sheet.specs.Sheets.{Compared}
use Rattle.sheet.proofs.Held.{rows_told}
use Rattle.sheet.proofs.Histories.{two_runs, differ}
use Rattle.sheet.proofs.Orders.{both_in_order}
use Rattle.sheet.proofs.comparing.compare.Goals.{else-get-via-then-get+else-same_rows, else-get-via-else-get}
use Rattle.sheet.proofs.comparing.compare.Goals as goal

pub returns-then-same_rows : goal.returns-then-same_rows
returns-then-same_rows g c =
    let a = c.args.a.now in
    let b = c.args.b.now in
    let steps : a.steps.n ≡ b.steps.n = sym c.get.ensures ∙ c.if-get.true ∙ c.get-2.ensures in
    let rows = (rows_told a b c.same_rows.result c.same_rows.ensures).0 c.if-same_rows.true in
    let right : Compared a b Same = (λ _. (steps, rows), λ _. refl) in
    record { compared = right; promise = λ m n x h ca cb. two_runs m x a n h b Same right ca cb; order = both_in_order a b }

pub returns-else-get : goal.returns-else-get
returns-else-get g c =
    let a = c.args.a.now in
    let b = c.args.b.now in
    let right : Compared a b Different = differ a b (elim c.else-get.branch [
      | else-get-via-then-get+else-same_rows w ↦ λ e. false≢true (sym w.if-same_rows.false ∙ (rows_told a b w.same_rows.result w.same_rows.ensures).1 e.1)
      | else-get-via-else-get w ↦ λ e. w.if-get.false (c.get.ensures ∙ e.0 ∙ sym c.get-2.ensures)
    ]) in
    record { compared = right; promise = λ m n x h ca cb. two_runs m x a n h b Different right ca cb; order = both_in_order a b }
