use Rattle.std.proofs.Common.{ℤ, ap, w32, SFits, rules}
use Rattle.std.proofs.lemmas.Int.{to_z-of_z}
use Rattle.grammar.specs.declared.line.Field.{Field}
use Rattle.grammar.proofs.Fields.{next_so, number_breaks, rest_breaks, ends_so}
use Rattle.grammar.proofs.read_fields.Goals as goal

pub returns-in_err-another : goal.returns-in_err-another
returns-in_err-another c =
    let breaks = rest_breaks c.another.new.self.rest.now _ c.loop-reader.invariant c.in_err-another.ensures.told in
    search rules

pub returns-in_err-number : goal.returns-in_err-number
returns-in_err-number c =
    let breaks = number_breaks _ _ _ _ c.number.new.self.rest.now c.loop-reader.invariant c.in_ok-another.ensures.told c.if-branch.true c.in_ok-another.ensures.column c.in_err-number.ensures.read in
    search rules

pub loop-reader-preserved : goal.loop-reader-preserved
loop-reader-preserved c =
    let z = c.in_ok-number.field-0 in
    let fits : SFits w32 z = search rules in
    let kept : ℤ → Field = λ v. record { line = c.args.number; column = c.another.new.self.column; value = v } in
    next_so _ _ _ _ _ _ _ _ _ c.loop-reader.invariant c.in_ok-another.ensures.told c.if-branch.true c.in_ok-another.ensures.column c.in_ok-number.ensures.read c.in_ok-number.ensures.column (ap kept (to_z-of_z w32 z fits)) c.push.ensures

pub returns : goal.returns
returns c = ends_so c.loop-reader.fields _ _ _ c.loop-reader.invariant c.in_ok-another.ensures.told c.if-branch.false c.in_ok-another.ensures.column
