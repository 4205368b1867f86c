use Rattle.std.proofs.Common.{Ok, IfOk, sym, ◌∙◌, subst}
use Rattle.sheet.specs.Order.{Ordered}
use Rattle.sheet.proofs.Orders.{rows_ordered}
use Rattle.netfile.specs.Files.{FirstFault}
use Rattle.netfile.specs.Reading.{NextLine, NextPlace, Located}
use Rattle.netfile.proofs.Passed.{at_fault, mapped, unmapped}
use Rattle.netfile.proofs.Files.{upto_start, line_fault}
use Rattle.netfile.proofs.Nets.{first_refused, net_first, place_refused, net_next, net_end}
use Rattle.netfile.proofs.Runs.{no_line}
use Rattle.netfile.proofs.net.read_net.Goals as goal

pub returns-in_err-first-clause-read : goal.returns-in_err-first-clause-read
returns-in_err-first-clause-read g c s b = at_fault _ _ _ c.from_residual.ensures.1 (line_fault g.L.Ledger (upto_start g.L.Ledger s _ b) c.in_err-first.field-0.0 c.in_err-first.ensures)

pub returns-in_default-clause-read : goal.returns-in_default-clause-read
returns-in_default-clause-read g c s b =
    let none = subst (λ o. NextLine c.args.reader.now (Ok o) c.next_line.new.self) c.in_default.is c.in_ok-first.ensures in
    subst (FirstFault g.L.Ledger s) (sym c.of_line.ensures) (no_line g.L.Ledger s (sym b.rest_is ∙ none.0))

pub returns-in_err-sheet-clause-read : goal.returns-in_err-sheet-clause-read
returns-in_err-sheet-clause-read g c s b =
    let t = c.next_line.new.self in
    let l = c.in-Some.first in
    let a = subst (λ o. NextLine c.args.reader.now (Ok o) t) c.in-Some.is c.in_ok-first.ensures in
    let p = mapped (Located l t.lines) _ c.locate.ensures c.in_err-sheet.was in
    at_fault _ _ _ c.from_residual-in_err-sheet.ensures.1 (first_refused g.L.Ledger b l t a c.open_line.result c.open_line.ensures.said p.0 p.1 _ p.2)

pub loop-sheet-init : goal.loop-sheet-init
loop-sheet-init g c =
    let t = c.next_line.new.self in
    let made = unmapped _ _ c.locate.ensures c.in_ok-sheet.was in (
      λ s b.
          let a = subst (λ o. NextLine c.args.reader.now (Ok o) t) c.in-Some.is c.in_ok-first.ensures in
          net_first g.L.Ledger b c.in-Some.first t a c.open_line.result c.open_line.ensures.said c.in_ok-sheet.sheet made,
      subst (λ r. IfOk r (λ sheet. Ordered sheet)) made c.open_line.ensures.order,
    )

pub returns-in_err-line-clause-read : goal.returns-in_err-line-clause-read
returns-in_err-line-clause-read g c s b = at_fault _ _ _ c.from_residual-in_err-line.ensures.1 (line_fault g.L.Ledger (c.loop-sheet.invariant.0 s b).upto c.in_err-line.field-0.0 c.in_err-line.ensures)

pub loop-sheet-preserved : goal.loop-sheet-preserved
loop-sheet-preserved g c = (
  λ s b.
      let t = c.next_place.new.self in
      let here = subst (λ o. NextPlace c.loop-sheet.reader (Ok o) t) c.in-Some-2.is c.in_ok-line.ensures in
      net_next g.L.Ledger (c.loop-sheet.invariant.0 s b) c.in-Some-2.line t here c.offer_line.new.sheet c.offer_line.result c.offer_line.ensures.said (unmapped _ _ c.locate-in-Some-2.ensures c.in_ok-locate.was),
  c.offer_line.ensures.order c.loop-sheet.invariant.1,
)

pub returns-in_err-locate-clause-read : goal.returns-in_err-locate-clause-read
returns-in_err-locate-clause-read g c s b =
    let t = c.next_place.new.self in
    let l = c.in-Some-2.line in
    let here = subst (λ o. NextPlace c.loop-sheet.reader (Ok o) t) c.in-Some-2.is c.in_ok-line.ensures in
    let p = mapped (Located l t.lines) _ c.locate-in-Some-2.ensures c.in_err-locate.was in
    at_fault _ _ _ c.from_residual-in_err-locate.ensures.1 (place_refused g.L.Ledger (c.loop-sheet.invariant.0 s b) l t here c.offer_line.new.sheet c.offer_line.result c.offer_line.ensures.said p.0 p.1 _ p.2)

pub returns-clause-read : goal.returns-clause-read
returns-clause-read g c s b = net_end g.L.Ledger (c.loop-sheet.invariant.0 s b) _ (subst (λ o. NextPlace c.loop-sheet.reader (Ok o) c.next_place.new.self) c.in_default-2.is c.in_ok-line.ensures) c.close.result c.close.ensures.closed

pub returns-clause-order : goal.returns-clause-order
returns-clause-order g c = rows_ordered _ _ c.close.ensures.closed c.loop-sheet.invariant.1
