use Rattle.std.proofs.Common.{Ok, sym, subst}
use Rattle.netfile.specs.Reading.{NextLine, Located}
use Rattle.netfile.proofs.Passed.{at_fault, mapped, unmapped}
use Rattle.netfile.proofs.Files.{line_fault}
use Rattle.netfile.proofs.Answering.{Asking, room_for, question_refused, asking_next, asking_end, pushed}
use Rattle.netfile.proofs.questions.read_questions.Goals as goal

pub returns-in_err-line : goal.returns-in_err-line
returns-in_err-line g c s net = at_fault _ _ _ c.from_residual.ensures.1 (line_fault g.L.Ledger (c.loop-line.invariant s net).upto c.in_err-line.field-0.0 c.in_err-line.ensures)

pub returns-in_err-judged : goal.returns-in_err-judged
returns-in_err-judged g c s net =
    let t = c.next_line.new.self in
    let l = c.in-Some.line in
    let a = subst (λ o. NextLine c.loop-line.reader (Ok o) t) c.in-Some.is c.in_ok-line.ensures in
    let p = mapped (Located l t.lines) _ c.locate.ensures c.in_err-judged.was in
    at_fault _ _ _ c.from_residual-in_err-judged.ensures.1 (question_refused g.L.Ledger (c.loop-line.invariant s net) l t a c.ask_line.result c.ask_line.ensures p.0 p.1 _ p.2)

pub unwrap-requires : goal.unwrap-requires
unwrap-requires g c =
    let a = subst (λ o. NextLine c.loop-line.reader (Ok o) c.next_line.new.self) c.in-Some.is c.in_ok-line.ensures in
    let room = room_for g.L.Ledger (c.loop-line.invariant c.requires.net.0 c.requires.net.1) c.in-Some.line a.comes in
    (pushed 16 _ _ c.push.result _ room c.push.ensures).0

pub loop-line-preserved : goal.loop-line-preserved
loop-line-preserved g c s net =
    let t = c.next_line.new.self in
    let l = c.in-Some.line in
    let a = subst (λ o. NextLine c.loop-line.reader (Ok o) t) c.in-Some.is c.in_ok-line.ensures in
    let asking = c.loop-line.invariant s net in
    let room = room_for g.L.Ledger asking l a.comes in
    subst (Asking g.L.Ledger s t c.args.sheet.now) (sym (pushed 16 _ _ c.push.result _ room c.push.ensures).1)
    (asking_next g.L.Ledger asking l t a c.ask_line.result c.ask_line.ensures c.in_ok-judged.judged (unmapped _ _ c.locate.ensures c.in_ok-judged.was))

pub returns : goal.returns
returns g c s net =
    let none = subst (λ o. NextLine c.loop-line.reader (Ok o) c.next_line.new.self) c.in_default.is c.in_ok-line.ensures in
    asking_end g.L.Ledger (c.loop-line.invariant s net) none.0
