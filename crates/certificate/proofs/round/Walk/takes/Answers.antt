use Rattle.std.proofs.Common.{◌≤◌, length, ◌∙◌, rules, tests}
use Rattle.std.proofs.lemmas.Iterator.{YieldsList-from_slice, YieldsList-from_zip}
use Rattle.std.proofs.lemmas.Iterator.Search.{all_from_yields_List}
use Rattle.certificate.proofs.Tests.{covers, all_is_within}
use Rattle.certificate.proofs.round.Walk.takes.Goals as goal

pub returns : goal.returns
returns c =
    let wide : length c.args.row.now.counts ≤ length c.args.self.now.rest.counts = search rules in
    all_from_yields_List covers c.all.new.self _ c.all.result c.all.ensures.ran
    (YieldsList-from_zip (YieldsList-from_slice {s = c.zip.result.a} c.args.row.now.counts cc) (YieldsList-from_slice {s = c.zip.result.b} c.args.self.now.rest.counts cc))
    (λ x b q k. search (rules, tests))
    ∙ all_is_within c.args.row.now.counts c.args.self.now.rest.counts wide
