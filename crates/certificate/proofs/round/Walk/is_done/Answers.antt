use Rattle.std.proofs.Common.{nat_eq, ◌∙◌, rules, tests}
use Rattle.std.proofs.lemmas.Iterator.{YieldsList-from_slice}
use Rattle.std.proofs.lemmas.Iterator.Search.{all_from_yields_List}
use Rattle.certificate.proofs.Tests.{all_is_every}
use Rattle.certificate.proofs.round.Walk.is_done.Goals as goal

pub returns : goal.returns
returns c =
    all_from_yields_List (λ n. nat_eq n 0) _ _ _ c.all.ensures.ran (YieldsList-from_slice c.args.self.now.rest.counts cc) (λ x b q k. search (rules, tests))
    ∙ all_is_every (λ n. nat_eq n 0) c.args.self.now.rest.counts
