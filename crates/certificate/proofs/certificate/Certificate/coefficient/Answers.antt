use Rattle.std.proofs.Common.{◌≡◌, nat_eq, find, rules, tests}
use Rattle.std.specs.Option.{option_map}
use Rattle.std.proofs.lemmas.Iterator.{YieldsList-from_slice}
use Rattle.std.proofs.lemmas.Iterator.Search.{find_from_yields_List}
use Rattle.certificate.proofs.Tests.{found, found_is_share}
use Rattle.certificate.proofs.certificate.Certificate.coefficient.Goals as goal

pub returns : goal.returns
returns c =
    let told : c.map_or.result ≡ found (option_map (λ x. x.now) c.find.result) = search rules in
    let first : option_map (λ x. x.now) c.find.result ≡ find (λ s. nat_eq s.row c.args.row) c.as_slice-shares.result.now =
    find_from_yields_List (λ s. nat_eq s.row c.args.row) _ _ c.find.result c.find.ensures.ran (YieldsList-from_slice c.as_slice-shares.result.now cc) (λ x b q k. search (rules, tests)) in
    let share = found_is_share c.as_slice-shares.result.now c.args.row in
    cc
