use Rattle.std.proofs.Common.{◌≡◌, ◌<◌, length, vec_items, vec_len, vec_capacity, arith, rules}
use Rattle.ledger.specs.Rows.{Small}
use Rattle.ledger.proofs.Insertions.{made_when, kept_after, sum_by_one}
use Rattle.ledger.proofs.ruled.RuledLedgerLedger.insert.Goals as goal

pub returns-then-len : goal.returns-then-len
returns-then-len c = let n = sum_by_one (vec_items c.args.self.now.kept) in search rules

pub returns : goal.returns
returns c =
    let rows = vec_items c.args.self.now.kept in
    let n = sum_by_one rows in
    let wide : length c.args.row.now.counts ≡ 24 = search rules in
    let small : Small c.args.row.now.counts = search rules in
    let room : vec_len c.args.self.now.kept < vec_capacity c.args.self.now.kept = search rules in
    let is = made_when _ _ _ _ c.insert.ensures.items (c.insert.ensures.succeeds room) in
    record {
      answer = search rules;
      order = λ o. kept_after (λ _. 1) 128 rows _ _ _ is o wide small (omega arith);
    }
