use Rattle.std.proofs.Common.{◌+◌, ◌<◌, ◌≤◌, ◌++◌, take, drop, vec_items, vec_len, vec_capacity, sum_by, ap, ◌∙◌, arith, rules}
use lib.ListN.{length-map}
use Rattle.std.specs.List.{insert}
use Rattle.ledger.specs.Rows.{Small, entry_charge}
use Rattle.ledger.specs.Packed.{pair, pairs, unpacked, packed, Exact}
use Rattle.ledger.proofs.Insertions.{made_when}
use Rattle.ledger.proofs.Packing.{length_packed}
use Rattle.ledger.proofs.Unpacking.{length_unpacked, charges_are}
use Rattle.ledger.proofs.Entering.{Entered, sum_entered, length_entered, rows_entered, exact_entered}
use Rattle.ledger.proofs.entries.EntryLedgerLedger.insert.Goals as goal
use Rattle.ledger.proofs.entries.EntryLedgerLedger.insert.Goals.{After-insert}

pub returns-then-len-size-clause-answer : goal.returns-then-len-size-clause-answer
returns-then-len-size-clause-answer c = λ o.
    let sizes = vec_items c.args.self.now.sizes in
    let ps = pairs (vec_items c.args.self.now.entries) in
    let n = length_unpacked sizes ps in
    let e = charges_are sizes ps o in
    search rules

pub pack-requires-clause-room : goal.pack-requires-clause-room
pack-requires-clause-room c = let p = length_packed c.args.row.now.counts c.nonzeros-size.ensures.wide in search rules

-- there is room for one size more
room : (c : goal.After-insert) → vec_len c.args.self.now.sizes < vec_capacity c.args.self.now.sizes
room c =
    let a = c.len-2.ensures in
    let t = c.if-len-size.false in
    let r = c.args.self.now.rows_room in
    omega (arith, a, t, r)

-- the row's entries and their number went in at their place
entered :
    (c : goal.After-insert)
    → Entered (vec_items c.args.self.now.sizes) (pairs (vec_items c.args.self.now.entries)) c.in_ok-i.i c.args.row.now.counts (vec_items c.insert.new.self) (pairs (vec_items c.pack.new.entries))
entered c =
    let sizes = vec_items c.args.self.now.sizes in
    let ps = pairs (vec_items c.args.self.now.entries) in
    let i = c.in_ok-i.i in
    let l = c.args.self.now.entries.ok.0 in
    let m = length-map (vec_items c.args.self.now.entries) pair in
    let s = c.args.self.now.sized in
    record {
      sized = omega (arith, l, m, s);
      inside = search rules;
      wide = c.nonzeros-size.ensures.wide;
      sizes =
          made_when _ _ _ _ c.insert.ensures.items (c.insert.ensures.succeeds (room c))
          ∙ ap (insert sizes i) c.nonzeros-size.ensures.value;
      spliced = c.pack.ensures.items ∙ ap (λ at. take at ps ++ (packed c.args.row.now.counts 24 ++ drop at ps)) c.start-at.ensures.begins;
    }

pub invariant_of-self : goal.invariant_of-self
invariant_of-self c =
    let old = c.args.self.now in
    let sums = sum_entered (entered c) in
    let lengths = length_entered (entered c) in
    let l = c.pack.new.entries.ok.0 in
    let l₀ = old.entries.ok.0 in
    let m = length-map (vec_items c.pack.new.entries) pair in
    let m₀ = length-map (vec_items old.entries) pair in
    let s = old.sized in
    let n = made_when _ _ _ _ c.insert.ensures.len (c.insert.ensures.succeeds (room c)) in
    let v = c.nonzeros-size.ensures.value in
    let a = c.len-2.ensures in
    let b = c.len-3.ensures in
    let t = c.if-len-size.false in
    let rows = c.insert.ensures.capacity in
    let entries = c.pack.ensures.capacity in
    record {
      sized = omega (arith, sums, lengths, l, l₀, m, m₀, s);
      few = omega (arith, n, lengths, l, l₀, m, m₀, v, a, b, t);
      rows_room = omega (arith, rows, old.rows_room);
      entries_room = omega (arith, entries, old.entries_room);
    }

pub returns : goal.returns
returns c =
    let e = entered (goal.at.returns c).After-insert in
    let sizes = vec_items c.args.self.now.sizes in
    let ps = pairs (vec_items c.args.self.now.entries) in
    let n = length_unpacked sizes ps in
    let rows = rows_entered e in
    let small : Small c.args.row.now.counts = search rules in
    let fits : Exact sizes ps → sum_by entry_charge (unpacked sizes ps) + entry_charge c.args.row.now.counts ≤ 1024 = λ o. (let all = charges_are sizes ps o in search rules) in
    record { answer = λ o. (let f = fits o in search rules); order = λ o. exact_entered e o small (fits o) }
