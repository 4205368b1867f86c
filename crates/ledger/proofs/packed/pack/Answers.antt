use Rattle.std.proofs.Common.{◌≡◌, ℕ, ◌+◌, ◌≤◌, Bool, true, cond, List, ◌++◌, length, take, drop, vec_items, vec_capacity, sym, ap, ◌∙◌, arith, take-append-drop}
use lib.ListN.{length-map}
use Rattle.std.specs.List.{insert}
use Rattle.ledger.specs.declared.entry.Entry.{Entry}
use Rattle.ledger.specs.Packed.{pair, pairs, packed}
use Rattle.ledger.proofs.Insertions.{made_when}
use Rattle.ledger.proofs.Packing.{packed_none, packed_zero, packed_within, length_packed_used, length_spliced, spliced_used, map_inserted}
use Rattle.ledger.proofs.packed.pack.Goals as goal
use Rattle.ledger.proofs.packed.pack.Goals.{then-count-ne0, else-count-ne0}

pub loop-step-init : goal.loop-step-init
loop-step-init c =
    let none = packed_none c.args.row.now.counts in
    let ps = pairs (vec_items c.args.entries.now) in
    let at = c.args.at in
    let size = ap length none in
    (omega (arith, size), sym (ap (λ p. take at ps ++ (p ++ drop at ps)) none ∙ take-append-drop at ps), omega arith)

-- as many entries as there were, and the pairs of the counts that were passed
counted :
    (es es' : List Entry) (row : List ℕ) (at j : ℕ) → at ≤ length es → pairs es' ≡ take at (pairs es) ++ (packed row j ++ drop at (pairs es))
    → length es' ≡ length es + length (packed row j)
counted es es' row at j within is =
    let m = length-map es pair in
    let m' = length-map es' pair in
    let s = length_spliced (pairs es) row at (omega (arith, m)) j in
    let l = ap length is in
    omega (arith, m, m', s, l)

-- the pair of an entry that was inserted
pairs_inserted :
    (es es' : List Entry) (i : ℕ) (entry : Entry) (ok : Bool) → es' ≡ cond ok (insert es i entry) es → ok ≡ true
    → pairs es' ≡ insert (pairs es) i (pair entry)
pairs_inserted es es' i entry ok is holds = ap pairs (made_when ok (insert es i entry) es es' is holds) ∙ map_inserted pair es i entry

pub loop-step-preserved : goal.loop-step-preserved
loop-step-preserved c =
    let es = vec_items c.args.entries.now in
    let es' = vec_items c.loop-step.entries in
    let row = c.args.row.now.counts in
    let at = c.args.at in
    let j = c.loop-step.step in
    let l = c.args.entries.now.ok.0 in
    let l' = c.loop-step.entries.ok.0 in
    let w₀ = c.requires.within in
    let m = length-map es pair in
    let within : at ≤ length (pairs es) = omega (arith, l, w₀, m) in
    let next = c.loop-step.invariant.0 in
    let cap = c.loop-step.invariant.2 in
    elim c.if-count-ne0.branch [
      | then-count-ne0 w ↦
          (let used = w.if-count-ne0.true in
          let e = counted es es' row at j (omega (arith, l, w₀)) c.loop-step.invariant.1 in
          let size = length_packed_used row j used in
          let top = packed_within row (j + 1) (omega arith) in
          let room = c.requires.room in
          let ok = w.insert.ensures.succeeds (omega (arith, l, l', e, size, top, room, cap)) in
          let items = pairs_inserted es' _ _ _ _ w.insert.ensures.items ok in
          let more = w.insert.ensures.capacity in
          let same = ap vec_capacity w.entries-is in (
            omega (arith, w.next-is, next, size),
            ap (λ v. pairs (vec_items v)) w.entries-is
                ∙ items
                ∙ spliced_used (pairs es) row at within j c.loop-step.next (pairs es') next c.loop-step.invariant.1 used,
            omega (arith, cap, more, same),
          ))
      | else-count-ne0 w ↦
          (let same = packed_zero row j w.if-count-ne0.false in
          let size = ap length same in
          let keeps = ap vec_capacity w.entries-is in (
            omega (arith, w.next-is, next, size),
            ap (λ v. pairs (vec_items v)) w.entries-is ∙ c.loop-step.invariant.1 ∙ sym (ap (λ p. take at (pairs es) ++ (p ++ drop at (pairs es))) same),
            omega (arith, cap, keeps),
          ))
    ]
