use Rattle.std.proofs.Common.{◌<◌, length, vec_items, rules}
use Rattle.ledger.specs.Packed.{pairs}
use Rattle.ledger.proofs.Unpacking.{length_unpacked, row_cut}
use Rattle.ledger.proofs.entries.EntryLedgerLedger.read.Goals as goal

pub returns : goal.returns
returns c = λ _.
    let sizes = vec_items c.args.self.now.sizes in
    let es = vec_items c.args.self.now.entries in
    let i = c.in_ok-i.i in
    let n = length_unpacked sizes (pairs es) in
    let inside : i < length sizes = search rules in
    let cut = row_cut sizes es c.deref.result.now i c.start-at.result c.index.result.now c.unpack.result.counts inside c.start-at.ensures.begins c.index.ensures c.deref.ensures.value c.unpack.ensures in
    search rules
