-- Rows kept as their non-zero counts, one row after another: how the entry ledger keeps them. Only its own functions cite this.
--
--   pair entry           the entry's step, from 0, and its count
--   pairs entries        the pair of each entry
--   placed row p         the row with the pair's count at its step
--   expanded ps          the row that a list of such pairs stands for
--   unpacked sizes ps    the rows that they stand for, where the sizes say how many pairs each row has
--   packed row j         the pairs of the first j counts of a row
--   Exact sizes ps       the rows may be held, and each has exactly as many pairs as counts that are not 0
use Rattle.std.specs.Prelude.{◌≡◌, ℕ, zero, suc, cond, List, [], ◌∷◌, ◌++◌, map, take, drop, replicate, fold, ◌==◌, slice_index, slice_set}
use Rattle.ledger.specs.declared.entry.Entry.{Entry}
use Rattle.ledger.specs.Rows.{WellKept, nonzeros, entry_charge}

abbrev pub pair : Entry → ℕ × ℕ
pair entry = (entry.step, entry.count)

abbrev pub pairs : List Entry → List (ℕ × ℕ)
pairs entries = map pair entries

abbrev pub placed : List ℕ → ℕ × ℕ → List ℕ
placed row p = slice_set row p.0 p.1

abbrev pub expanded : List (ℕ × ℕ) → List ℕ
expanded ps = fold placed (replicate 24 0) ps

abbrev pub unpacked : List ℕ → List (ℕ × ℕ) → List (List ℕ)
unpacked [] ps = []
unpacked (n ∷ ns) ps = expanded (take n ps) ∷ unpacked ns (drop n ps)

unfoldable pub packed : List ℕ → ℕ → List (ℕ × ℕ)
packed row zero = []
packed row (suc j) = packed row j ++ cond (slice_index row j == 0) [] ((j, slice_index row j) ∷ [])

pub record Exact (sizes : List ℕ) (ps : List (ℕ × ℕ)) : Type 0 where
  pub kept : WellKept entry_charge 1024 (unpacked sizes ps)
  pub sizes_are : sizes ≡ map nonzeros (unpacked sizes ps)
