-- What the entry ledger holds after one row more.
use Rattle.std.proofs.Common.{◌≡◌, ℕ, ◌+◌, ◌≤◌, List, ◌++◌, map, length, take, drop, sum_by, sum, sym, ap, ◌∙◌, arith}
use Rattle.std.specs.List.{insert}
use Rattle.std.proofs.lemmas.List.Sums.{sum_by-take-le, sum_by-insert}
use Rattle.ledger.specs.Rows.{Small, nonzeros, entry_charge}
use Rattle.ledger.specs.Packed.{unpacked, packed, Exact}
use Rattle.ledger.proofs.Insertions.{kept_after}
use Rattle.ledger.proofs.Packing.{length_packed, length_spliced, map_inserted}
use Rattle.ledger.proofs.Unpacking.{unpacked_inserted, expanded_packed}

-- sizes and pairs, before and after a row goes in as row i (from 0)
pub record Entered (ns : List ℕ) (ps : List (ℕ × ℕ)) (i : ℕ) (row : List ℕ) (ns' : List ℕ) (ps' : List (ℕ × ℕ)) : Type 0 where
  pub sized : sum ns ≡ length ps
  pub inside : i ≤ length ns
  pub wide : length row ≡ 24
  pub sizes : ns' ≡ insert ns i (nonzeros row)
  pub spliced : ps' ≡ take (sum (take i ns)) ps ++ (packed row 24 ++ drop (sum (take i ns)) ps)

module _ {ns : List ℕ} {ps : List (ℕ × ℕ)} {i : ℕ} {row ns' : List ℕ} {ps' : List (ℕ × ℕ)} (e : Entered ns ps i row ns' ps') where
  at_within : sum (take i ns) ≤ length ps
  at_within = let t = sum_by-take-le (λ x. x) ns i in omega (arith, t, e.sized)

  pub sum_entered : sum ns' ≡ sum ns + nonzeros row
  sum_entered = ap sum e.sizes ∙ sum_by-insert (λ x. x) ns i (nonzeros row)

  pub length_entered : length ps' ≡ length ps + nonzeros row
  length_entered =
      let a = ap length e.spliced in
      let b = length_spliced ps row (sum (take i ns)) at_within 24 in
      let d = length_packed row e.wide in
      omega (arith, a, b, d)

  pub rows_entered : unpacked ns' ps' ≡ insert (unpacked ns ps) i row
  rows_entered =
      ap (λ xs. unpacked xs ps') (e.sizes ∙ ap (insert ns i) (sym (length_packed row e.wide)))
      ∙ ap (unpacked (insert ns i (length (packed row 24)))) e.spliced
      ∙ unpacked_inserted ns ps (packed row 24) i e.inside at_within
      ∙ ap (insert (unpacked ns ps) i) (expanded_packed row e.wide)

  pub exact_entered : Exact ns ps → Small row → sum_by entry_charge (unpacked ns ps) + entry_charge row ≤ 1024 → Exact ns' ps'
  exact_entered o small fits = record {
    kept = kept_after entry_charge 1024 (unpacked ns ps) (unpacked ns' ps') i row rows_entered o.kept e.wide small fits;
    sizes_are =
        e.sizes
        ∙ ap (λ xs. insert xs i (nonzeros row)) o.sizes_are
        ∙ sym (map_inserted nonzeros (unpacked ns ps) i row)
        ∙ ap (map nonzeros) (sym rows_entered);
  }
