-- Text after text in a sink.
use Rattle.std.proofs.Common.{◌≡◌, ℕ, ◌+◌, ◌<◌, List, [], ◌++◌, length, get_or, take, Ok, Err, Result, sym, ap, ◌∙◌, subst, arith, length-append}
use Rattle.std.specs.List.{flat_map}
use Rattle.std.proofs.lemmas.List.{take_all, take_more, flat_map_more}
use Rattle.std.proofs.lemmas.List.Folds.{length-flat_map-take}
use Rattle.netfile.specs.declared.fault.FileFault.{FileFault}
use Rattle.netfile.specs.Sinks.{Puts, PieceByPiece}

module _ {S : Type 0} {room : S → ℕ} {takes : S → List ℕ → S → Type 0} (k : PieceByPiece room takes) where
  -- a second text after the first
  pub puts_both : (s m e : S) (t u : List ℕ) (r : Result Unit FileFault) → takes s t m → Puts room takes m u r e → Puts room takes s (t ++ u) r e
  puts_both s m e t u (Ok done) p q = k.both s m e t u p q
  puts_both s m e t u (Err fault) p q = let spent = k.spent s m t p in let l = length-append t u in let short = q.1 in (q.0, omega arith)

  -- one more text of a list
  pub each_more : {X : Type 0} (f : X → List ℕ) (xs : List X) (i : ℕ) (x d : X) (s m e : S) → i < length xs → x ≡ get_or xs i d → takes s (flat_map f (take i xs)) m → takes m (f x) e → takes s (flat_map f (take (i + 1) xs)) e
  each_more f xs i x d s m e h is p q =
      let more : flat_map f (take i xs) ++ f x ≡ flat_map f (take (i + 1) xs) =
      ap (λ y. flat_map f (take i xs) ++ f y) is ∙ flat_map_more f [] (take i xs) (get_or xs i d) ∙ sym (ap (flat_map f) (take_more xs i d h))
      in
      subst (λ t. takes s t e) more (k.both s m e (flat_map f (take i xs)) (f x) p q)

  pub each_last : {X : Type 0} (f : X → List ℕ) (xs : List X) (i : ℕ) (x d : X) (s m e : S) → length xs ≡ i + 1 → x ≡ get_or xs i d → takes s (flat_map f (take i xs)) m → takes m (f x) e → takes s (flat_map f xs) e
  each_last f xs i x d s m e last is p q = subst (λ l. takes s (flat_map f l) e) (take_all (i + 1) xs (omega arith)) (each_more f xs i x d s m e (omega arith) is p q)

  -- where one text of a list has no room, nor have all of them
  pub each_short : {X : Type 0} (f : X → List ℕ) (xs : List X) (i : ℕ) (x d : X) (s m : S) → i < length xs → x ≡ get_or xs i d → takes s (flat_map f (take i xs)) m → room m < length (f x) → room s < length (flat_map f xs)
  each_short f xs i x d s m h is p short =
      let spent = k.spent s m (flat_map f (take i xs)) p in
      let l = length-flat_map-take f xs i d h in
      let same = ap (λ y. length (f y)) is in
      omega arith
