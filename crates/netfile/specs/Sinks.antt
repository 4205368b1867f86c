-- Cited by private functions only: how text goes into a sink. `room s` is how many bytes more the sink s takes, and `takes s text e` says
-- that the text went into s, and that s is e then.
--
--   Puts room takes s text r e   the text went into s, or had no room there: r tells which
--   PieceByPiece room takes      it is the same to put two texts one after the other, or both as one
--   Written at was text end is   the text was written into the buffer `was` from `at` to `end`; the buffer is `is` then, and of the same length
use Rattle.std.specs.Prelude.{◌≡◌, ℕ, ◌+◌, ◌<◌, List, [], ◌++◌, length, take, drop, Ok, Err, Result}
use Rattle.netfile.specs.declared.fault.FileFault.{FileFault}
use Rattle.netfile.specs.declared.fault.FileFault.TheVariants.{BufferTooShort}

abbrev pub Puts : {S : Type 0} → (S → ℕ) → (S → List ℕ → S → Type 0) → S → List ℕ → Result Unit FileFault → S → Type 0
Puts room takes s text (Ok done) e = takes s text e
Puts room takes s text (Err fault) e = (fault ≡ BufferTooShort) × (room s < length text)

pub record PieceByPiece {S : Type 0} (room : S → ℕ) (takes : S → List ℕ → S → Type 0) : Type 0 where
  pub nothing : (s : S) → takes s [] s
  pub both : (s m e : S) (t u : List ℕ) → takes s t m → takes m u e → takes s (t ++ u) e
  pub spent : (s e : S) (text : List ℕ) → takes s text e → room e + length text ≡ room s

pub record Written (at : ℕ) (was text : List ℕ) (end : ℕ) (is : List ℕ) : Type 0 where
  pub end_is : end ≡ at + length text
  pub long : length is ≡ length was
  pub front : take end is ≡ take at was ++ text
  pub behind : drop end is ≡ drop end was
