-- What reading a line means, by what can be written.
--
--   Viable q        some record's line begins with the bytes q
--   GoesOn q        and has more after them
--   Breaks s k      k bytes of s can go on to a line, and no line begins with one byte more
--   Broken s column the column of that byte, from 1, or one past the last byte of s
--   Begins s r k    the first k bytes of s are the line of r
--   Opens s m       s begins with the mark m
--   Opened s m w    and after it come the bytes w
--   Unmarked s column  no line can go on at this column, 1 or 2, of the mark
--   field_in i ns k number k, counted from 0, of line i with the numbers ns, with the column of its first byte
--   Held i fs ns    of line i, fs holds the first 25 of the numbers ns
--   Shows i l r     l tells the record r of line i: its mark, how many numbers it has, and the first 25 of them
--   ReadAs s i l    the first `end` bytes of s, which begin line i, are the line of a record that l shows
--   Answer s i a    what is told of the line that s begins with: the line, or the column at which it breaks
--   Told r k i a    a tells the line of r, k bytes long
--   Exactly s i a   nothing else could have been told: the line of r is read as r, and a break is told at its column
use Rattle.std.specs.Prelude.{◌≡◌, ℕ, ◌+◌, ◌<◌, ◌≤◌, min, List, [], ◌∷◌, ◌++◌, length, take, ℤ, pos, Ok, Err, Result, slice_index_or}
use Rattle.std.specs.List.{flat_map}
use Rattle.inline_list.specs.Items.{items}
use Rattle.grammar.specs.declared.broken.BrokenLine.{BrokenLine}
use Rattle.grammar.specs.declared.line.Field.{Field}
use Rattle.grammar.specs.declared.line.Line.{Line}
use Rattle.grammar.specs.declared.mark.Mark.{Mark}
use Rattle.grammar.specs.Text.{Record, mark, numbers, letter, field, text, Right}

pub record Viable (q : List ℕ) : Type 0 where
  pub of : Record
  pub rest : List ℕ
  pub right : Right of
  pub is : text of ≡ q ++ rest

pub record GoesOn (q : List ℕ) : Type 0 where
  pub of : Record
  pub next : ℕ
  pub rest : List ℕ
  pub right : Right of
  pub is : text of ≡ q ++ (next ∷ rest)

pub record Breaks (s : List ℕ) (k : ℕ) : Type 0 where
  pub within : k ≤ length s
  pub stands : GoesOn (take k s)
  pub stuck : k < length s → Viable (take (k + 1) s) → ⊥

pub record Broken (s : List ℕ) (column : ℕ) : Type 0 where
  pub bytes : ℕ
  pub told : column ≡ bytes + 1
  pub breaks : Breaks s bytes

pub record Begins (s : List ℕ) (r : Record) (k : ℕ) : Type 0 where
  pub within : k ≤ length s
  pub right : Right r
  pub is : take k s ≡ text r

abbrev pub Opens : List ℕ → Mark → Type 0
Opens s m = (2 ≤ length s) × (take 2 s ≡ letter m ∷ (58 ∷ []))

abbrev pub Opened : List ℕ → Mark → List ℕ → Type 0
Opened s m w = s ≡ letter m ∷ (58 ∷ w)

abbrev pub Unmarked : List ℕ → ℕ → Type 0
Unmarked s column = Broken s column × (column ≤ 2)

abbrev pub field_in : ℕ → List ℤ → ℕ → Field
field_in number ns k = record { line = number; column = length (flat_map field (take k ns)) + 4; value = slice_index_or ns k (pos 0) }

abbrev pub Held : ℕ → List Field → List ℤ → Type 0
Held number fields ns = (k : ℕ) → k < 25 → k < length ns → (d : Field) → slice_index_or fields k d ≡ field_in number ns k

pub record Shows (number : ℕ) (l : Line) (r : Record) : Type 0 where
  pub marked : l.mark ≡ mark r
  pub counted : l.count ≡ length (numbers r)
  pub kept : length (items l.fields) ≡ min (length (numbers r)) 25
  pub held : Held number (items l.fields) (numbers r)

pub record ReadAs (s : List ℕ) (number : ℕ) (l : Line) : Type 0 where
  pub of : Record
  pub begins : Begins s of l.end
  pub shows : Shows number l of

abbrev pub Answer : List ℕ → ℕ → Result Line BrokenLine → Type 0
Answer s number (Ok l) = ReadAs s number l
Answer s number (Err e) = Broken s e.column

abbrev pub Told : Record → ℕ → ℕ → Result Line BrokenLine → Type 0
Told r k number (Ok l) = (l.end ≡ k) × Shows number l r
Told r k number (Err e) = ⊥

pub record Exactly (s : List ℕ) (number : ℕ) (a : Result Line BrokenLine) : Type 0 where
  pub right : (r : Record) (k : ℕ) → Begins s r k → Told r k number a
  pub broken : (k : ℕ) → Breaks s k → a ≡ Err (record { column = k + 1 })

-- a line of one record begins no line of another
abbrev pub OneWay : Type 0
OneWay = (r q : Record) (t u : List ℕ) → Right r → Right q → text r ++ t ≡ text q ++ u → r ≡ q

-- bytes that begin with a record's line break nowhere, and no bytes break at two places
abbrev pub Apart : Type 0
Apart = (s : List ℕ) (r : Record) (k j : ℕ) → Begins s r k → Breaks s j → ⊥

abbrev pub OneBreak : Type 0
OneBreak = (s : List ℕ) (j k : ℕ) → Breaks s j → Breaks s k → j ≡ k
