-- A file admits one answer: its bytes settle what its lines are, and where and why one is refused.
use Rattle.std.proofs.Common.{◌≡◌, ℕ, ◌+◌, ◌<◌, ◌≤◌, Bool, cond, leb, List, [], ◌∷◌, ◌++◌, reverse, length, take, drop, Some, None, Ok, Err, Option, Result, sym, refl, ap, ◌∙◌, subst, inl, inr, append_assoc, arith, MatchResult}
use mathlib.Core.List.{reverse_aux}
use Rattle.std.proofs.lemmas.List.{append-nil, append_cancel_left, reverse-reverse, take_at, length-append}
use Rattle.std.proofs.lemmas.Bool.{false≢true, cond-true, cond-false, le-leb, lt-leb}
use Rattle.ledger.specs.declared.Ledger.{Ghosts as Kind}
use Rattle.sheet.specs.declared.fault.SheetFault.{SheetFault}
use Rattle.sheet.specs.declared.sheets.ClosedSheet.{ClosedSheet}
use Rattle.sheet.specs.Verdict.{Outcome}
use Rattle.grammar.specs.declared.mark.Mark.{Mark}
use Rattle.grammar.specs.declared.mark.Mark.TheVariants.{Question}
use Rattle.grammar.specs.Text.{Record, mark, text, Right}
use Rattle.grammar.specs.Lines.{Begins, Broken, Opens}
use Rattle.grammar.proofs.Lines.{one_way, one_break, apart, same_line, same_mark, begins_mark}
use Rattle.netfile.specs.declared.fault.FileFault.{FileFault}
use Rattle.netfile.specs.declared.fault.FileFault.TheVariants.{BufferTooShort, Grammar, Order, TooLong, TooManyQuestions, Sheet}
use Rattle.netfile.specs.declared.fault.Position.{Position}
use Rattle.netfile.specs.declared.fault.RunFault.{RunFault}
use Rattle.netfile.specs.Order.{follows, May, nearest, questions}
use Rattle.netfile.specs.Files.{written, steps_of, places_of, answer, Accepted, LineFault, column_of, Refused, Why, FirstFault, RightFile}
use Rattle.netfile.specs.Runs.{ran_text, WhyUnread, Unread, SheetRead, WhyNot, RanWell, Ran, OnlyRun, OnlySheet}

-- a line that passes the order of the marks
abbrev Passed : Option Mark → ℕ → List ℕ → Type 0
Passed b n s = (0 < length s) × ((m : Mark) → Opens s m → May b n m)

module _ (b : Option Mark) (n : ℕ) (s : List ℕ) where
  -- as the line of a record does that may come there
  passed : (r : Record) (e : ℕ) → Begins s r e → May b n (mark r) → Passed b n s
  passed r e begins may =
      let own = begins_mark s r e begins in
      let long = own.0 in
      (omega arith, λ m opens. subst (May b n) (same_mark s (mark r) m own.1 opens.1) may)

  order_not_passed : (c : ℕ) → LineFault b n s c Order → Passed b n s → ⊥
  order_not_passed c h p =
      let some = p.0 in
      elim h.1 [
        | inl none ↦ let e = ap length none.1 in omega arith
        | inr out ↦ false≢true (sym out.2 ∙ (p.1 out.0 out.1).0)
      ]

  many_not_passed : (c : ℕ) → LineFault b n s c TooManyQuestions → Passed b n s → ⊥
  many_not_passed c h p =
      let few = (p.1 Question h.1).1 in
      let many = h.3 in
      omega arith

  order_not_many : (c d : ℕ) → LineFault b n s c Order → LineFault b n s d TooManyQuestions → ⊥
  order_not_many c d h g =
      let long = g.1.0 in
      elim h.1 [
        | inl none ↦ let e = ap length none.1 in omega arith
        | inr out ↦ false≢true (sym out.2 ∙ ap (follows b) (same_mark s out.0 Question out.1.1 g.1.1) ∙ g.2)
      ]

one_column : (s : List ℕ) (c d : ℕ) → Broken s c → Broken s d → c ≡ d
one_column s c d x y = x.told ∙ ap (λ j. j + 1) (one_break s x.bytes y.bytes x.breaks y.breaks) ∙ sym y.told

nearest_of_some : (rs : List Record) → 0 < length rs → nearest rs ≡ None → ⊥
nearest_of_some [] some e = omega arith
nearest_of_some (r ∷ rs) some e = cc

-- at one place of a file: the records before it, and the bytes from there on
module _ {L : Type 0} (k : Kind L) (rs : List Record) (s : List ℕ) where
  abbrev near : Option Mark
  near = nearest rs

  abbrev count : ℕ
  count = questions rs

  refused_passed : (c : ℕ) (x : SheetFault) → Refused k rs s c x → Passed near count s
  refused_passed c x h = passed near count s h.of h.end h.begins h.may

  one_refusal : (c d : ℕ) (x y : SheetFault) → Refused k rs s c x → Refused k rs s d y → (Sheet x ≡ Sheet y) × (c ≡ d)
  one_refusal c d x y h g =
      let same : h.of ≡ g.of = (same_line s h.of g.of h.end g.end h.begins g.begins).0 in
      let both : ◌≡◌ {A = Outcome} (Err x) (Err y) = sym h.refused ∙ ap (answer k rs) same ∙ g.refused in
      let fault : x ≡ y = cc in
      (ap Sheet fault, h.told ∙ ap (λ r. column_of r x) same ∙ ap (column_of g.of) fault ∙ sym g.told)

  -- one line is refused for one reason, at one column
  one_why : (x y : FileFault) (c d : ℕ) → Why k rs s c x → Why k rs s d y → (x ≡ y) × (c ≡ d)
  one_why Order Order c d h g = (refl, h.0 ∙ sym g.0)
  one_why Order TooManyQuestions c d h g = absurd (order_not_many near count s c d h g)
  one_why Order Grammar c d h g = absurd (order_not_passed near count s c h (g.0, g.1))
  one_why Order (Sheet y) c d h g = absurd (order_not_passed near count s c h (refused_passed d y g))
  one_why TooManyQuestions Order c d h g = absurd (order_not_many near count s d c g h)
  one_why TooManyQuestions TooManyQuestions c d h g = (refl, h.0 ∙ sym g.0)
  one_why TooManyQuestions Grammar c d h g = absurd (many_not_passed near count s c h (g.0, g.1))
  one_why TooManyQuestions (Sheet y) c d h g = absurd (many_not_passed near count s c h (refused_passed d y g))
  one_why Grammar Order c d h g = absurd (order_not_passed near count s d g (h.0, h.1))
  one_why Grammar TooManyQuestions c d h g = absurd (many_not_passed near count s d g (h.0, h.1))
  one_why Grammar Grammar c d h g = (refl, one_column s c d h.2 g.2)
  one_why Grammar (Sheet y) c d h g = absurd (apart s g.of g.end h.2.bytes g.begins h.2.breaks)
  one_why (Sheet x) Order c d h g = absurd (order_not_passed near count s d g (refused_passed c x h))
  one_why (Sheet x) TooManyQuestions c d h g = absurd (many_not_passed near count s d g (refused_passed c x h))
  one_why (Sheet x) Grammar c d h g = absurd (apart s h.of h.end g.2.bytes h.begins g.2.breaks)
  one_why (Sheet x) (Sheet y) c d h g = one_refusal c d x y h g
  one_why BufferTooShort y c d h g = absurd h
  one_why TooLong y c d h g = absurd h
  one_why Order BufferTooShort c d h g = absurd g
  one_why Order TooLong c d h g = absurd g
  one_why TooManyQuestions BufferTooShort c d h g = absurd g
  one_why TooManyQuestions TooLong c d h g = absurd g
  one_why Grammar BufferTooShort c d h g = absurd g
  one_why Grammar TooLong c d h g = absurd g
  one_why (Sheet x) BufferTooShort c d h g = absurd g
  one_why (Sheet x) TooLong c d h g = absurd g

  -- a line that is accepted is refused for no reason
  accepted_not_refused : (r : Record) (e : ℕ) → Begins s r e → May near count (mark r) → answer k rs r ≡ Ok tt → (c : ℕ) (x : FileFault) → Why k rs s c x → ⊥
  accepted_not_refused r e begins may done c Order h = order_not_passed near count s c h (passed near count s r e begins may)
  accepted_not_refused r e begins may done c TooManyQuestions h = many_not_passed near count s c h (passed near count s r e begins may)
  accepted_not_refused r e begins may done c Grammar h = apart s r e h.2.bytes begins h.2.breaks
  accepted_not_refused r e begins may done c (Sheet x) h =
      let same : r ≡ h.of = (same_line s r h.of e h.end begins h.begins).0 in
      let both : ◌≡◌ {A = Outcome} (Ok tt) (Err x) = sym done ∙ ap (answer k rs) same ∙ h.refused in
      cc
  accepted_not_refused r e begins may done c BufferTooShort h = h
  accepted_not_refused r e begins may done c TooLong h = h

  -- nor is the end of a file that has some lines
  end_not_refused : length s ≡ 0 → 0 < length rs → (c : ℕ) (x : FileFault) → Why k rs s c x → ⊥
  end_not_refused e some c Order h =
      elim h.1 [ inl none ↦ nearest_of_some rs some none.0 | inr out ↦ let long = out.1.0 in omega arith ]
  end_not_refused e some c TooManyQuestions h = let long = h.1.0 in omega arith
  end_not_refused e some c Grammar h = let long = h.0 in omega arith
  end_not_refused e some c (Sheet x) h = let long = (begins_mark s h.of h.end h.begins).0 in omega arith
  end_not_refused e some c BufferTooShort h = h
  end_not_refused e some c TooLong h = h

-- one more accepted record, with the bytes w after it
record Next {L : Type 0} (k : Kind L) (rs : List Record) (s : List ℕ) (r : Record) (w : List ℕ) : Type 0 where
  is : s ≡ text r ++ w
  right : Right r
  may : May (nearest rs) (questions rs) (mark r)
  done : answer k rs r ≡ Ok tt

-- what is told after the records: nothing at the end of the file, or the fault of the line
abbrev Told : {L : Type 0} → Kind L → List Record → List ℕ → Option RunFault → Type 0
Told k rs s None = (length s ≡ 0) × (0 < length rs)
Told k rs s (Some f) = (column : ℕ) × (f.at ≡ Some (record { line = length rs + 1; column = column })) × Why k rs s column f.fault

-- the way through the rest of a file: the records to come, the first line first, and what is told after them
abbrev Way : {L : Type 0} → Kind L → List Record → List ℕ → List Record → Option RunFault → Type 0
Way k rs s [] o = Told k rs s o
Way k rs s (x ∷ xs) o = (w : List ℕ) × Next k rs s x w × Way k (x ∷ rs) w xs o

same_fault : (f g : RunFault) → f.fault ≡ g.fault → f.at ≡ g.at → f ≡ g
same_fault f g x p = ap (λ (y : FileFault). record { fault = y; at = f.at }) x ∙ ap (λ (y : Option Position). record { fault = g.fault; at = y }) p

module _ {L : Type 0} (k : Kind L) where
  one_told : (rs : List Record) (s : List ℕ) (o p : Option RunFault) → Told k rs s o → Told k rs s p → o ≡ p
  one_told rs s None None h g = refl
  one_told rs s None (Some f) h g = absurd (end_not_refused k rs s h.0 h.1 g.0 f.fault g.2)
  one_told rs s (Some f) None h g = absurd (end_not_refused k rs s g.0 g.1 h.0 f.fault h.2)
  one_told rs s (Some f) (Some g) h i =
      let why = one_why k rs s f.fault g.fault h.0 i.0 h.2 i.2 in
      ap Some (same_fault f g why.0 (h.1 ∙ ap (λ (c : ℕ). Some (record { line = length rs + 1; column = c })) why.1 ∙ sym i.1))

  -- nothing is told before a record that is accepted
  accepted_not_told : (rs : List Record) (s : List ℕ) (r : Record) (w : List ℕ) (o : Option RunFault) → Next k rs s r w → Told k rs s o → ⊥
  accepted_not_told rs s r w None x h =
      let none = h.0 in
      let some = ap length x.is in
      omega arith
  accepted_not_told rs s r w (Some f) x h =
      let long = ap length x.is ∙ length-append (text r) w in
      let begins : Begins s r (length (text r)) = record { within = omega arith; right = x.right; is = ap (take (length (text r))) x.is ∙ take_at (text r) w (length (text r)) refl } in
      accepted_not_refused k rs s r (length (text r)) begins x.may x.done h.0 f.fault h.2

  one_way_on : (rs : List Record) (s : List ℕ) (xs ys : List Record) (o p : Option RunFault) → Way k rs s xs o → Way k rs s ys p → (xs ≡ ys) × (o ≡ p)
  one_way_on rs s [] [] o p h g = (refl, one_told rs s o p h g)
  one_way_on rs s [] (y ∷ ys) o p h g = absurd (accepted_not_told rs s y g.0 o g.1 h)
  one_way_on rs s (x ∷ xs) [] o p h g = absurd (accepted_not_told rs s x h.0 p h.1 g)
  one_way_on rs s (x ∷ xs) (y ∷ ys) o p h g =
      let both : text x ++ h.0 ≡ text y ++ g.0 = sym h.1.is ∙ g.1.is in
      let same : y ≡ x = sym (one_way x y h.0 g.0 h.1.right g.1.right both) in
      let rest : g.0 ≡ h.0 = append_cancel_left (text x) g.0 h.0 (ap (λ r. text r ++ g.0) (sym same) ∙ sym both) in
      let on : Way k (x ∷ rs) h.0 ys p = subst (λ w. Way k (x ∷ rs) w ys p) rest (subst (λ r. Way k (r ∷ rs) g.0 ys p) same g.2) in
      let more = one_way_on (x ∷ rs) h.0 xs ys o p h.2 on in
      (ap (λ r. r ∷ xs) (sym same) ∙ ap (λ l. y ∷ l) more.0, more.1)

  -- from the first line of the file on
  from_start : (rs : List Record) (s t : List ℕ) (xs : List Record) (o : Option RunFault) → Accepted k rs → s ≡ written rs ++ t → Way k rs t xs o → Way k [] s (reverse_aux rs xs) o
  from_start [] s t xs o a e h = subst (λ l. Way k [] l xs o) (sym e) h
  from_start (r ∷ rs) s t xs o a e h =
      from_start rs s (text r ++ t) (r ∷ xs) o a.0 (e ∙ append_assoc (written rs) (text r) t) (t, record { is = refl; right = a.1; may = a.2; done = a.3 }, h)

-- what a file is: too long, or read as far as some records, with what is told after them
data Fate : Type 0 where
  long : Fate
  read : List Record → Option RunFault → Fate

record Reads {L : Type 0} (k : Kind L) (s : List ℕ) (rs : List Record) (o : Option RunFault) : Type 0 where
  rest : List ℕ
  is : s ≡ written rs ++ rest
  accepted : Accepted k rs
  told : Told k rs rest o

abbrev Fated : {L : Type 0} → Kind L → List ℕ → Fate → Type 0
Fated k s long = 16384 < length s
Fated k s (read rs o) = (length s ≤ 16384) × Reads k s rs o

-- a fault of the whole file
abbrev whole : FileFault → RunFault
whole x = record { fault = x; at = None }

-- the fault that is told of the file, its buffer aside
abbrev fault_of : Fate → Option RunFault
fault_of long = Some (whole TooLong)
fault_of (read rs o) = o

module _ {L : Type 0} (k : Kind L) (s : List ℕ) where
  one_reads : (rs qs : List Record) (o p : Option RunFault) → Reads k s rs o → Reads k s qs p → (rs ≡ qs) × (o ≡ p)
  one_reads rs qs o p h g =
      let a = from_start k rs s h.rest [] o h.accepted h.is h.told in
      let b = from_start k qs s g.rest [] p g.accepted g.is g.told in
      let same = one_way_on k [] s (reverse rs) (reverse qs) o p a b in
      (sym (reverse-reverse rs) ∙ ap reverse same.0 ∙ reverse-reverse qs, same.1)

  reads_right : (rs : List Record) → RightFile k s rs → Reads k s rs None
  reads_right rs h = record { rest = []; is = h.is ∙ sym (append-nil (written rs)); accepted = h.accepted; told = (refl, h.some) }

  reads_fault : (f : RunFault) (h : FirstFault k s f) → Reads k s h.before (Some f)
  reads_fault f h = record { rest = h.rest; is = h.is; accepted = h.accepted; told = (h.column, h.told, h.why) }

  one_fate : (a b : Fate) → Fated k s a → Fated k s b → a ≡ b
  one_fate long long h g = refl
  one_fate long (read rs o) h g = let short = g.0 in absurd (omega arith)
  one_fate (read rs o) long h g = let short = h.0 in absurd (omega arith)
  one_fate (read rs o) (read qs p) h g =
      let same = one_reads rs qs o p h.1 g.1 in
      ap (λ l. read l o) same.0 ∙ ap (read qs) same.1

  pub one_reading : (rs qs : List Record) → RightFile k s rs → RightFile k s qs → rs ≡ qs
  one_reading rs qs h g = (one_reads rs qs None None (reads_right rs h) (reads_right qs g)).0

  -- a file that cannot be read
  stopped_fate : (f : RunFault) → (length s ≤ 16384) × FirstFault k s f → (a : Fate) × Fated k s a × (fault_of a ≡ Some f)
  stopped_fate f h = (read h.1.before (Some f), (h.0, reads_fault f h.1), refl)

  unread_fate : (f : RunFault) (x : FileFault) → f.fault ≡ x → WhyUnread k s f x → (a : Fate) × Fated k s a × (fault_of a ≡ Some f)
  unread_fate f TooLong e h = (long, h.0, ap Some (sym (same_fault f (whole TooLong) e h.1)))
  unread_fate f BufferTooShort e h = absurd h
  unread_fate f Grammar e h = stopped_fate f h
  unread_fate f Order e h = stopped_fate f h
  unread_fate f TooManyQuestions e h = stopped_fate f h
  unread_fate f (Sheet fault) e h = stopped_fate f h

  right_not_unread : (f : RunFault) (rs : List Record) → length s ≤ 16384 → RightFile k s rs → Unread k s f → ⊥
  right_not_unread f rs short right u =
      let told = unread_fate f f.fault refl u in
      let both : None ≡ Some f = ap fault_of (one_fate (read rs None) told.0 (short, reads_right rs right) told.1) ∙ told.2 in
      cc

  one_fault : (f g : RunFault) → Unread k s f → Unread k s g → f ≡ g
  one_fault f g u v =
      let a = unread_fate f f.fault refl u in
      let b = unread_fate g g.fault refl v in
      let both : Some f ≡ Some g = sym a.2 ∙ ap fault_of (one_fate a.0 b.0 a.1 b.1) ∙ b.2 in
      cc

  pub only_sheet : (r : Result (ClosedSheet L k) RunFault) → MatchResult r (SheetRead k s) (Unread k s) → OnlySheet k s r
  only_sheet (Ok c) h = record {
    net = λ rs right.
        let same = one_reading h.records rs h.right right in
        (h.steps ∙ ap steps_of same, h.places ∙ ap places_of same);
    faultless = λ f. right_not_unread f h.records h.short h.right;
  }
  only_sheet (Err f) h = record { fault = λ g u. one_fault g f u h; sheetless = λ c made. right_not_unread f made.records made.short made.right h }

-- what a run tells of such a file, and what it leaves in the buffer
abbrev fits : List Record → List ℕ → Bool
fits rs was = leb (length (ran_text rs)) (length was)

abbrev tells : Fate → List ℕ → Result ℕ RunFault
tells long was = Err (whole TooLong)
tells (read rs (Some f)) was = Err f
tells (read rs None) was = cond (fits rs was) (Ok (length (ran_text rs))) (Err (whole BufferTooShort))

abbrev leaves : Fate → List ℕ → List ℕ
leaves long was = was
leaves (read rs (Some f)) was = was
leaves (read rs None) was = cond (fits rs was) (ran_text rs ++ drop (length (ran_text rs)) was) was

record Settled {L : Type 0} (k : Kind L) (s was : List ℕ) (r : Result ℕ RunFault) (is : List ℕ) : Type 0 where
  fate : Fate
  fated : Fated k s fate
  told : r ≡ tells fate was
  left : is ≡ leaves fate was

module _ {L : Type 0} (k : Kind L) (s was : List ℕ) where
  settled_stop : (f : RunFault) → (length s ≤ 16384) × FirstFault k s f → (is : List ℕ) → is ≡ was → Settled k s was (Err f) is
  settled_stop f h is same = record { fate = read h.1.before (Some f); fated = (h.0, reads_fault k s f h.1); told = refl; left = same }

  settled_fault : (f : RunFault) (x : FileFault) → f.fault ≡ x → WhyNot k s was f x → (is : List ℕ) → is ≡ was → Settled k s was (Err f) is
  settled_fault f TooLong e h is same = record { fate = long; fated = h.0; told = ap Err (same_fault f (whole TooLong) e h.1); left = same }
  settled_fault f BufferTooShort e h is same =
      let rs = h.2.0 in
      let short = lt-leb (length (ran_text rs)) (length was) h.2.2 in
      record {
        fate = read rs None;
        fated = (h.0, reads_right k s rs h.2.1);
        told = ap Err (same_fault f (whole BufferTooShort) e h.1) ∙ sym (cond-false (fits rs was) _ _ short);
        left = same ∙ sym (cond-false (fits rs was) _ _ short);
      }
  settled_fault f Grammar e h is same = settled_stop f h is same
  settled_fault f Order e h is same = settled_stop f h is same
  settled_fault f TooManyQuestions e h is same = settled_stop f h is same
  settled_fault f (Sheet fault) e h is same = settled_stop f h is same

  -- a text that was written to a buffer of this length had room there
  had_room : (n : ℕ) (is : List ℕ) → length is ≡ length was → (h : RanWell k s was n is) → length (ran_text h.records) ≤ length was
  had_room n is size h =
      let whole = ap length h.wrote ∙ length-append (ran_text h.records) (drop n was) in
      omega (arith, size, whole)

  settled : (r : Result ℕ RunFault) (is : List ℕ) → length is ≡ length was → Ran k s was r is → Settled k s was r is
  settled (Ok n) is size h =
      let rs = h.records in
      let room = le-leb (length (ran_text rs)) (length was) (had_room n is size h) in
      record {
        fate = read rs None;
        fated = (h.short, reads_right k s rs h.right);
        told = ap Ok h.long ∙ sym (cond-true (fits rs was) _ _ room);
        left = h.wrote ∙ ap (λ m. ran_text rs ++ drop m was) h.long ∙ sym (cond-true (fits rs was) _ _ room);
      }
  settled (Err f) is size h = settled_fault f f.fault refl h.0 is h.1

  pub only_run : (r : Result ℕ RunFault) (is : List ℕ) → length is ≡ length was → Ran k s was r is → OnlyRun k s was r is
  only_run r is size h r' is' size' h' =
      let a = settled r is size h in
      let b = settled r' is' size' h' in
      let same : b.fate ≡ a.fate = one_fate k s b.fate a.fate b.fated a.fated in
      (b.told ∙ ap (λ x. tells x was) same ∙ sym a.told, b.left ∙ ap (λ x. leaves x was) same ∙ sym a.left)
