-- From the parts of a run to its answer.
use Rattle.std.proofs.Common.{◌≡◌, ℕ, ◌<◌, ◌≤◌, List, [], ◌∷◌, ◌++◌, map, length, drop, Some, None, Ok, Err, codes, Result, sym, refl, ap, ◌∙◌, subst, inl, MatchResult}
use Rattle.std.specs.List.{flat_map}
use Rattle.std.specs.Result.{IsErrAnd}
use Rattle.ledger.specs.declared.Ledger.{Ghosts as Kind}
use Rattle.cycle_theory.specs.Method.{tss}
use Rattle.cycle_theory.specs.Walk.{outcome}
use Rattle.sheet.specs.declared.sheets.ClosedSheet.{ClosedSheet}
use Rattle.sheet.specs.Sheets.{closed_list, places_in}
use Rattle.netfile.specs.declared.fault.FileFault.{FileFault}
use Rattle.netfile.specs.declared.fault.FileFault.TheVariants.{BufferTooShort, Grammar, Order, TooLong, TooManyQuestions, Sheet}
use Rattle.netfile.specs.declared.fault.RunFault.{RunFault}
use Rattle.netfile.specs.declared.questions.Judged.{Judged}
use Rattle.netfile.specs.Files.{steps_of, places_of, asked_of, Why, FirstFault}
use Rattle.netfile.specs.Printouts.{line, row_line, outcome_line, Wrote}
use Rattle.netfile.specs.Reading.{sheet_text, FileRead}
use Rattle.netfile.specs.Runs.{ran_text, WhyUnread, Unread, SheetRead, WhyNot, Faulty, RanWell, Ran}
use Rattle.netfile.proofs.Passed.{passed}
use Rattle.netfile.proofs.Listing.{listed_rows}

-- a file of no bytes
pub no_line : {L : Type 0} (k : Kind L) (s : List ℕ) → s ≡ [] → FirstFault k s (record { fault = Order; at = Some (record { line = 1; column = 1 }) })
no_line k s e = record { before = []; rest = []; column = 1; is = e; accepted = tt; told = refl; why = (refl, inl (refl, refl)) }

-- the first fault of a file that is not too long
module _ {L : Type 0} (k : Kind L) (s : List ℕ) (f : RunFault) where
  unread_as : (x : FileFault) → f.fault ≡ x → length s ≤ 16384 → FirstFault k s f → WhyUnread k s f x
  unread_as TooLong e h first = absurd (subst (Why k first.before first.rest first.column) e first.why)
  unread_as BufferTooShort e h first = absurd (subst (Why k first.before first.rest first.column) e first.why)
  unread_as Grammar e h first = (h, first)
  unread_as Order e h first = (h, first)
  unread_as TooManyQuestions e h first = (h, first)
  unread_as (Sheet fault) e h first = (h, first)

  pub unread : length s ≤ 16384 → FirstFault k s f → Unread k s f
  unread = unread_as f.fault refl

-- a file that cannot be read cannot be run
module _ {L : Type 0} (k : Kind L) (s was : List ℕ) (f : RunFault) where
  faulty_as : (x : FileFault) → WhyUnread k s f x → WhyNot k s was f x
  faulty_as TooLong h = h
  faulty_as BufferTooShort h = absurd h
  faulty_as Grammar h = h
  faulty_as Order h = h
  faulty_as TooManyQuestions h = h
  faulty_as (Sheet fault) h = h

  pub faulty : Unread k s f → Faulty k s was f
  faulty = faulty_as f.fault

-- a file that was read to its end
module _ {L : Type 0} (k : Kind L) (s : List ℕ) (c : ClosedSheet L k) (judged : List Judged) (read : FileRead k s c judged) where
  text_is : sheet_text (closed_list c) judged ≡ ran_text read.records
  text_is =
      let rs = read.records in
      let of = read.sheet_is in
      let places = places_of rs in
      let list : closed_list c ≡ tss (steps_of rs) places = listed_rows c ∙ ap (λ n. tss n (places_in c)) of.steps ∙ ap (tss (steps_of rs)) of.places in
      ap (λ t. (line (codes "M:") (length (closed_list c) ∷ []) ++ flat_map row_line (closed_list c)) ++ t) read.judges
      ∙ ap (λ rows. (line (codes "M:") (length rows ∷ []) ++ flat_map row_line rows) ++ flat_map outcome_line (map (outcome places rows) (asked_of rs))) list

  pub sheet_read : length s ≤ 16384 → SheetRead k s c
  sheet_read h = record { records = read.records; short = h; right = read.right; steps = read.sheet_is.steps; places = read.sheet_is.places }

  pub ran_well : (was : List ℕ) (n : ℕ) (is : List ℕ) → length s ≤ 16384 → Wrote (sheet_text (closed_list c) judged) (Ok n) was is → RanWell k s was n is
  ran_well was n is h w = record { records = read.records; short = h; right = read.right; long = w.0 ∙ ap length text_is; wrote = w.1 ∙ ap (λ t. t ++ drop n was) text_is }

  pub too_short : (was : List ℕ) (fault : FileFault) (is : List ℕ) (f : RunFault) → length s ≤ 16384 → Wrote (sheet_text (closed_list c) judged) (Err fault) was is → f ≡ record { fault = fault; at = None } → Faulty k s was f × (is ≡ was)
  too_short was fault is f h w e =
      let long : length was < length (ran_text read.records) = subst (λ t. length was < length t) text_is w.1 in
      let told : f ≡ record { fault = BufferTooShort; at = None } = e ∙ ap (λ (x : FileFault). record { fault = x; at = None }) w.0 in
      (subst (Faulty k s was) (sym told) (h, refl, (read.records, read.right, long)), w.2)

  -- what the printout and its refusal make of the run
  pub ran_so : (was is : List ℕ) (a : Result ℕ FileFault) (r : Result ℕ RunFault) → length s ≤ 16384 → Wrote (sheet_text (closed_list c) judged) a was is → MatchResult a (λ n. r ≡ Ok n) (λ e. IsErrAnd r (λ f. f ≡ record { fault = e; at = None })) → Ran k s was r is
  ran_so was is (Ok n) r short w h = subst (λ x. Ran k s was x is) (sym h) (ran_well was n is short w)
  ran_so was is (Err fault) r short w h = passed (λ x. Ran k s was x is) h (too_short was fault is _ short w refl)
