-- What certifying answers is what the walk says of the question, on a sheet whose ledger holds the rows of its places.
use Rattle.std.proofs.Common.{◌≡◌, ℕ, zero, suc, ◌+◌, ◌-◌, ◌<◌, List, [], ◌∷◌, ◌++◌, map, length, take, drop, replicate, ℤ, Some, None, Ok, Err, Result, sym, refl, ap, ◌∙◌, subst, inl, inr, arith}
use Rattle.std.proofs.Props.{props}
use Rattle.std.proofs.Math.Seq.{take-append_seam}
use Rattle.std.proofs.Math.Logic.{∥∥₁_elim}
use Rattle.std.proofs.lemmas.Bool.{lt-ltb, le-ltb}
use Rattle.ledger.specs.declared.Ledger.{Ghosts as Kind}
use Rattle.cycle_theory.specs.Nets.{Counts}
use Rattle.cycle_theory.specs.Method.{tabulate, tss}
use Rattle.cycle_theory.specs.Walk.{in_use, Outcome, certified, broken, too_large, stuck, walk, unbroken, outcome}
use Rattle.cycle_theory.specs.Questions.{Right}
use Rattle.cycle_theory.specs.Questions.{Certificate as Sums}
use Rattle.cycle_theory.proofs.Rows.{length_tabulate}
use Rattle.cycle_theory.proofs.WalkingNets.{outcome_right}
use Rattle.cycle_theory.proofs.WalkingWide.{SameRows, same_walk, same_unbroken}
use Rattle.certificate.specs.declared.certificate.Certificate.{Certificate}
use Rattle.certificate.specs.Shares.{coefficient, coefficients_of}
use Rattle.certificate.specs.Walked.{Walked}
use Rattle.inline_list.specs.Items.{items}
use Rattle.method.specs.declared.place.Place.{Place}
use Rattle.method.specs.Places.{effects_of}
use Rattle.method.specs.Stepping.{wide, written}
use Rattle.sheet.specs.declared.answer.Answer.TheVariants.{Certified, Broken, TooLarge}
use Rattle.sheet.specs.declared.fault.SheetFault.{SheetFault}
use Rattle.sheet.specs.declared.sheets.ClosedSheet.{ClosedSheet}
use Rattle.sheet.specs.Sheets.{places_in}
use Rattle.sheet.specs.Answers.{answer_of, coefficients_in}
use Rattle.sheet.specs.Asking.{Breaks}
use Rattle.sheet.specs.Certifying.{asking, unless_refused, list_after, Says, Certifying}
use Rattle.sheet.proofs.Held.{count_held}
use Rattle.sheet.proofs.Asking.{asked_long}
use Rattle.method.proofs.Widening.{at_wide}

-- zeros behind a row change nothing
in_use_zeros_behind : (x : Counts) (m : ℕ) → in_use x ≡ in_use (x ++ replicate m 0)
in_use_zeros_behind [] zero = refl
in_use_zeros_behind [] (suc m) = in_use_zeros_behind [] m
in_use_zeros_behind (zero ∷ x) m = in_use_zeros_behind x m
in_use_zeros_behind (suc c ∷ x) m = ap suc (in_use_zeros_behind x m)

same_written : (rows : List Counts) → SameRows rows (written rows)
same_written [] = tt
same_written (row ∷ rows) = (λ j. sym (at_wide row j), same_written rows)

walk_written : (rows : List Counts) (x : Counts) → walk rows x ≡ walk (written rows) (wide x)
walk_written rows x = same_walk rows (written rows) (same_written rows) x (wide x) (λ j. sym (at_wide x j)) (in_use_zeros_behind x (24 - length x))

unbroken_wide : (places : List (List ℤ)) (x : Counts) → unbroken places (wide x) ≡ unbroken places x
unbroken_wide places x = same_unbroken places (wide x) x (at_wide x)

-- what an outcome says of the question
says_right : (n : ℕ) (places : List (List ℤ)) (x list : List ℕ) (out : Outcome) → Right n places x out →
    Says n places x (list_after (coefficients_in out) list (Ok (answer_of out))) (Ok (answer_of out))
says_right n places x list (certified t cs) r = (
  r.0,
  subst (λ (ds : List ℕ). Sums t ds x (tss n places))
      (sym (ap (λ (m : ℕ). take m (cs ++ drop (length cs) list)) (sym r.1.one_each) ∙ take-append_seam cs (drop (length cs) list))) r.1,
)
says_right n places x list (broken place) r = r
says_right n places x list too_large r = r
says_right n places x list stuck r = absurd r

-- a question x on a closed sheet
module _ {L : Type 0} {k : Kind L} (c : ClosedSheet L k) (x list : List ℕ) (steps count : ℕ) (many : steps ≡ c.steps.n) (told : k.orderly c.rows → count ≡ length (k.rows c.rows)) where
  abbrev n : ℕ
  n = c.steps.n

  abbrev places : List (List ℤ)
  places = places_in c

  abbrev rows : List Counts
  rows = tss n places

  abbrev o : Outcome
  o = outcome places rows x

  asked : asking n (length rows) x (length list) ≡ asking steps count x (length list)
  asked =
      ap (λ (m : ℕ). asking n m x (length list)) (sym (count_held c count told)) ∙ ap (λ (m : ℕ). asking m count x (length list)) (sym many)

  -- refused before it is answered
  pub certifying_refused : (fault : SheetFault) → asking steps count x (length list) ≡ Err fault → Certifying c.steps.n (places_in c) x list (Err fault) list
  certifying_refused fault e = record {
    answered = sym (ap (λ (r : Result (Unit {0}) SheetFault). unless_refused r (answer_of o)) (asked ∙ e));
    left = refl;
    says = tt;
  }

  -- answered: the outcome of the question, and the list as that outcome leaves it
  module _ (ask : asking steps count x (length list) ≡ Ok tt) where
    right : Right n places x o
    right = outcome_right n places x (asked_long n (length rows) x (length list) (asked ∙ ask))

    answered_with : (out : Outcome) → o ≡ out → (list' : List ℕ) → list' ≡ list_after (coefficients_in out) list (Ok (answer_of out)) → Certifying n places x list (Ok (answer_of out)) list'
    answered_with out e list' after = record {
      answered = sym (ap (λ (r : Result (Unit {0}) SheetFault). unless_refused r (answer_of o)) (asked ∙ ask) ∙ ap (λ (u : Outcome). Ok (answer_of u)) e);
      left = after ∙ ap (λ (u : Outcome). list_after (coefficients_in u) list (Ok (answer_of out))) (sym e);
      says = subst (λ (l : List ℕ). Says n places x l (Ok (answer_of out))) (sym after) (says_right n places x list out (subst (Right n places x) e right));
    }

    -- the counts of x are those of a row, and the places looked at are those of the sheet
    module _ (counts : Counts) (is : counts ≡ wide x) (table : List Place) (all : table ≡ items c.places) where
      unbroken_is : unbroken (map effects_of table) counts ≡ unbroken places x
      unbroken_is = ap (λ (l : List Place). unbroken (map effects_of l) counts) all ∙ ap (unbroken places) is ∙ unbroken_wide places x

      long : length (map effects_of table) ≡ length places
      long = ap (λ (l : List Place). length (map effects_of l)) all

      -- a place is broken
      pub certifying_broken : (place : ℕ) → Breaks (map effects_of table) counts (Some place) → Certifying c.steps.n (places_in c) x list (Ok (Broken place)) list
      certifying_broken place b =
          let here : unbroken places x < length places = omega (arith, unbroken_is, long, b.0) in
          let at : unbroken places x + 1 ≡ place = omega (arith, unbroken_is, b.1) in
          let e : o ≡ broken place = rw (lt-ltb (unbroken places x) (length places) here) (ap broken at) in
          answered_with (broken place) e list refl

      module _ (none : Breaks (map effects_of table) counts None) where
        -- the walk over the rows that the ledger holds
        walk_held : o ≡ walk (k.rows c.rows) counts
        walk_held =
            let e : o ≡ walk rows x = rw (le-ltb (unbroken places x) (length places) (omega (arith, unbroken_is, long, none))) refl in
            e ∙ walk_written rows x ∙ ap (λ (rs : List Counts). walk rs (wide x)) (sym c.held.rows) ∙ ap (walk (k.rows c.rows)) (sym is)

        no_certificate : Walked k c.rows counts None → o ≡ too_large
        no_certificate w = ∥∥₁_elim c.held.order (hlevel props) (λ order. elim (w order) [
          | inl e ↦ walk_held ∙ e
          | inr e ↦ absurd (subst (Right n places x) (walk_held ∙ e) right)
        ])

        pub certifying_none : Walked k c.rows counts None → Certifying c.steps.n (places_in c) x list (Ok TooLarge) list
        certifying_none w = answered_with too_large (no_certificate w) list refl

        -- the certificate
        pub certifying_some :
            (found : Certificate) (multiplier : ℕ) → multiplier ≡ found.multiplier → (list' : List ℕ) → Walked k c.rows counts (Some found) →
            list' ≡ coefficients_of count found ++ drop count list → Certifying c.steps.n (places_in c) x list (Ok (Certified multiplier)) list'
        certifying_some found multiplier t list' w after =
            let cs : ℕ → List ℕ = λ m. tabulate m (coefficient found) in
            let e : o ≡ certified multiplier (cs count) =
            walk_held ∙ ∥∥₁_elim c.held.order (hlevel props) (λ order. w order ∙ ap (λ (m : ℕ). certified found.multiplier (cs m)) (sym (told order)))
            ∙ ap (λ (m : ℕ). certified m (cs count)) (sym t) in
            let long : length (cs count) ≡ count = length_tabulate count (coefficient found) in
            answered_with (certified multiplier (cs count)) e list' (after ∙ ap (λ (m : ℕ). cs count ++ drop m list) (sym long))
