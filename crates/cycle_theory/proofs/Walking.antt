-- The walk as a whole: what is certified is a certificate (walk_certifies), more rounds change nothing (walk_ends), and a round leads on (round_leads_on).
use Rattle.std.proofs.Common.{rules, ◌≡◌, ℕ, zero, suc, ◌+◌, ◌-◌, ◌*◌, ◌<◌, ◌≤◌, Bool, true, false, cond, not, eqb, ◌⊎◌, List, [], map, length, get_or, sym, ap, ◌∙◌, subst, inl, inr, eq-zero-or-pos, mul-pos, arith}
use Rattle.std.proofs.lemmas.List.{get_or_past, length-map}
use Rattle.std.proofs.lemmas.Bool.{cases_Bool, not_from_false}
use Rattle.std.proofs.lemmas.Grind.{common_steps}
use Rattle.cycle_theory.specs.Nets.{Counts, at, Within}
use Rattle.cycle_theory.specs.Method.{within}
use Rattle.cycle_theory.specs.Theorems.{mixed}
use Rattle.cycle_theory.specs.Walk.{least_ratio, first_within, in_use, zeros, Walk, begun, taken, chosen, round, fits, Outcome, certified, broken, too_large, stuck, walk_from}
use Rattle.cycle_theory.specs.Questions.{LeastRatio, Certificate, WalkCertifies, WalkEnds, WalkOnce, WalkZeros}
use Rattle.cycle_theory.proofs.Rows.{split}
use Rattle.cycle_theory.proofs.Supports.{within_true, true_within}
use Rattle.cycle_theory.proofs.FirstFailing.{passes_before, fails_there, first_failing, none_failing, passes_at_least}
use Rattle.cycle_theory.proofs.LeastRatios.{least_ratio_is_least}
use Rattle.cycle_theory.proofs.WalkingTests.{zeros_from, zeros_at, in_use_zeros, in_use_pos}
use Rattle.cycle_theory.proofs.WalkingRounds.{is_least, left_within, uses_fewer, taken_not_within, left_combines}
use Rattle.cycle_theory.proofs.WalkingSums.{mixed_times, mixed_add, mixed_none, length_add_at, in_use_times, in_use_add_at, in_use_none}

-- the choice of a row
no_ratio : (rest : Counts) → (least_ratio [] rest).bottom ≡ 0
no_ratio rest = grind (arith, least_ratio_is_least)

module _ (rows : List Counts) (rest : Counts) where
  abbrev passed : Counts → Bool
  passed row = not (within row rest)

  -- a row with a ratio stands in the list
  pub chosen_listed : 0 < (least_ratio (get_or rows (first_within rest rows) []) rest).bottom → first_within rest rows < length rows
  chosen_listed h = grind (arith, get_or_past, no_ratio)

  -- it is within the rest
  pub chosen_within : first_within rest rows < length rows → Within (get_or rows (first_within rest rows) []) rest
  chosen_within h = grind (arith, within_true, fails_there)

  -- no row before it is
  pub before_not_within : (i : ℕ) → i < first_within rest rows → within (get_or rows i []) rest ≡ false
  before_not_within i h = grind (arith, passes_before)

  -- the first row within the rest is the chosen one
  pub first_is_chosen : (k : ℕ) → k < length rows → ((i : ℕ) → i < k → within (get_or rows i []) rest ≡ false) → within (get_or rows k []) rest ≡ true → first_within rest rows ≡ k
  first_is_chosen k h before t = grind (arith, first_failing)

  pub none_is_chosen : ((i : ℕ) → i < length rows → within (get_or rows i []) rest ≡ false) → (least_ratio (get_or rows (first_within rest rows) []) rest).bottom ≡ 0
  none_is_chosen all =
      let e : first_within rest rows ≡ length rows = none_failing passed [] rows (λ i l. not_from_false (within (get_or rows i []) rest) (all i l)) in
      ap (λ (row : Counts). (least_ratio row rest).bottom) (get_or_past rows (first_within rest rows) [] (omega (arith, e))) ∙ no_ratio rest

-- a row that is not within the rest is not within what is left of it
pub stays_out : (row rest less : Counts) → Within less rest → within row rest ≡ false → within row less ≡ false
stays_out row rest less sub f = grind (arith, true_within, within_true)

-- one round of a walk
module _ (rows : List Counts) (w : Walk) (h : 0 < (least_ratio (chosen rows w) w.rest).bottom) where
  listed : first_within w.rest rows < length rows
  listed = chosen_listed rows w.rest h

  inside : Within (chosen rows w) w.rest
  inside = chosen_within rows w.rest listed

  lowest_ratio : LeastRatio (chosen rows w) w.rest (least_ratio (chosen rows w) w.rest)
  lowest_ratio = is_least (chosen rows w) w.rest h

  pub round_fewer : in_use (round rows w).rest < in_use w.rest
  round_fewer = uses_fewer (chosen rows w) w.rest inside (least_ratio (chosen rows w) w.rest) lowest_ratio

  -- every row up to the one that was taken is out from now on
  pub round_passes : (i : ℕ) → i < suc (first_within w.rest rows) → within (get_or rows i []) (round rows w).rest ≡ false
  round_passes i l = elim (split (first_within w.rest rows) i) [
    | inr lt ↦ stays_out (get_or rows i []) w.rest (round rows w).rest
        (left_within (least_ratio (chosen rows w) w.rest).bottom w.rest (least_ratio (chosen rows w) w.rest).top (chosen rows w))
        (before_not_within rows w.rest i lt)
    | inl ge ↦
        let e : first_within w.rest rows ≡ i = omega (arith, ge, l) in
        subst (λ (k : ℕ). within (get_or rows k []) (round rows w).rest ≡ false) e
        (taken_not_within (chosen rows w) w.rest inside (least_ratio (chosen rows w) w.rest) lowest_ratio)
  ]

  pub round_later : first_within w.rest rows < first_within (round rows w).rest rows
  round_later =
      passes_at_least (λ row. not (within row (round rows w).rest)) [] rows (suc (first_within w.rest rows)) listed
      (λ i l. not_from_false (within (get_or rows i []) (round rows w).rest) (round_passes i l))

pub walk_once : WalkOnce
walk_once rows w h = round_later rows w h

-- what a walk has in hand adds up to the question
pub record Adds (rows : List Counts) (x : Counts) (w : Walk) : Type 0 where
  pub positive : 1 ≤ w.multiplier
  pub one_each : length w.coefficients ≡ length rows
  pub sums : (j : ℕ) → w.multiplier * at x j ≡ at w.rest j + mixed w.coefficients rows j
  pub few : in_use w.coefficients + in_use w.rest ≤ in_use x

begun_adds : (rows : List Counts) (x : Counts) → Adds rows x (begun rows x)
begun_adds rows x = grind (arith, common_steps, mixed_none, in_use_none)

round_adds : (rows : List Counts) (x : Counts) (w : Walk) → 0 < (least_ratio (chosen rows w) w.rest).bottom → Adds rows x w → Adds rows x (round rows w)
round_adds rows x w h a =
    let k : ℕ = first_within w.rest rows in
    let p : ℕ = (least_ratio (chosen rows w) w.rest).bottom in
    let s : ℕ = (least_ratio (chosen rows w) w.rest).top in
    let cs : List ℕ = map (λ c. p * c) w.coefficients in
    let listed : k < length rows = chosen_listed rows w.rest h in
    let long : length cs ≡ length rows = length-map w.coefficients (λ c. p * c) ∙ a.one_each in
    record {
      positive = mul-pos h a.positive;
      one_each = length_add_at k s cs ∙ long;
      sums = λ j.
          let q : p * at w.rest j ≡ 1 * at (round rows w).rest j + s * at (chosen rows w) j =
          left_combines (chosen rows w) w.rest (chosen_within rows w.rest listed) (least_ratio (chosen rows w) w.rest) (is_least (chosen rows w) w.rest h) j in
          omega (arith, q, ap (λ (m : ℕ). p * m) (a.sums j), mixed_add k s cs rows j long listed, mixed_times p w.coefficients rows j);
      few =
          let f = round_fewer rows w h in
          let g = in_use_add_at k s cs in
          let t = in_use_times p w.coefficients in
          let b = a.few in
          omega (arith, f, g, t, b);
    }

-- the outcome of a walk, by cases
pub walk_done : (k : ℕ) (rows : List Counts) (w : Walk) → zeros w.rest ≡ true → walk_from k rows w ≡ certified w.multiplier w.coefficients
unfolding walk_from
walk_done zero rows w t = grind arith
walk_done (suc k) rows w t = grind arith

walk_out : (rows : List Counts) (w : Walk) → zeros w.rest ≡ false → walk_from 0 rows w ≡ stuck
unfolding walk_from
walk_out rows w f = grind arith

module _ (k : ℕ) (rows : List Counts) (w : Walk) (f : zeros w.rest ≡ false) where
  walk_more : walk_from (suc k) rows w ≡ cond (eqb (least_ratio (chosen rows w) w.rest).bottom 0) stuck (cond (fits (round rows w)) (walk_from k rows (round rows w)) too_large)
  unfolding walk_from
  walk_more = grind arith

  walk_stuck : (least_ratio (chosen rows w) w.rest).bottom ≡ 0 → walk_from (suc k) rows w ≡ stuck
  walk_stuck e = grind (arith, walk_more)

  walk_takes : 0 < (least_ratio (chosen rows w) w.rest).bottom → walk_from (suc k) rows w ≡ cond (fits (round rows w)) (walk_from k rows (round rows w)) too_large
  walk_takes h = grind (arith, walk_more)

  pub walk_too_large : 0 < (least_ratio (chosen rows w) w.rest).bottom → fits (round rows w) ≡ false → walk_from (suc k) rows w ≡ too_large
  walk_too_large h g = grind (arith, walk_takes)

  pub walk_one_round : 0 < (least_ratio (chosen rows w) w.rest).bottom → fits (round rows w) ≡ true → walk_from (suc k) rows w ≡ walk_from k rows (round rows w)
  walk_one_round h t = grind (arith, walk_takes)

-- as many rounds as the rest uses steps are as good as more
same_rounds : (k m : ℕ) (rows : List Counts) (w : Walk) → in_use w.rest ≤ k → in_use w.rest ≤ m → walk_from k rows w ≡ walk_from m rows w
same_rounds zero m rows w hk hm = grind (arith, zeros_from, in_use_zeros, walk_done)
same_rounds (suc k) zero rows w hk hm = grind (arith, zeros_from, in_use_zeros, walk_done)
same_rounds (suc k) (suc m) rows w hk hm = elim (cases_Bool (zeros w.rest)) [
  | inl t ↦ walk_done (suc k) rows w t ∙ sym (walk_done (suc m) rows w t)
  | inr f ↦ elim (eq-zero-or-pos (least_ratio (chosen rows w) w.rest).bottom) [
    | inl e ↦ walk_stuck k rows w f e ∙ sym (walk_stuck m rows w f e)
    | inr h ↦
        let less = round_fewer rows w h in
        walk_takes k rows w f h
        ∙ ap (λ (o : Outcome). cond (fits (round rows w)) o too_large) (same_rounds k m rows (round rows w) (omega (arith, less)) (omega (arith, less)))
        ∙ sym (walk_takes m rows w f h)
  ]
]

pub walk_ends : WalkEnds
walk_ends rows x rounds h = grind (arith, same_rounds)

pub walk_zeros : WalkZeros
walk_zeros rows x z = grind (arith, walk_done, zeros_from)

-- what is certified adds up to the question
abbrev Certified : List Counts → Counts → ℕ → List ℕ → Type 0
Certified rows x t cs = Certificate t cs x rows × (in_use cs ≤ in_use x)

done_adds : (k : ℕ) (rows : List Counts) (x : Counts) (w : Walk) (t : ℕ) (cs : List ℕ) → Adds rows x w → zeros w.rest ≡ true → walk_from k rows w ≡ certified t cs → Certified rows x t cs
done_adds k rows x w t cs a z e = grind (arith, walk_done, zeros_at)

not_certified : (o : Outcome) (t : ℕ) (cs : List ℕ) → (o ≡ stuck) ⊎ (o ≡ too_large) → o ≡ certified t cs → ⊥
not_certified o t cs (inl s) e = let n : ◌≡◌ {A = ℕ} 0 1 = cc in omega arith
not_certified o t cs (inr s) e = let n : ◌≡◌ {A = ℕ} 0 1 = cc in omega arith

not_broken : (o : Outcome) → ((t : ℕ) × (cs : List ℕ) × (o ≡ certified t cs)) ⊎ ((o ≡ stuck) ⊎ (o ≡ too_large)) → (place : ℕ) → o ≡ broken place → ⊥
not_broken o (inl t) place e = grind arith
not_broken o (inr (inl s)) place e = let n : ◌≡◌ {A = ℕ} 0 1 = cc in omega arith
not_broken o (inr (inr s)) place e = let n : ◌≡◌ {A = ℕ} 0 1 = cc in omega arith

certified_adds : (k : ℕ) (rows : List Counts) (x : Counts) (w : Walk) (t : ℕ) (cs : List ℕ) → Adds rows x w → walk_from k rows w ≡ certified t cs → Certified rows x t cs
certified_adds zero rows x w t cs a e = grind (arith, done_adds, walk_out)
certified_adds (suc k) rows x w t cs a e = elim (cases_Bool (zeros w.rest)) [
  | inl z ↦ done_adds (suc k) rows x w t cs a z e
  | inr f ↦ elim (eq-zero-or-pos (least_ratio (chosen rows w) w.rest).bottom) [
    | inl n ↦ absurd (not_certified (walk_from (suc k) rows w) t cs (inl (walk_stuck k rows w f n)) e)
    | inr h ↦ elim (cases_Bool (fits (round rows w))) [
      | inl y ↦ certified_adds k rows x (round rows w) t cs (round_adds rows x w h a) (sym (walk_one_round k rows w f h y) ∙ e)
      | inr g ↦ absurd (not_certified (walk_from (suc k) rows w) t cs (inr (walk_too_large k rows w f h g)) e)
    ]
  ]
]

pub walk_certifies : WalkCertifies
walk_certifies rows x t cs e = grind (arith, certified_adds, begun_adds)

-- a walk looks at no places
pub never_broken : (k : ℕ) (rows : List Counts) (w : Walk) (place : ℕ) → walk_from k rows w ≡ broken place → ⊥
never_broken zero rows w place e = grind (arith, walk_done, walk_out)
never_broken (suc k) rows w place e = elim (cases_Bool (zeros w.rest)) [
  | inl z ↦ not_broken (walk_from (suc k) rows w) (inl (w.multiplier, w.coefficients, walk_done (suc k) rows w z)) place e
  | inr f ↦ elim (eq-zero-or-pos (least_ratio (chosen rows w) w.rest).bottom) [
    | inl n ↦ not_broken (walk_from (suc k) rows w) (inr (inl (walk_stuck k rows w f n))) place e
    | inr h ↦ elim (cases_Bool (fits (round rows w))) [
      | inl y ↦ never_broken k rows (round rows w) place (sym (walk_one_round k rows w f h y) ∙ e)
      | inr g ↦ not_broken (walk_from (suc k) rows w) (inr (inr (walk_too_large k rows w f h g))) place e
    ]
  ]
]

-- the walk from a state on
abbrev pub walk_on : List Counts → Walk → Outcome
walk_on rows w = walk_from (in_use w.rest) rows w

pub walk_over : (rows : List Counts) (w : Walk) → zeros w.rest ≡ true → walk_on rows w ≡ certified w.multiplier w.coefficients
walk_over rows w z = walk_done (in_use w.rest) rows w z

-- a walk that is not over and comes to the row k, when no row before it is within the rest
module _ (rows : List Counts) (w : Walk) (f : zeros w.rest ≡ false) where
  rounds_left : (o : Outcome) → ((k : ℕ) → walk_from (suc k) rows w ≡ o) → walk_on rows w ≡ o
  rounds_left o all =
      let p = in_use_pos w.rest f in
      let e : in_use w.rest ≡ suc (in_use w.rest - 1) = omega (arith, p) in
      ap (λ (k : ℕ). walk_from k rows w) e ∙ all (in_use w.rest - 1)

  pub nothing_within : ((i : ℕ) → i < length rows → within (get_or rows i []) w.rest ≡ false) → walk_on rows w ≡ stuck
  nothing_within all = search (rules, rounds_left, walk_stuck, none_is_chosen)

  module _ (k : ℕ) (row : Counts) (here : k < length rows) (is : row ≡ get_or rows k []) (before : (i : ℕ) → i < k → within (get_or rows i []) w.rest ≡ false) (t : within row w.rest ≡ true) where
    first : first_within w.rest rows ≡ k
    first = grind (arith, first_is_chosen)

    chosen_row : chosen rows w ≡ row
    chosen_row = ap (λ (i : ℕ). get_or rows i []) first ∙ sym is

    round_takes : round rows w ≡ taken k row w
    round_takes = grind (arith, first)

    ratio_is : (least_ratio (chosen rows w) w.rest).bottom ≡ (least_ratio row w.rest).bottom
    ratio_is = grind (arith, chosen_row)

    pub row_without_steps : (least_ratio row w.rest).bottom ≡ 0 → walk_on rows w ≡ stuck
    row_without_steps e = rounds_left stuck (λ m. walk_stuck m rows w f (ratio_is ∙ e))

    module _ (h : 0 < (least_ratio row w.rest).bottom) where
      has_ratio : 0 < (least_ratio (chosen rows w) w.rest).bottom
      has_ratio = subst (λ (b : ℕ). 0 < b) (sym ratio_is) h

      pub round_too_large : fits (taken k row w) ≡ false → walk_on rows w ≡ too_large
      round_too_large g = rounds_left too_large (λ m. walk_too_large m rows w f has_ratio (ap fits round_takes ∙ g))

      pub round_leads_on : fits (taken k row w) ≡ true → walk_on rows w ≡ walk_on rows (taken k row w)
      round_leads_on y =
          let less : in_use (round rows w).rest < in_use w.rest = round_fewer rows w has_ratio in
          let p = in_use_pos w.rest f in
          let e : in_use w.rest ≡ suc (in_use w.rest - 1) = omega (arith, p) in
          ap (λ (m : ℕ). walk_from m rows w) e
          ∙ walk_one_round (in_use w.rest - 1) rows w f has_ratio (ap fits round_takes ∙ y)
          ∙ same_rounds (in_use w.rest - 1) (in_use (round rows w).rest) rows (round rows w) (omega (arith, less)) (omega arith)
          ∙ ap (walk_on rows) round_takes

      pub round_moves_on : (i : ℕ) → i < suc k → within (get_or rows i []) (taken k row w).rest ≡ false
      round_moves_on i l = grind (arith, round_passes, first)
