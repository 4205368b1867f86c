-- Questions on the listed rows of a net: a cycle is never stuck (walk_goes_on), and every outcome says what it should (outcome_right).
use Rattle.std.proofs.Common.{◌≡◌, ℕ, zero, suc, ◌+◌, ◌<◌, ◌≤◌, Bool, false, not, ltb, ◌⊎◌, List, [], map, length, get_or, ℤ, pos, sym, refl, ap, ◌∙◌, subst, inl, inr, arith}
use Rattle.std.proofs.lemmas.Bool.{cases_Bool, cond-true, cond-false, both_ways, ltb-true, ltb-false, not_from_true}
use Rattle.std.proofs.lemmas.Grind.{common_steps}
use Rattle.cycle_theory.specs.Nets.{Counts, Mem, Place, sum, Cycle, Nonzero, Within}
use Rattle.cycle_theory.specs.Method.{is_zero, within, tss}
use Rattle.cycle_theory.specs.Flows.{flow}
use Rattle.cycle_theory.specs.Walk.{least_ratio, first_within, in_use, zeros, Walk, begun, chosen, round, fits, Outcome, certified, broken, too_large, stuck, walk_from, walk, unbroken}
use Rattle.cycle_theory.specs.Questions.{LeastRatio, FirstBroken, Right, RatioLeast, WalkGoesOn, OutcomeRight}
use Rattle.cycle_theory.proofs.Rows.{zeros?}
use Rattle.cycle_theory.proofs.Supports.{true_within}
use Rattle.cycle_theory.proofs.Balance.{cycle_part}
use Rattle.cycle_theory.proofs.Nets.{cycle_flows, flows_cycle}
use Rattle.cycle_theory.proofs.Theorems.{tss_minimal, tss_reaches}
use Rattle.cycle_theory.proofs.FirstFailing.{passes_before, fails_there, stops_before, mem_get_or}
use Rattle.cycle_theory.proofs.LeastRatios.{least_ratio_is_least}
use Rattle.cycle_theory.proofs.WalkingTests.{zeros_from, zeros_not, in_use_zeros}
use Rattle.cycle_theory.proofs.WalkingRounds.{length_left, left_combines}
use Rattle.cycle_theory.proofs.Walking.{chosen_within, round_fewer, walk_done, walk_one_round, walk_too_large, walk_certifies, never_broken}

pub ratio_least : RatioLeast
ratio_least row rest nz = grind (arith, least_ratio_is_least)

not_stuck : (o : Outcome) → ((t : ℕ) × (cs : List ℕ) × (o ≡ certified t cs)) ⊎ (o ≡ too_large) → o ≡ stuck → ⊥
not_stuck o (inl t) s = grind arith
not_stuck o (inr q) s = let m : ◌≡◌ {A = ℕ} 0 1 = cc in omega arith

module _ (n : ℕ) (places : List Place) where
  -- a cycle other than the zeros has a first row within it, and that row uses a step
  listed : (x : Counts) → Cycle n places x → Nonzero x → first_within x (tss n places) < length (tss n places)
  listed x c nz =
      let r : (row : Counts) × (Mem row (tss n places)) × Within row x = tss_reaches n places x c nz in
      stops_before (λ row. not (within row x)) [] (tss n places) r.0 r.1 (not_from_true (within r.0 x) (true_within r.0 x r.2))

  module _ (w : Walk) (c : Cycle n places w.rest) (nz : Nonzero w.rest) where
    row_listed : Mem (chosen (tss n places) w) (tss n places)
    row_listed = grind (arith, mem_get_or, listed)

    row_least : LeastRatio (chosen (tss n places) w) w.rest (least_ratio (chosen (tss n places) w) w.rest)
    row_least = grind (arith, ratio_least, tss_minimal, row_listed)

    -- what a round leaves of it is a cycle
    rest_cycle : Cycle n places (round (tss n places) w).rest
    rest_cycle =
        let r = least_ratio (chosen (tss n places) w) w.rest in
        flows_cycle n places (round (tss n places) w).rest (length_left r.bottom w.rest r.top (chosen (tss n places) w) ∙ c.long)
        (cycle_part r.bottom w.rest 1 (round (tss n places) w).rest r.top (chosen (tss n places) w)
        (left_combines (chosen (tss n places) w) w.rest (chosen_within (tss n places) w.rest (listed w.rest c nz)) r row_least)
        (map flow places) (omega arith) (cycle_flows n places w.rest c)
        (cycle_flows n places (chosen (tss n places) w) (((tss_minimal n places).exactly (chosen (tss n places) w)).0 row_listed).cycle))

  goes_on : (k : ℕ) (w : Walk) → in_use w.rest ≤ k → Cycle n places w.rest → walk_from k (tss n places) w ≡ stuck → ⊥
  goes_on zero w h c e = grind (arith, walk_done, zeros_from, in_use_zeros)
  goes_on (suc k) w h c e = elim (zeros? w.rest) [
    | inl z ↦ not_stuck (walk_from (suc k) (tss n places) w) (inl (w.multiplier, w.coefficients, walk_done (suc k) (tss n places) w (zeros_from w.rest (λ j l. z j)))) e
    | inr nz ↦
        let f : zeros w.rest ≡ false = zeros_not w.rest nz in
        let b : 0 < (least_ratio (chosen (tss n places) w) w.rest).bottom = (row_least w c nz).positive in
        elim (cases_Bool (fits (round (tss n places) w))) [
          | inl y ↦
              let less = round_fewer (tss n places) w b in
              goes_on k (round (tss n places) w) (omega (arith, less)) (rest_cycle w c nz) (sym (walk_one_round k (tss n places) w f b y) ∙ e)
          | inr g ↦ not_stuck (walk_from (suc k) (tss n places) w) (inr (walk_too_large k (tss n places) w f b g)) e
        ]
  ]

pub walk_goes_on : WalkGoesOn
walk_goes_on n places x c e = grind (arith, goes_on)

-- a sum that fails the test for 0 is not 0
other_sum : (z : ℤ) → is_zero z ≡ false → z ≡ pos 0 → ⊥
other_sum z f e = both_ways (is_zero z) f (ap is_zero e)

module _ (places : List Place) (x : Counts) where
  abbrev holds : Place → Bool
  holds p = is_zero (sum p x)

  -- a place that breaks
  first_broken : unbroken places x < length places → FirstBroken places x (unbroken places x + 1)
  first_broken h = grind (arith, common_steps, fails_there, passes_before)

  no_cycle : (n : ℕ) → unbroken places x < length places → Cycle n places x → ⊥
  no_cycle n h c =
      other_sum (sum (get_or places (unbroken places x) []) x) (fails_there holds [] places h)
      (c.stays (get_or places (unbroken places x) []) (mem_get_or places (unbroken places x) [] h))

  -- all places hold
  all_hold : length places ≤ unbroken places x → (p : Place) → Mem p places → sum p x ≡ pos 0
  all_hold h p m = grind (arith, stops_before)

pub outcome_right : OutcomeRight
outcome_right n places x long = elim (cases_Bool (ltb (unbroken places x) (length places))) [
  | inl t ↦
      let h : unbroken places x < length places = ltb-true (unbroken places x) (length places) t in
      subst (Right n places x) (sym (cond-true (ltb (unbroken places x) (length places)) (broken (unbroken places x + 1)) (walk (tss n places) x) t))
      (no_cycle places x n h, first_broken places x h)
  | inr f ↦
      let c : Cycle n places x = record { long = long; stays = all_hold places x (ltb-false (unbroken places x) (length places) f) } in
      subst (Right n places x) (sym (cond-false (ltb (unbroken places x) (length places)) (broken (unbroken places x + 1)) (walk (tss n places) x) f))
      (walked (walk (tss n places) x) refl c)
]
  where
    walked : (o : Outcome) → walk (tss n places) x ≡ o → Cycle n places x → Right n places x o
    walked (certified t cs) e c = (c, (walk_certifies (tss n places) x t cs e).0)
    walked (broken k) e c = absurd (never_broken (in_use x) (tss n places) (begun (tss n places) x) k e)
    walked too_large e c = c
    walked stuck e c = walk_goes_on n places x c e
