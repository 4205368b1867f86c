-- A step keeps the cover (stepped), and its rows can be had without cleaning (step_members).
use Rattle.std.proofs.Common.{◌≡◌, ℕ, ◌<◌, true, eqb, ltb, ◌↔◌, List, [], ◌∷◌, map, sym, refl, ap, ◌∙◌, subst, inl, inr, arith}
use Rattle.std.proofs.lemmas.Bool.{ltb-true, eqb-true}
use Rattle.cycle_theory.specs.Nets.{Counts, Mem, Within, Ascending}
use Rattle.cycle_theory.specs.Method.{keep, cleaned}
use Rattle.cycle_theory.specs.Theorems.{NoThird}
use Rattle.cycle_theory.specs.Flows.{Flow, gains, losses, Candidate, Cover, Reaches, pair_row, flow_pairs, flow_rows, flow_step, Born, Kept, Chosen}
use Rattle.cycle_theory.proofs.Members.{mem_left, mem_right, mem_append, mem_keep, keep_mem, mem_map, map_mem}
use Rattle.cycle_theory.proofs.Minimals.{unique, minimal_of_mem}
use Rattle.cycle_theory.proofs.Pairing.{born_candidate, born_covers}
use Rattle.cycle_theory.proofs.Cleaning.{mem_cleaned, cleaned_mem, cleaned_cover}
use Rattle.cycle_theory.proofs.Ascending.{ascending_ascends, mem_ascending, ascending_mem}
use Rattle.cycle_theory.proofs.ThirdRow.{first_row_within, second_row_within, within_pair, one_of_pair, no_third_of_kept, kept_of_no_third}

-- z is the row of a u and a v
abbrev Pair : Flow → List Counts → List Counts → Counts → Type 0
Pair p us vs z = (u : Counts) × (v : Counts) × (Mem u us) × (Mem v vs) × (z ≡ pair_row p u v)

mem_pairs : (p : Flow) (z : Counts) (us vs : List Counts) → Mem z (flow_pairs p us vs) → Pair p us vs z
mem_pairs p z [] vs m = absurd m
mem_pairs p z (u ∷ us) vs m = elim (mem_append z (map (pair_row p u) vs) (flow_pairs p us vs) m) [
  | inl q ↦
      let t : (v : Counts) × (Mem v vs) × (z ≡ pair_row p u v) = mem_map (pair_row p u) z vs q in
      (u, t.0, inl refl, t.1, t.2)
  | inr q ↦
      let t : Pair p us vs z = mem_pairs p z us vs q in
      (t.0, t.1, inr t.2, t.3, t.4)
]

pairs_mem : (p : Flow) (u v : Counts) (us vs : List Counts) → Mem u us → Mem v vs → Mem (pair_row p u v) (flow_pairs p us vs)
pairs_mem p u v [] vs mu mv = absurd mu
pairs_mem p u v (w ∷ us) vs (inl e) mv = grind (arith, mem_left, map_mem)
pairs_mem p u v (w ∷ us) vs (inr mu) mv = grind (arith, pairs_mem p u v us vs mu mv, mem_right)

-- the rows before cleaning are those that are born
module _ (p : Flow) (R : List Counts) where
  stay : List Counts
  stay = keep (λ x. eqb (gains p x) (losses p x)) R

  gaining : List Counts
  gaining = keep (λ u. ltb (losses p u) (gains p u)) R

  losing : List Counts
  losing = keep (λ v. ltb (gains p v) (losses p v)) R

  pub mem_flow_rows : (z : Counts) → Mem z (flow_rows p R) → Born p R z
  unfolding stay gaining losing
  mem_flow_rows z m = elim (mem_append z stay (flow_pairs p gaining losing) m) [
    | inl q ↦
        let t : Mem z R × (eqb (gains p z) (losses p z) ≡ true) = mem_keep (λ x. eqb (gains p x) (losses p x)) z R q in
        inl (t.0, eqb-true (gains p z) (losses p z) t.1)
    | inr q ↦
        let t : Pair p gaining losing z = mem_pairs p z gaining losing q in
        let mu : Mem t.0 R × (ltb (losses p t.0) (gains p t.0) ≡ true) = mem_keep (λ u. ltb (losses p u) (gains p u)) t.0 R t.2 in
        let mv : Mem t.1 R × (ltb (gains p t.1) (losses p t.1) ≡ true) = mem_keep (λ v. ltb (gains p v) (losses p v)) t.1 R t.3 in
        inr (t.0, t.1, mu.0, mv.0, ltb-true (losses p t.0) (gains p t.0) mu.1, ltb-true (gains p t.1) (losses p t.1) mv.1, t.4)
  ]

  pub flow_rows_mem : (z : Counts) → Born p R z → Mem z (flow_rows p R)
  unfolding stay gaining losing
  flow_rows_mem z (inl t) = grind (arith, mem_left, keep_mem)
  flow_rows_mem z (inr t) = grind (arith, mem_right, pairs_mem, keep_mem)

-- before cleaning, the rows reach the cycles of one place more
pub flow_rows_reach : (n : ℕ) (A : List Flow) (R : List Counts) → Cover n A R → (p : Flow) → Reaches n (p ∷ A) (flow_rows p R)
flow_rows_reach n A R i p = record {
  good = λ z m. born_candidate n A R i p z (mem_flow_rows p R z m);
  covers = λ x lx cx nx.
      let t : (z : Counts) × (Born p R z) × Within z x = born_covers n A R i p x lx cx nx in
      (t.0, flow_rows_mem p R t.0 t.1, t.2);
}

-- and cleaned they cover them
pub stepped : (n : ℕ) (A : List Flow) (R : List Counts) → Cover n A R → (p : Flow) → Cover n (p ∷ A) (flow_step p R) × Ascending (flow_step p R)
stepped n A R i p = (
  cleaned_cover n (p ∷ A) (flow_rows p R) (flow_step p R) (flow_rows_reach n A R i p)
      (λ z m. mem_cleaned (flow_rows p R) z (mem_ascending (cleaned (flow_rows p R)) z m))
      (λ z m k. ascending_mem (cleaned (flow_rows p R)) z (cleaned_mem (flow_rows p R) z m k)),
  ascending_ascends (cleaned (flow_rows p R)),
)

-- the row of a pair is kept just when there is no third row
pub third_row :
    (n : ℕ) (A : List Flow) (R : List Counts) → Cover n A R → (p : Flow) (u v : Counts) → Mem u R → Mem v R → losses p u < gains p u → gains p v < losses p v →
    Mem (pair_row p u v) (flow_step p R) ↔ NoThird R u v
third_row n A R i p u v mu mv hu hv = (
  λ m. no_third_of_kept n A R i p u v mu mv hu hv (λ z b. (mem_cleaned (flow_rows p R) (pair_row p u v) (mem_ascending (cleaned (flow_rows p R)) (pair_row p u v) m)).1 z (flow_rows_mem p R z b)),
  λ alone. ascending_mem (cleaned (flow_rows p R)) (pair_row p u v) (cleaned_mem (flow_rows p R) (pair_row p u v) (flow_rows_mem p R (pair_row p u v) (inr (u, v, mu, mv, hu, hv, refl)))
      (λ w m b. kept_of_no_third n A R i p u v mu mv hu hv alone w (mem_flow_rows p R w m) b)),
)

-- the rows after a step, with no cleaning: balanced rows are minimal, so they are kept; pairs are kept without a third row
pub step_members : (n : ℕ) (A : List Flow) (R : List Counts) → Cover n A R → (p : Flow) (z : Counts) → Mem z (flow_step p R) ↔ Chosen p R z
step_members n A R i p z = (there, back)
  where
    there : Mem z (flow_step p R) → Chosen p R z
    there m = go (mem_flow_rows p R z c.0)
      where
        c : Mem z (flow_rows p R) × Kept (flow_rows p R) z
        c = mem_cleaned (flow_rows p R) z (mem_ascending (cleaned (flow_rows p R)) z m)

        go : Born p R z → Chosen p R z
        go (inl t) = inl t
        go (inr t) = inr (
          t.0,
          t.1,
          t.2,
          t.3,
          t.4,
          t.5,
          no_third_of_kept n A R i p t.0 t.1 t.2 t.3 t.4 t.5
              (λ w b l. c.1 w (flow_rows_mem p R w b) (subst (λ (x : Counts). Within w x) (sym t.6) l) ∙ t.6),
          t.6,
        )

    back : Chosen p R z → Mem z (flow_step p R)
    back (inl t) =
        ascending_mem (cleaned (flow_rows p R)) z (cleaned_mem (flow_rows p R) z (flow_rows_mem p R z (inl t))
        (λ w m b.
        let g : Candidate n (p ∷ A) w = born_candidate n A R i p w (mem_flow_rows p R w m) in
        unique n A w z (record { long = g.long; cycle = g.cycle.1; nonzero = g.nonzero; primitive = g.primitive }) (minimal_of_mem n A R i z t.0) b))
    back (inr t) = subst (λ (x : Counts). Mem x (flow_step p R)) (sym t.7) ((third_row n A R i p t.0 t.1 t.2 t.3 t.4 t.5).1 t.6)

-- two pairs never give one row: the rows of the second pair stand within the first, so they are those of the first
pub pairs_apart :
    (n : ℕ) (A : List Flow) (R : List Counts) → Cover n A R → (p : Flow) (u v u' v' : Counts) → Mem u R → Mem v R → Mem u' R → Mem v' R →
    losses p u < gains p u → gains p v < losses p v → losses p u' < gains p u' → gains p v' < losses p v' →
    NoThird R u v → pair_row p u v ≡ pair_row p u' v' → (u ≡ u') × (v ≡ v')
pairs_apart n A R i p u v u' v' mu mv mu' mv' hu hv hu' hv' alone e = (
  sym (elim (one_of_pair n A R i p u v mu mv hu hv alone u' mu' (within_pair n A R i p u v mu mv hu hv u' (subst (λ (x : Counts). Within u' x) (sym e) (first_row_within n A R i p u' v' mu' mv' hu' hv')))) as (λ _. u' ≡ u) [
    | inl q ↦ q
    | inr q ↦ absurd (omega (arith, hv, hu', ap (gains p) q, ap (losses p) q))
  ]),
  sym (elim (one_of_pair n A R i p u v mu mv hu hv alone v' mv' (within_pair n A R i p u v mu mv hu hv v' (subst (λ (x : Counts). Within v' x) (sym e) (second_row_within n A R i p u' v' mu' mv' hu' hv')))) as (λ _. v' ≡ v) [
    | inr q ↦ q
    | inl q ↦ absurd (omega (arith, hu, hv', ap (gains p) q, ap (losses p) q))
  ]),
)

-- a pair never gives a row that was there: both its rows would be equal to it
pub pair_new :
    (n : ℕ) (A : List Flow) (R : List Counts) → Cover n A R → (p : Flow) (u v : Counts) → Mem u R → Mem v R →
    losses p u < gains p u → gains p v < losses p v → Mem (pair_row p u v) R → ⊥
pair_new n A R i p u v mu mv hu hv m =
    let eu : u ≡ pair_row p u v = i.apart u (pair_row p u v) mu m (first_row_within n A R i p u v mu mv hu hv) in
    let ev : v ≡ pair_row p u v = i.apart v (pair_row p u v) mv m (second_row_within n A R i p u v mu mv hu hv) in
    let e : u ≡ v = eu ∙ sym ev in
    omega (arith, hu, hv, ap (gains p) e, ap (losses p) e)
