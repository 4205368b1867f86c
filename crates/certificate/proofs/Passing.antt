-- One pass over the rows is the walk: at each row, what the code has in hand is a state of the walk, and no row before can be taken any more.
use Rattle.std.proofs.Common.{◌≡◌, ℕ, ◌+◌, ◌-◌, ◌*◌, ◌<◌, ◌≤◌, true, false, ◌&&◌, leb, ◌⊎◌, List, [], ◌∷◌, ◌++◌, length, get_or, Bool, Some, None, Ok, Err, Result, sym, ap, ◌∙◌, subst, inl, inr, eq-zero-or-pos, arith, below_more}
use Rattle.std.specs.Bool.{then_some}
use Rattle.std.specs.Result.{result_ok}
use Rattle.std.proofs.lemmas.Bool.{and_from, and_left, and_right, le-leb, lt-leb}
use Rattle.ledger.specs.declared.row.Row.{Row}
use Rattle.ledger.specs.declared.fault.LedgerFault.{LedgerFault}
use Rattle.ledger.specs.Calls.{Reads}
use Rattle.cycle_theory.specs.Nets.{Counts}
use Rattle.cycle_theory.specs.Method.{within, tabulate}
use Rattle.cycle_theory.specs.Walk.{most, small, least_ratio, left, zeros, taken, fits, begun, certified, too_large, stuck, walk}
use Rattle.cycle_theory.specs.Walk as theory
use Rattle.cycle_theory.proofs.WalkingTests.{in_use_pos}
use Rattle.cycle_theory.proofs.Walking.{walk_on, walk_over, nothing_within, row_without_steps, round_too_large, round_leads_on, round_moves_on}
use Rattle.certificate.specs.declared.certificate.Certificate.{Certificate}
use Rattle.certificate.specs.declared.round.Walk.{Walk}
use Rattle.inline_list.specs.Items.{items}
use Rattle.certificate.specs.declared.certificate.Share.{Share}
use Rattle.certificate.specs.Shares.{share, coefficients_of}
use Rattle.certificate.specs.Extending.{times, all_small, Extended}
use Rattle.certificate.specs.Rounds.{Begun, Round, Took}
use Rattle.certificate.specs.Walked.{Tells}
use Rattle.certificate.proofs.Coefficients.{Rising, Before, before_last, rising_last, rows_of, rows_more, coefficients_raised, raised_small, raised_top_large, raised_large, no_coefficients}
use Rattle.certificate.proofs.Rounds.{Room, begun_room, round_room}

-- what the code has in hand, over m rows
abbrev pub walk_of : ℕ → Walk → theory.Walk
walk_of m v = record { rest = v.rest.counts; multiplier = v.certificate.multiplier; coefficients = coefficients_of m v.certificate }

pub record Passing (rows : List Counts) (x : Counts) (i : ℕ) (v : Walk) : Type 0 where
  pub goes : walk_on rows (walk_of (length rows) v) ≡ walk rows x
  pub passed : (h : ℕ) → h < i → within (get_or rows h []) v.rest.counts ≡ false
  pub before : Before i (rows_of (items v.certificate.shares))
  pub rising : Rising (rows_of (items v.certificate.shares))
  pub room : Room v

abbrev as_walk : Counts → ℕ → List ℕ → theory.Walk
as_walk rest t cs = record { rest = rest; multiplier = t; coefficients = cs }

-- the begin
pub begun_passing : (rows : List Counts) (x : Counts) (v : Walk) → Begun x v → Passing rows x 0 v
begun_passing rows x v b =
    let c : Certificate = v.certificate in
    let none : length (rows_of (items c.shares)) ≡ 0 = ap (λ q. length (rows_of q)) b.certificate.shares in
    let cs : coefficients_of (length rows) c ≡ (begun rows x).coefficients =
    ap (λ (q : List Share). tabulate (length rows) (share q)) b.certificate.shares ∙ no_coefficients (length rows) in
    let same : walk_of (length rows) v ≡ begun rows x =
    ap (λ (q : Counts). as_walk q c.multiplier (coefficients_of (length rows) c)) b.rest
    ∙ ap (λ (t : ℕ). as_walk x t (coefficients_of (length rows) c)) b.certificate.multiplier
    ∙ ap (λ (q : List ℕ). as_walk x 1 q) cs in
    record {
      goes = ap (walk_on rows) same;
      passed = λ h l. absurd (omega (arith, l));
      before = λ h l. absurd (omega (arith, l, none));
      rising = λ i h lt l. absurd (omega (arith, l, none));
      room = begun_room x v b;
    }

module _ (rows : List Counts) (x : Counts) (i : ℕ) (v : Walk) (s : Passing rows x i v) where
  -- nothing is left
  pub pass_over : zeros v.rest.counts ≡ true → walk rows x ≡ certified v.certificate.multiplier (coefficients_of (length rows) v.certificate)
  pass_over z = sym s.goes ∙ walk_over rows (walk_of (length rows) v) z

  -- all rows were passed
  pub pass_stuck : zeros v.rest.counts ≡ false → length rows ≤ i → walk rows x ≡ stuck
  pass_stuck f all = sym s.goes ∙ nothing_within rows (walk_of (length rows) v) f (λ h l. s.passed h (omega (arith, all, l)))

  -- the answer after the last row
  pub pass_end : length rows ≤ i → (done : Bool) → done ≡ zeros v.rest.counts → Tells rows x (then_some done v.certificate)
  pass_end all true e = pass_over (sym e)
  pass_end all false e = inr (pass_stuck (sym e) all)

  module _ (row : Counts) (is : row ≡ get_or rows i []) where
    -- a row that is not within the rest
    pub pass_by : within row v.rest.counts ≡ false → Passing rows x (i + 1) v
    pass_by f = record {
      goes = s.goes;
      passed = below_more (λ h. within (get_or rows h []) v.rest.counts ≡ false) i s.passed (ap (λ (r : Counts). within r v.rest.counts) (sym is) ∙ f);
      before = λ h l. let q = s.before h l in omega (arith, q);
      rising = s.rising;
      room = s.room;
    }

    module _ (here : i < length rows) (f : zeros v.rest.counts ≡ false) (t : within row v.rest.counts ≡ true) where
      abbrev w : theory.Walk
      w = walk_of (length rows) v

      abbrev p : ℕ
      p = (least_ratio row v.rest.counts).bottom

      abbrev s' : ℕ
      s' = (least_ratio row v.rest.counts).top

      abbrev shares : List Share
      shares = items v.certificate.shares

      -- the state after the round, part by part
      fits_parts : p * v.certificate.multiplier ≤ most → s' ≤ most → all_small (times p shares) ≡ true → small (left p v.rest.counts s' row) ≡ true → fits (taken i row w) ≡ true
      fits_parts a b c d =
          and_from (leb (p * v.certificate.multiplier) most) (small (taken i row w).coefficients && small (taken i row w).rest) (le-leb (p * v.certificate.multiplier) most a)
          (and_from (small (taken i row w).coefficients) (small (taken i row w).rest) (raised_small (length rows) i s' p shares here s.before b c) d)

      coefficients_large : small (taken i row w).coefficients ≡ false → fits (taken i row w) ≡ false
      coefficients_large g =
          and_right (leb (p * v.certificate.multiplier) most) (small (taken i row w).coefficients && small (taken i row w).rest)
          (and_left (small (taken i row w).coefficients) (small (taken i row w).rest) g)

      rest_large : small (left p v.rest.counts s' row) ≡ false → fits (taken i row w) ≡ false
      rest_large g =
          and_right (leb (p * v.certificate.multiplier) most) (small (taken i row w).coefficients && small (taken i row w).rest)
          (and_right (small (taken i row w).coefficients) (small (taken i row w).rest) g)

      limit_passed : Extended i s' p v.certificate None → fits (taken i row w) ≡ false
      limit_passed (inl (inl a)) = and_left (leb (p * v.certificate.multiplier) most) (small (taken i row w).coefficients && small (taken i row w).rest) (lt-leb (p * v.certificate.multiplier) most a)
      limit_passed (inl (inr c)) = coefficients_large (raised_large (length rows) i s' p shares here s.before s.rising c)
      limit_passed (inr (inl b)) = coefficients_large (raised_top_large (length rows) i s' p shares here s.before b)
      limit_passed (inr (inr full)) = let some = in_use_pos v.rest.counts f in let room = s.room in absurd (omega (arith, some, room, full))

      -- a round that cannot be made ends the walk
      pub pass_ends : Took i row v None → (walk rows x ≡ too_large) ⊎ (walk rows x ≡ stuck)
      pass_ends (inl e) = inr (sym s.goes ∙ row_without_steps rows w f i row here is s.passed t e)
      pass_ends (inr g) = elim (eq-zero-or-pos p) [
        | inl e ↦ inr (sym s.goes ∙ row_without_steps rows w f i row here is s.passed t e)
        | inr h ↦ inl (sym s.goes ∙ round_too_large rows w f i row here is s.passed t h (elim g [ inl a ↦ limit_passed a | inr b ↦ rest_large b ]))
      ]

      -- a round leads on
      module _ (v' : Walk) (r : Round i row (least_ratio row v.rest.counts) v v') where
        coefficients_are : coefficients_of (length rows) v'.certificate ≡ (taken i row w).coefficients
        coefficients_are =
            ap (λ (q : List Share). tabulate (length rows) (share q)) r.grown.shares ∙ coefficients_raised (length rows) i s' p shares here s.before

        state_is : walk_of (length rows) v' ≡ taken i row w
        state_is =
            ap (λ (q : Counts). as_walk q v'.certificate.multiplier (coefficients_of (length rows) v'.certificate)) r.rest
            ∙ ap (λ (m : ℕ). as_walk (taken i row w).rest m (coefficients_of (length rows) v'.certificate)) r.grown.multiplier
            ∙ ap (λ (q : List ℕ). as_walk (taken i row w).rest (taken i row w).multiplier q) coefficients_are

        within_limit : fits (taken i row w) ≡ true
        within_limit = fits_parts r.grown.low r.grown.low_new r.grown.low_coefficients r.small_rest

        rows_are : rows_of (items v'.certificate.shares) ≡ rows_of shares ++ i ∷ []
        rows_are = ap rows_of r.grown.shares ∙ rows_more p i s' shares

        pub pass_on : Passing rows x (i + 1) v'
        pass_on = record {
          goes = ap (walk_on rows) state_is ∙ sym (round_leads_on rows w f i row here is s.passed t r.positive within_limit) ∙ s.goes;
          passed = λ h l. ap (within (get_or rows h [])) r.rest ∙ round_moves_on rows w f i row here is s.passed t r.positive h (omega (arith, l));
          before = subst (Before (i + 1)) (sym rows_are) (before_last i (rows_of shares) s.before);
          rising = subst Rising (sym rows_are) (rising_last i (rows_of shares) s.before s.rising);
          room = round_room i row v v' t s.room r;
        }

-- the row that is read
pub held_row : (rows : List Counts) (i : ℕ) (r : Result Row LedgerFault) (row : Row) → Reads rows (i + 1) r → result_ok r ≡ Some row →
    (i < length rows) × (row.counts ≡ get_or rows i [])
held_row rows i (Ok held) row r e =
    let l = r.0.1 in
    let same : held ≡ row = cc in
    let first : i + 1 - 1 ≡ i = omega arith in
    (omega (arith, l), sym (ap (λ (h : Row). h.counts) same) ∙ r.1 ∙ ap (λ (k : ℕ). get_or rows k []) first)
held_row rows i (Err f) row r e = absurd (cc)
