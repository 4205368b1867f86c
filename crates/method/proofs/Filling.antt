-- One row more beside those made, in the ledger as long as there is room.
use Rattle.std.proofs.Common.{◌≡◌, ℕ, ◌+◌, cond, ◌⊎◌, ◌↔◌, List, [], ◌∷◌, Ok, Err, sum_by, sym, ap, ◌∙◌, subst, inl, inr, ⊎_elim, arith}
use Rattle.std.proofs.lemmas.List.Sums.{sum_by-cons}
use Rattle.std.proofs.lemmas.Bool.{cond_both}
use Rattle.cycle_theory.specs.Nets.{Counts, Mem}
use Rattle.cycle_theory.specs.Method.{before, insert}
use Rattle.cycle_theory.proofs.Ascending.{neither_before, Put, put}
use Rattle.ledger.specs.declared.Ledger.{Ghosts as Kind}
use Rattle.ledger.specs.declared.fault.LedgerFault.{LedgerFault}
use Rattle.ledger.specs.Rows.{Small}
use Rattle.method.specs.Ascents.{InPosition}
use Rattle.method.specs.Building.{Room, Filled, Grown}

-- the charges of a list with a new row in it
sum_insert : (charge : List ℕ → ℕ) (x : Counts) (l : List Counts) → (Mem x l → ⊥) → sum_by charge (insert x l) ≡ sum_by charge l + charge x
sum_insert charge x [] new = omega arith
sum_insert charge x (y ∷ l) new =
    let c = sum_by-cons charge y l in
    cond_both (before x y) (x ∷ y ∷ l) (cond (before y x) (y ∷ insert x l) (y ∷ l)) (λ m. sum_by charge m ≡ sum_by charge (y ∷ l) + charge x)
    (λ t. let a = sum_by-cons charge x (y ∷ l) in omega (arith, a))
    (λ s. cond_both (before y x) (y ∷ insert x l) (y ∷ l) (λ m. sum_by charge m ≡ sum_by charge (y ∷ l) + charge x)
    (λ t. let a = sum_by-cons charge y (insert x l) in let r = sum_insert charge x l (λ m. new (inr m)) in omega (arith, a, c, r))
    (λ t. absurd (new (inl (neither_before x y s t)))))

module _ {L : Type 0} (kind : Kind L) (x : Counts) (made : List Counts) (new : Mem x made → ⊥) where
  -- no room before, no room now
  pub filled_still : (l l' : L) (e : LedgerFault) → Filled kind made l (Err e) → Filled kind (insert x made) l' (Err e)
  filled_still l l' e f = (f.0, (let s = sum_insert kind.charge x made new in let h = f.1 in omega (arith, s, h)))

  pub filled_more : (l l' : L) → kind.rows l ≡ made → (r : Room) → InPosition kind l x l' r → Filled kind (insert x made) l' r
  filled_more l l' e (Ok _) k = k ∙ ap (insert x) e
  filled_more l l' e (Err _) k =
      let s = sum_insert kind.charge x made new in
      let r : sum_by kind.charge (kind.rows l) ≡ sum_by kind.charge made = ap (sum_by kind.charge) e in
      let h = k.1 in
      (k.0, omega (arith, s, r, h))

-- the rows made, by another name
module _ {L : Type 0} (kind : Kind L) (P Q : Counts → Type 0) (spare : L) (room : Room) (g : Grown kind P spare room) where
  pub grown_same : ((z : Counts) → P z ↔ Q z) → Grown kind Q spare room
  grown_same same = record {
    order = g.order;
    made = g.made;
    ascending = g.ascending;
    exactly = λ z. ((λ m. (same z).0 ((g.exactly z).0 m)), (λ q. (g.exactly z).1 ((same z).1 q)));
    small = g.small;
    filled = g.filled;
  }

  -- one row more
  pub grown_more : (x : Counts) (spare' : L) (room' : Room) → kind.orderly spare' → Small x → ((z : Counts) → ((z ≡ x) ⊎ P z) ↔ Q z) → Filled kind (insert x g.made) spare' room' → Grown kind Q spare' room'
  grown_more x spare' room' order small same filled =
      let t : Put x g.made (insert x g.made) = put x g.made g.ascending in
      record {
        order = order;
        made = insert x g.made;
        ascending = t.asc;
        exactly = λ z. (
          (λ m. (same z).0 (⊎_elim inl (λ k. inr ((g.exactly z).0 k)) (t.out z m))),
          (λ q. ⊎_elim (λ e. subst (λ (y : Counts). Mem y (insert x g.made)) (sym e) t.now) (λ k. t.still z ((g.exactly z).1 k)) ((same z).1 q)),
        );
        small = λ z m. ⊎_elim (λ e. subst Small (sym e) small) (λ k. g.small z k) (t.out z m);
        filled = filled;
      }
