-- Placing makes of a tree what a step says.
use Rattle.std.proofs.Common.{◌≡◌, ℕ, zero, suc, ◌+◌, ◌-◌, ◌*◌, ◌/◌, ◌%◌, ◌<◌, ◌≤◌, Bool, true, false, cond, not, ◌&&◌, ◌⊎◌, [], ◌∷◌, ◌++◌, length, get_or, is_some, Some, None, Option, sym, refl, ap, ◌∙◌, inl, inr, arith}
use Rattle.std.proofs.lemmas.List.{length_push, get_or_past}
use Rattle.std.proofs.lemmas.Bool.{cases_lt, and_parts, not-true}
use Rattle.plane.specs.declared.position.Position.{Position}
use Rattle.plane.specs.Measures.{Heights}
use Rattle.algebra.specs.Passing.{Once}
use Rattle.algebra.specs.Cuts.{rim}
use Rattle.algebra.specs.Tables.{Edge, Twinned}
use Rattle.algebra.specs.Placing.{Placed, Fresh, inner}
use Rattle.mesh.specs.Owner.{node}
use Rattle.mesh.specs.Placing.{next, start, across, live, placed}
use Rattle.mesh.specs.Tree.{Mesh}
use Rattle.mesh_laws.specs.Places.{table, killed, flat}
use Rattle.mesh_laws.specs.Steps.{Formed, AllFormed, made, foot, Step}
use Rattle.mesh_laws.proofs.HolePlaces.{hole_of, hole_length}
use Rattle.mesh_laws.proofs.Touches.{across_below}
use Rattle.mesh_laws.proofs.Searches.{first_below}
use Rattle.mesh_laws.proofs.PlacedNodes.{only_live, foot_below, marked_node, placed_count, placed_old, placed_new}
use Rattle.mesh_laws.proofs.PlacedFields.{marked_keep, marked_shaped, placed_shaped}
use Rattle.mesh_laws.proofs.PlacedFields.{old_masters, old_father, old_stepfather, old_killer, old_sons, new_sons}
use Rattle.mesh_laws.proofs.PlacedEntries.{linked}

-- A node lives on if it was live and gets no killer.
still_live : (b : Bool) (k : ℕ) (o : Option ℕ) → not (is_some (cond b (Some k) o)) ≡ not (is_some o) && not b
still_live true k None = refl
still_live true k (Some j) = refl
still_live false k None = refl
still_live false k (Some j) = refl

-- What holds of three elements and of the default holds of whatever is read.
of_three : {X : Type 0} (P : X → Type 0) {a b c d : X} → P a → P b → P c → P d → (e : ℕ) →
    P (get_or (a ∷ b ∷ c ∷ []) e d)
of_three P x y z u zero = x
of_three P x y z u (suc zero) = y
of_three P x y z u (suc (suc zero)) = z
of_three P x y z u (suc (suc (suc e))) = u

module _ (h : Heights) (m : Mesh) (p : Position) where
  placed_masters : (placed h m p).masters ≡ m.masters ++ p ∷ []
  unfolding placed
  placed_masters = refl

  one_more : length (placed h m p).masters ≡ length m.masters + 1
  one_more = ap length placed_masters ∙ length_push m.masters p

module _ (h : Heights) (m : Mesh) (p : Position) (formed : AllFormed m) where
  -- No edge touches the new master.
  fresh : Fresh (table m) (length m.masters)
  unfolding table
  fresh = record {
    not_from = λ x l e.
        let b = (formed (x / 3) (omega arith)).masters_in (x % 3) in
        omega arith;
    not_to = λ x l e.
        let b = (formed (x / 3) (omega arith)).masters_in (next (x % 3)) in
        omega arith;
  }

  kept_live : (i : ℕ) → i < length m.nodes → live (node (placed h m p) i) ≡ live (node m i) && not (killed h m p i)
  kept_live i l =
      ap (λ o. not (is_some o)) (old_killer h m p formed i l)
      ∙ still_live (killed h m p i) (length m.masters) (node m i).killer

  new_edge : (k : ℕ) → k < made h m p → (x e : ℕ) → x / 3 ≡ length m.nodes + k → x % 3 ≡ e →
      Edge (table (placed h m p)) x
      (get_or ((table m).from (foot h m p k) ∷ (table m).to (foot h m p k) ∷ length m.masters ∷ []) e 0)
      (get_or ((table m).from (foot h m p k) ∷ (table m).to (foot h m p k) ∷ length m.masters ∷ []) (next e) 0)
  unfolding table
  new_edge k l x e q r = record {
    starts = rw (q, r) (ap (λ n. start n e) (placed_new h m p formed k l));
    ends = rw (q, r) (ap (λ n. start n (next e)) (placed_new h m p formed k l));
  }

  placed_table : Placed (table m) (killed h m p) flat (length m.masters) (table (placed h m p))
  unfolding table
  placed_table = record {
    grown = placed_count h m p;
    kept = λ x l.
        let e = old_masters h m p formed (x / 3) (omega arith) in
        record { starts = ap (λ v. get_or v (x % 3) 0) e; ends = ap (λ v. get_or v (next (x % 3)) 0) e };
    kept_live = kept_live;
    new_live = λ k l. ap live (placed_new h m p formed k l);
    outer = λ k l. new_edge k l (3 * (length m.nodes + k)) 0 (omega arith) (omega arith);
    run_in = λ k l. new_edge k l (3 * (length m.nodes + k) + 1) 1 (omega arith) (omega arith);
    run_out = λ k l. new_edge k l (3 * (length m.nodes + k) + 2) 2 (omega arith) (omega arith);
  }

  -- Old nodes stay formed.
  old_neighbours_in : (i : ℕ) → i < length m.nodes → (e j : ℕ) → across (node (placed h m p) i) e ≡ Some j →
      j < length (placed h m p).nodes
  old_neighbours_in i l e j q = at (cases_lt e 3)
    where
      more : (across (marked_node h m p i) e ≡ Some j) ⊎ (j < length m.nodes + length (hole_of h m p)) →
          j < length (placed h m p).nodes
      more (inl r) =
          let b = (formed i l).neighbours_in e j (sym (marked_keep h m p (λ n. across n e) (λ k n. refl) i) ∙ r) in
          let c = placed_count h m p in
          omega arith
      more (inr r) = let c = placed_count h m p in let d = hole_length h m p in omega arith

      at : (e < 3) ⊎ (3 ≤ e) → j < length (placed h m p).nodes
      at (inl b) =
          let shape = marked_shaped h m p formed i l in
          let before = sym (ap (λ n. across n e) (placed_old h m p i l)) in
          more (across_below i e b (length m.nodes) (hole_of h m p) (marked_node h m p i) shape j (before ∙ q))
      at (inr b) =
          let three = (placed_shaped h m p formed i l).three_neighbours in
          let none = get_or_past (node (placed h m p) i).neighbours e None (omega arith) in
          let z : ◌≡◌ {A = ℕ} 0 1 = cc in
          absurd (omega arith)

  old_formed : (i : ℕ) → i < length m.nodes → Formed (placed h m p) i
  old_formed i l =
      let f = formed i l in
      let s = placed_shaped h m p formed i l in
      record {
        three_masters = ap length s.has_masters ∙ f.three_masters;
        three_neighbours = s.three_neighbours;
        three_sons = s.three_sons;
        masters_in = λ e.
            let b = f.masters_in e in
            let c = ap (λ v. get_or v e 0) s.has_masters in
            let d = one_more h m p in
            omega arith;
        neighbours_in = old_neighbours_in i l;
        childless = λ q e.
            let (a, b) = and_parts _ _ (sym (kept_live i l) ∙ q) in
            ap (λ v. get_or v e None) (old_sons h m p formed i l (not-true _ b)) ∙ f.childless a e;
      }

  -- New ones are formed.
  new_formed : (k : ℕ) → k < made h m p → Formed (placed h m p) (length m.nodes + k)
  unfolding table
  new_formed k l =
      let new = placed_new h m p formed k l in
      let d = one_more h m p in
      let c = placed_count h m p in
      let n = hole_length h m p in
      let f = formed (foot h m p k / 3) (foot_below h m p k l) in
      let a = f.masters_in (foot h m p k % 3) in
      let b = f.masters_in (next (foot h m p k % 3)) in
      record {
        three_masters = ap (λ n. length n.masters) new;
        three_neighbours = ap (λ n. length n.neighbours) new;
        three_sons = ap (λ n. length n.sons) new;
        masters_in = λ e.
            let Known : ℕ → Type 0 = λ v. v < length (placed h m p).masters in
            rw new (of_three Known (omega arith) (omega arith) (omega arith) (omega arith) e);
        neighbours_in = λ e.
            rw new
            (of_three (λ o. (j : ℕ) → o ≡ Some j → j < length (placed h m p).nodes)
            (λ j q. let v = f.neighbours_in (foot h m p k % 3) j q in omega arith)
            (λ j q. let v = first_below _ _ (hole_of h m p) j q in omega arith)
            (λ j q. let v = first_below _ _ (hole_of h m p) j q in omega arith)
            (λ j q. let z : ◌≡◌ {A = ℕ} 0 1 = cc in absurd (omega arith))
            e);
        childless = λ q e. rw new (of_three (λ o. o ≡ None) refl refl refl refl e);
      }

  placed_formed : AllFormed (placed h m p)
  placed_formed i l = at (cases_lt i (length m.nodes))
    where
      at : (i < length m.nodes) ⊎ (length m.nodes ≤ i) → Formed (placed h m p) i
      at (inl b) = old_formed i b
      at (inr b) =
          let k = i - length m.nodes in
          let c = placed_count h m p in
          let e : i ≡ length m.nodes + k = omega arith in
          rw e (new_formed k (omega arith))

pub steps : (h : Heights) (m : Mesh) (p : Position) → AllFormed m → Twinned (table m) →
    Once (3 * (table m).size) (rim (killed h m p) (inner (table m) (killed h m p))) (table m).from →
    Step h m p (placed h m p)
unfolding table
steps h m p formed w starts = record {
  masters = placed_masters h m p;
  formed = placed_formed h m p formed;
  kills = only_live h m p;
  fresh = fresh h m p formed;
  placed = placed_table h m p formed;
  linked = linked h m p formed w starts;
  old_masters = old_masters h m p formed;
  old_father = old_father h m p formed;
  old_stepfather = old_stepfather h m p formed;
  old_killer = old_killer h m p formed;
  old_sons = old_sons h m p formed;
  new_sons = new_sons h m p formed;
  new_masters = λ k l. ap (λ n. n.masters) (placed_new h m p formed k l);
  new_father = λ k l. ap (λ n. n.father) (placed_new h m p formed k l);
  new_stepfather = λ k l. ap (λ n. n.stepfather) (placed_new h m p formed k l);
}
