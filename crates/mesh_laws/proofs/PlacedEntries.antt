-- Placing, entry by entry: what stands across the places of old nodes that live on, and of the new nodes.
use Rattle.std.proofs.Common.{◌≡◌, ℕ, ◌+◌, ◌*◌, ◌/◌, ◌%◌, ◌<◌, Bool, true, false, not, eqb, ◌⊎◌, [], ◌∷◌, length, get_or, is_some, Some, None, Option, sym, refl, ap, ◌∙◌, inl, inr, arith}
use Rattle.std.proofs.lemmas.Bool.{cases_Bool, both_ways, true≢false, and_parts, and_from, and_right, not-true, not_from_false}
use Rattle.plane.specs.declared.position.Position.{Position}
use Rattle.plane.specs.Measures.{Heights}
use Rattle.algebra.specs.Passing.{Once}
use Rattle.algebra.specs.Cuts.{rim}
use Rattle.algebra.specs.Tables.{Edge, OnLive, Twinned}
use Rattle.algebra.specs.Placing.{inner, OnSpared, Linked}
use Rattle.algebra.proofs.Passing.{among}
use Rattle.algebra.proofs.Balance.{ends_once}
use Rattle.algebra.proofs.Bearers.{base_at}
use Rattle.algebra.proofs.Tables.{twin_back, killed_live, spared_live, cut, back_on_rim}
use Rattle.mesh.specs.Owner.{node}
use Rattle.mesh.specs.Edges.{no_edge}
use Rattle.mesh.specs.Placing.{across, placed, first_edge}
use Rattle.mesh.specs.Tree.{Mesh}
use Rattle.mesh_laws.specs.Places.{table, killed, flat, number, entry_at}
use Rattle.mesh_laws.specs.Steps.{AllFormed, made, foot}
use Rattle.mesh_laws.proofs.HolePlaces.{hole_of, edge_at, hole_length, hole_at}
use Rattle.mesh_laws.proofs.Touches.{Back, across_kept, across_set}
use Rattle.mesh_laws.proofs.PlacedNodes.{only_live, foot_rim, foot_killed, foot_once, first_foot}
use Rattle.mesh_laws.proofs.PlacedNodes.{marked_node, placed_old, placed_new}
use Rattle.mesh_laws.proofs.PlacedFields.{marked_keep, marked_shaped}

-- Places that run back, as edges of the hole and in the table.
runs_back : (m : Mesh) (x y : ℕ) → Back (x / 3) (node m (x / 3)).masters (x % 3) (edge_at m y) →
    Edge (table m) y ((table m).to x) ((table m).from x)
unfolding table
runs_back m x y b = record { starts = b.starts; ends = b.ends }

-- Nothing stands across.
abbrev open_side : Option ℕ → Bool
open_side o = not (is_some o)

named : (o : Option ℕ) (i : ℕ) → open_side o ≡ false → number o ≡ i → o ≡ Some i
named None i f e = absurd (true≢false f)
named (Some j) i f e = ap Some e

back_edge : (m : Mesh) (x y : ℕ) → Edge (table m) y ((table m).to x) ((table m).from x) → (table m).border y ≡ false →
    (table m).across y ≡ x / 3 → Back (x / 3) (node m (x / 3)).masters (x % 3) (edge_at m y)
unfolding table
back_edge m x y r f a = record { beyond = named (entry_at m y) (x / 3) f a; starts = r.starts; ends = r.ends }

module _ (h : Heights) (m : Mesh) (p : Position) (formed : AllFormed m) (w : Twinned (table m)) where
  foot_live : (k : ℕ) → k < made h m p → OnLive (table m) (foot h m p k)
  foot_live k l = killed_live w (only_live h m p) (among (foot_rim h m p k l).below (foot_killed h m p k l))

  old_place : {x : ℕ} → OnLive (table m) x → x / 3 < length m.nodes
  unfolding table
  old_place a = let b = a.below in omega arith

  -- Across a place that lives on stands what stood there, unless that is killed: a foot that ran back along the place
  -- would be its twin.
  entry_kept : {x : ℕ} → OnSpared (table m) (killed h m p) x → inner (table m) (killed h m p) x ≡ false →
      entry_at (placed h m p) x ≡ entry_at m x
  entry_kept {x} s f =
      let l = old_place (spared_live w (only_live h m p) s) in
      ap (λ n. across n (x % 3)) (placed_old h m p (x / 3) l)
      ∙ across_kept (x / 3) (x % 3) (omega arith) (length m.nodes) (hole_of h m p) (marked_node h m p (x / 3))
      (marked_shaped h m p formed (x / 3) l) none
      ∙ marked_keep h m p (λ n. across n (x % 3)) (λ k n. refl) (x / 3)
    where
      none : (j : ℕ) → j < length (hole_of h m p) →
          Back (x / 3) (node m (x / 3)).masters (x % 3) (get_or (hole_of h m p) j no_edge) → ⊥
      none j b q =
          let o : j < made h m p = rw hole_length at b in
          let r = runs_back m x (foot h m p j) (rw (hole_at h m p j o) at q) in
          let z = twin_back w (foot_live j o) (spared_live w (only_live h m p) s) r in
          both_ways _ f (and_from _ _ (not_from_false _ z.0) (ap (killed h m p) z.1 ∙ foot_killed h m p j o))

  -- Where a foot runs back along the place, the node made over it comes to stand there.
  entry_turned : {x : ℕ} → OnSpared (table m) (killed h m p) x → (k : ℕ) → k < made h m p →
      Edge (table m) (foot h m p k) ((table m).to x) ((table m).from x) →
      entry_at (placed h m p) x ≡ Some (length m.nodes + k)
  entry_turned {x} s k o r =
      let a = spared_live w (only_live h m p) s in
      let l = old_place a in
      let len = hole_length h m p in
      let z = twin_back w a (foot_live k o) (record { starts = sym r.ends; ends = sym r.starts }) in
      ap (λ n. across n (x % 3)) (placed_old h m p (x / 3) l)
      ∙ across_set (x / 3) (x % 3) (omega arith) (length m.nodes) (hole_of h m p) (marked_node h m p (x / 3))
      (marked_shaped h m p formed (x / 3) l) k (omega arith) (rw hole_at (back_edge m x _ r z.0 z.1)) only
    where
      only : (j : ℕ) → j < length (hole_of h m p) →
          Back (x / 3) (node m (x / 3)).masters (x % 3) (get_or (hole_of h m p) j no_edge) → j ≡ k
      only j b q =
          let c : j < made h m p = rw hole_length at b in
          let v = runs_back m x (foot h m p j) (rw (hole_at h m p j c) at q) in
          foot_once h m p j k c o (w.once (foot_live j c) (foot_live k o) (record { starts = cc; ends = cc }))

  -- The entries of the new node k.
  new_entry : (k : ℕ) → k < made h m p → (x e : ℕ) → x / 3 ≡ length m.nodes + k → x % 3 ≡ e →
      entry_at (placed h m p) x ≡
      get_or (entry_at m (foot h m p k)
      ∷ first_edge (λ f. eqb f.from ((table m).to (foot h m p k))) (length m.nodes) (hole_of h m p)
      ∷ first_edge (λ f. eqb f.to ((table m).from (foot h m p k))) (length m.nodes) (hole_of h m p)
      ∷ []) e None
  new_entry k l x e q r = rw (q, r) (ap (λ n. across n e) (placed_new h m p formed k l))

  -- Across the two other edges of a new node stand the one over the foot that starts where its own ends, and the one
  -- over the foot that ends where its own starts.
  module _
      (starts : Once (3 * (table m).size) (rim (killed h m p) (inner (table m) (killed h m p))) (table m).from) where
    in_entry : (j k : ℕ) → j < made h m p → k < made h m p →
        (table m).from (foot h m p j) ≡ (table m).to (foot h m p k) →
        entry_at (placed h m p) (3 * (length m.nodes + k) + 1) ≡ Some (length m.nodes + j)
    in_entry j k o l e =
        new_entry k l (3 * (length m.nodes + k) + 1) 1 (omega arith) (omega arith)
        ∙ first_foot h m p (λ f. f.from) starts _ j o e

    out_entry : (j k : ℕ) → j < made h m p → k < made h m p →
        (table m).to (foot h m p j) ≡ (table m).from (foot h m p k) →
        entry_at (placed h m p) (3 * (length m.nodes + k) + 2) ≡ Some (length m.nodes + j)
    out_entry j k o l e =
        new_entry k l (3 * (length m.nodes + k) + 2) 2 (omega arith) (omega arith)
        ∙ first_foot h m p (λ f. f.to) (ends_once (cut w (only_live h m p)) starts) _ j o e

    -- So the entries are as they should be.
    kept_border : {x : ℕ} → OnSpared (table m) (killed h m p) x → (table (placed h m p)).border x ≡ (table m).border x
    unfolding table
    kept_border {x} s = at (cases_Bool (inner (table m) (killed h m p) x))
      where
        at : (inner (table m) (killed h m p) x ≡ true) ⊎ (inner (table m) (killed h m p) x ≡ false) →
            (table (placed h m p)).border x ≡ (table m).border x
        at (inl q) =
            let (b, d) = and_parts _ _ q in
            let v = w.twin (spared_live w (only_live h m p) s) (not-true _ b) in
            let a = among v.lives.below (ap (killed h m p) v.node ∙ d) in
            let g = v.back in
            let r = back_on_rim w (only_live h m p) s a (record { starts = cc; ends = cc }) in
            let (k, l, e) = base_at (table m) (killed h m p) flat r.0 refl in
            ap open_side (entry_turned s k l (record { starts = cc; ends = cc })) ∙ sym (not-true _ b)
        at (inr f) = ap open_side (entry_kept s f)

    pub linked : Linked (table m) (killed h m p) flat (table (placed h m p))
    unfolding table
    linked = record {
      kept_border = kept_border;
      kept_across = λ s b f. ap number (entry_kept s (and_right _ _ f));
      turned = λ s k l r. ap number (entry_turned s k l r);
      outer_border = λ k l. ap open_side (new_entry k l (3 * (length m.nodes + k)) 0 (omega arith) (omega arith));
      outer_across = λ k l b. ap number (new_entry k l (3 * (length m.nodes + k)) 0 (omega arith) (omega arith));
      in_border = λ k l a e.
          let (j, o, d) = base_at (table m) (killed h m p) flat a refl in
          ap open_side (in_entry j k o l (ap (table m).from d ∙ e));
      in_across = λ j k o l e. ap number (in_entry j k o l e);
      out_border = λ k l a e.
          let (j, o, d) = base_at (table m) (killed h m p) flat a refl in
          ap open_side (out_entry j k o l (ap (table m).to d ∙ e));
      out_across = λ j k o l e. ap number (out_entry j k o l e);
    }
