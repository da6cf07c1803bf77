-- Placing, field by field: masters and fathers stay, killers and sons come with the killing.
use Rattle.std.proofs.Common.{◌≡◌, ℕ, ◌+◌, ◌/◌, ◌%◌, ◌<◌, Bool, true, false, cond, length, get_or, Some, None, sym, refl, ap, ◌∙◌, arith}
use Rattle.std.proofs.lemmas.Bool.{both_ways}
use Rattle.plane.specs.declared.position.Position.{Position}
use Rattle.plane.specs.Measures.{Heights}
use Rattle.mesh.specs.declared.node.Node.{Node}
use Rattle.mesh.specs.Owner.{node}
use Rattle.mesh.specs.Edges.{no_edge}
use Rattle.mesh.specs.Placing.{with_killer, with_son, with_neighbour, placed}
use Rattle.mesh.specs.Tree.{Mesh}
use Rattle.mesh_laws.specs.Places.{killed}
use Rattle.mesh_laws.specs.Steps.{AllFormed, made, foot}
use Rattle.mesh_laws.proofs.HolePlaces.{hole_of, hole_length, hole_at}
use Rattle.mesh_laws.proofs.Touches.{Shaped, Heir, touches_shaped, touches_keep, sons_kept, son_set}
use Rattle.mesh_laws.proofs.PlacedNodes.{foot_killed, foot_below, foot_once, marked_node, placed_old}

module _ (h : Heights) (m : Mesh) (p : Position) where
  -- What a killer does not change.
  pub marked_keep : {X : Type 0} (read : Node → X) → ((k : ℕ) (n : Node) → read (with_killer k n) ≡ read n) → (i : ℕ) →
      read (marked_node h m p i) ≡ read (node m i)
  unfolding marked_node
  marked_keep read killer i = at (killed h m p i)
    where
      at : (b : Bool) → read (cond b (with_killer (length m.masters) (node m i)) (node m i)) ≡ read (node m i)
      at true = killer _ _
      at false = refl

  marked_killer : (i : ℕ) →
      (marked_node h m p i).killer ≡ cond (killed h m p i) (Some (length m.masters)) (node m i).killer
  unfolding marked_node
  marked_killer i = at (killed h m p i)
    where
      at : (b : Bool) → (cond b (with_killer (length m.masters) (node m i)) (node m i)).killer ≡
          cond b (Some (length m.masters)) (node m i).killer
      at true = refl
      at false = refl

  module _ (formed : AllFormed m) where
    pub marked_shaped : (i : ℕ) → i < length m.nodes → Shaped (node m i).masters (marked_node h m p i)
    marked_shaped i l =
        let f = formed i l in
        record {
          has_masters = marked_keep (λ n. n.masters) (λ k n. refl) i;
          three_neighbours = marked_keep (λ n. length n.neighbours) (λ k n. refl) i ∙ f.three_neighbours;
          three_sons = marked_keep (λ n. length n.sons) (λ k n. refl) i ∙ f.three_sons;
        }

    pub placed_shaped : (i : ℕ) → i < length m.nodes → Shaped (node m i).masters (node (placed h m p) i)
    placed_shaped i l =
        rw (placed_old h m p i l) (touches_shaped i (length m.nodes) (hole_of h m p) _ (marked_shaped i l))

    -- What neither a son nor a neighbour changes.
    grown_keep : {X : Type 0} (read : Node → X) → ((s k : ℕ) (n : Node) → read (with_son s k n) ≡ read n) →
        ((a b k : ℕ) (n : Node) → read (with_neighbour a b k n) ≡ read n) → (i : ℕ) → i < length m.nodes →
        read (node (placed h m p) i) ≡ read (marked_node h m p i)
    grown_keep read son beside i l =
        ap read (placed_old h m p i l)
        ∙ touches_keep i read son beside (length m.nodes) (hole_of h m p) (marked_node h m p i) (marked_shaped i l)

    pub old_masters : (i : ℕ) → i < length m.nodes → (node (placed h m p) i).masters ≡ (node m i).masters
    old_masters i l = (placed_shaped i l).has_masters

    pub old_father : (i : ℕ) → i < length m.nodes → (node (placed h m p) i).father ≡ (node m i).father
    old_father i l =
        grown_keep (λ n. n.father) (λ s k n. refl) (λ a b k n. refl) i l ∙ marked_keep (λ n. n.father) (λ k n. refl) i

    pub old_stepfather : (i : ℕ) → i < length m.nodes → (node (placed h m p) i).stepfather ≡ (node m i).stepfather
    old_stepfather i l =
        grown_keep (λ n. n.stepfather) (λ s k n. refl) (λ a b k n. refl) i l
        ∙ marked_keep (λ n. n.stepfather) (λ k n. refl) i

    pub old_killer : (i : ℕ) → i < length m.nodes →
        (node (placed h m p) i).killer ≡ cond (killed h m p i) (Some (length m.masters)) (node m i).killer
    old_killer i l = grown_keep (λ n. n.killer) (λ s k n. refl) (λ a b k n. refl) i l ∙ marked_killer i

    -- Fathers of new nodes are killed.
    pub old_sons : (i : ℕ) → i < length m.nodes → killed h m p i ≡ false →
        (node (placed h m p) i).sons ≡ (node m i).sons
    old_sons i l f =
        ap (λ n. n.sons) (placed_old h m p i l)
        ∙ sons_kept i (length m.nodes) (hole_of h m p) (marked_node h m p i) (marked_shaped i l) none
        ∙ marked_keep (λ n. n.sons) (λ k n. refl) i
      where
        none : (j : ℕ) → j < length (hole_of h m p) → (get_or (hole_of h m p) j no_edge).father ≡ i → ⊥
        none j b q =
            let o : j < made h m p = rw hole_length at b in
            let e = ap (λ e. e.father) (hole_at h m p j o) in
            both_ways (killed h m p i) f (ap (killed h m p) (sym q ∙ e) ∙ foot_killed h m p j o)

    pub new_sons : (k : ℕ) → k < made h m p →
        get_or (node (placed h m p) (foot h m p k / 3)).sons (foot h m p k % 3) None ≡ Some (length m.nodes + k)
    new_sons k l =
        let i = foot h m p k / 3 in
        let b = foot_below h m p k l in
        let o = hole_length h m p in
        ap (λ n. get_or n.sons (foot h m p k % 3) None) (placed_old h m p i b)
        ∙ son_set i (foot h m p k % 3) (omega arith) (length m.nodes) (hole_of h m p) (marked_node h m p i)
        (marked_shaped i b) k (omega arith) (rw hole_at (record { father = refl; side = refl })) only
      where
        only : (j : ℕ) → j < length (hole_of h m p) →
            Heir (foot h m p k / 3) (foot h m p k % 3) (get_or (hole_of h m p) j no_edge) → j ≡ k
        only j d q =
            let o : j < made h m p = rw hole_length at d in
            let r = rw (hole_at h m p j o) at q in
            let f = r.father in
            let s = r.side in
            foot_once h m p j k o l (omega arith)
