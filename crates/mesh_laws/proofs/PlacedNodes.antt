-- Placing, node by node: what the old nodes become, and what stands behind them.
use Rattle.std.proofs.Common.{◌≡◌, ℕ, ◌+◌, ◌*◌, ◌/◌, ◌%◌, ◌<◌, Bool, true, false, cond, eqb, List, map, length, get_or, Some, sym, ap, ◌∙◌, zero-add, arith}
use Rattle.std.proofs.lemmas.List.{get_or-map}
use Rattle.std.proofs.lemmas.Bool.{and_parts, eqb-true, eq-eqb}
use Rattle.plane.specs.declared.position.Position.{Position}
use Rattle.plane.specs.Measures.{Heights}
use Rattle.algebra.specs.Passing.{Once}
use Rattle.algebra.specs.Cuts.{rim}
use Rattle.algebra.specs.Placing.{Kills, OnRim, inner}
use Rattle.algebra.proofs.Bearers.{base_is, base_once}
use Rattle.mesh.specs.declared.node.Node.{Node}
use Rattle.mesh.specs.Owner.{node}
use Rattle.mesh.specs.Edges.{HoleEdge, no_edge}
use Rattle.mesh.specs.Placing.{no_node, kills, new_node, with_killer, marked, placed, first_edge}
use Rattle.mesh.specs.Tree.{Mesh}
use Rattle.mesh_laws.specs.Places.{table, killed, flat}
use Rattle.mesh_laws.specs.Steps.{AllFormed, made, foot}
use Rattle.mesh_laws.proofs.HolePlaces.{hole_of, edge_at, hole_length, hole_at}
use Rattle.mesh_laws.proofs.Searches.{first_is}
use Rattle.mesh_laws.proofs.Touches.{Below, touches}
use Rattle.mesh_laws.proofs.Growth.{marked_length, marked_at, grown_length, grown_at, grown_new}

module _ (h : Heights) (m : Mesh) (p : Position) where
  -- Only live nodes whose ring holds p are killed.
  pub killed_is : (i : ℕ) → i < length m.nodes → killed h m p i ≡ kills h m.masters p (node m i)
  unfolding killed
  killed_is i l = get_or-map (kills h m.masters p) m.nodes i no_node false l

  pub only_live : Kills (table m) (killed h m p)
  unfolding table
  only_live = record { was_live = λ i l q. (and_parts _ _ (sym (killed_is i l) ∙ q)).0 }

  -- The feet are killed places of the rim, each once.
  pub foot_rim : (k : ℕ) → k < made h m p → OnRim (table m) (killed h m p) (foot h m p k)
  foot_rim k l = (base_is (table m) (killed h m p) flat k l).0

  pub foot_killed : (k : ℕ) → k < made h m p → killed h m p (foot h m p k / 3) ≡ true
  foot_killed k l = (and_parts _ _ (foot_rim k l).passes).0

  pub foot_below : (k : ℕ) → k < made h m p → foot h m p k / 3 < length m.nodes
  unfolding table
  foot_below k l = let b = (foot_rim k l).below in omega arith

  pub foot_once : (j k : ℕ) → j < made h m p → k < made h m p → foot h m p j ≡ foot h m p k → j ≡ k
  foot_once = base_once (table m) (killed h m p) flat

  -- If no two places of the rim have the same end, the first edge of the hole with an end is the foot that has it.
  pub first_foot : (end : HoleEdge → ℕ) →
      Once (3 * (table m).size) (rim (killed h m p) (inner (table m) (killed h m p))) (λ x. end (edge_at m x)) →
      (b j : ℕ) → j < made h m p → end (edge_at m (foot h m p j)) ≡ b →
      first_edge (λ f. eqb (end f) b) (length m.nodes) (hole_of h m p) ≡ Some (length m.nodes + j)
  first_foot end once b j l e =
      let n = hole_length h m p in
      let here = eq-eqb (end (edge_at m (foot h m p j))) b e in
      first_is no_edge (λ f. eqb (end f) b) (length m.nodes) (hole_of h m p) j (omega arith) (rw hole_at here) only
    where
      only : (v : ℕ) → v < length (hole_of h m p) → eqb (end (get_or (hole_of h m p) v no_edge)) b ≡ true → v ≡ j
      only v d q =
          let c : v < made h m p = rw hole_length at d in
          let r = eqb-true _ _ (rw (hole_at h m p v c) at q) in
          foot_once v j c l (once _ _ (foot_rim v c) (foot_rim j l) (r ∙ sym e))

  -- Which nodes are killed, and the nodes with their killers, as lists.
  abbrev doomed : List Bool
  doomed = map (kills h m.masters p) m.nodes

  abbrev before : List Node
  before = marked (length m.masters) doomed 0 m.nodes

  -- An old node with its killer, if it has one now.
  unfoldable pub marked_node : ℕ → Node
  marked_node i = cond (killed h m p i) (with_killer (length m.masters) (node m i)) (node m i)

  pub placed_count : length (placed h m p).nodes ≡ length m.nodes + made h m p
  unfolding placed
  placed_count = simp (grown_length, marked_length, hole_length)

  pub placed_old : (i : ℕ) → i < length m.nodes →
      node (placed h m p) i ≡ touches i (length m.nodes) (hole_of h m p) (marked_node i)
  unfolding placed killed marked_node
  placed_old i l =
      let es = hole_of h m p in
      let same = marked_length (length m.masters) doomed 0 m.nodes in
      grown_at (length m.nodes) (length m.masters) es es before i (omega arith)
      ∙ ap (λ v. touches i v es (get_or before i no_node)) same
      ∙ ap (touches i (length m.nodes) es) (rw zero-add at (marked_at (length m.masters) doomed 0 m.nodes i l))

  module _ (formed : AllFormed m) where
    hole_below : (k : ℕ) → k < length (hole_of h m p) → Below (length m.nodes) (get_or (hole_of h m p) k no_edge)
    hole_below k l =
        let o : k < made h m p = rw hole_length at l in
        rw hole_at (record {
          father = foot_below k o;
          beyond = (formed (foot h m p k / 3) (foot_below k o)).neighbours_in (foot h m p k % 3);
        })

    pub placed_new : (k : ℕ) → k < made h m p →
        node (placed h m p) (length m.nodes + k) ≡
        new_node (length m.nodes) (length m.masters) (hole_of h m p) (edge_at m (foot h m p k))
    unfolding placed
    placed_new k l =
        let es = hole_of h m p in
        let same = marked_length (length m.masters) doomed 0 m.nodes in
        let o = hole_length h m p in
        ap (λ v. get_or (placed h m p).nodes (v + k) no_node) (sym same)
        ∙ grown_new (length m.nodes) (length m.masters) es (length m.nodes) es before (omega arith)
        hole_below k (omega arith)
        ∙ ap (new_node (length m.nodes) (length m.masters) es) (hole_at h m p k l)
