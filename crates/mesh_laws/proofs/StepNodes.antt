-- A tree after a placing: where its old and its new masters stand, and the triangles of its old and its new nodes.
use Rattle.std.proofs.Common.{◌≡◌, ℕ, ◌+◌, ◌-◌, ◌<◌, ◌≤◌, false, ◌⊎◌, [], ◌∷◌, length, sym, refl, ◌∙◌, inl, inr, arith}
use Rattle.std.proofs.lemmas.List.{length_push, get_or_push, get_or_append_left}
use Rattle.std.proofs.lemmas.Bool.{cases_lt, and_parts, not-true}
use Rattle.plane.specs.declared.position.Position.{Position}
use Rattle.plane.specs.Measures.{Heights}
use Rattle.algebra.proofs.Bearers.{base_is}
use Rattle.mesh.specs.Owner.{node, vertex, LiveNode}
use Rattle.mesh.specs.Placing.{stand, start}
use Rattle.mesh.specs.Tree.{Mesh, corner}
use Rattle.mesh_laws.specs.Places.{table, killed, flat}
use Rattle.mesh_laws.specs.Steps.{made, foot, Step}
use Rattle.mesh_laws.specs.Sound.{Sound}
use Rattle.mesh_laws.proofs.LivePlaces.{from_at, to_at, OfNode, from_in, to_in}
use Rattle.mesh_laws.proofs.Rims.{AtRim, rim_on_live}

-- A node is made over a place of the rim.
pub foot_rim : (h : Heights) (m : Mesh) (p : Position) (k : ℕ) → k < made h m p → AtRim h m p (foot h m p k)
foot_rim h m p k l = (base_is (table m) (killed h m p) flat k l).0

module _ {h : Heights} {m m' : Mesh} {p : Position} (g : Step h m p m') where
  -- Masters.
  pub masters_grown : length m'.masters ≡ length m.masters + 1
  masters_grown = rw g.masters (length_push m.masters p)

  pub old_stand : (k : ℕ) → k < length m.masters → stand m'.masters k ≡ stand m.masters k
  old_stand k l = rw g.masters (get_or_append_left m.masters (p ∷ []) (corner 0 0) k l)

  pub new_stand : stand m'.masters (length m.masters) ≡ p
  new_stand = rw g.masters (get_or_push m.masters p (corner 0 0) (length m.masters) refl)

  -- What holds of each old master and of the new one holds of all.
  pub each_master : (P : ℕ → Position → Type 0) → ((k : ℕ) → k < length m.masters → P k (stand m.masters k)) →
      P (length m.masters) p → (k : ℕ) → k < length m'.masters → P k (stand m'.masters k)
  each_master P old new k l = at (cases_lt k (length m.masters))
    where
      at : (k < length m.masters) ⊎ (length m.masters ≤ k) → P k (stand m'.masters k)
      at (inl o) = rw (old_stand k o) (old k o)
      at (inr o) = let e : k ≡ length m.masters = omega (arith, masters_grown) in rw (e, new_stand) new

  -- Nodes.
  pub nodes_grown : length m'.nodes ≡ length m.nodes + made h m p
  unfolding table
  nodes_grown = g.placed.grown

  -- What holds of each old node and of each new one holds of all.
  pub each_node : (P : ℕ → Type 0) → ((i : ℕ) → i < length m.nodes → P i) →
      ((k : ℕ) → k < made h m p → P (length m.nodes + k)) → (i : ℕ) → i < length m'.nodes → P i
  each_node P old new i l = at (cases_lt i (length m.nodes))
    where
      at : (i < length m.nodes) ⊎ (length m.nodes ≤ i) → P i
      at (inl o) = old i o
      at (inr o) =
          let e : i ≡ length m.nodes + (i - length m.nodes) = omega arith in
          rw e (new (i - length m.nodes) (omega (arith, nodes_grown)))

  -- An old node that lives was live, and is not killed.
  pub spared_node : (i : ℕ) → i < length m.nodes → LiveNode m' i → LiveNode m i × (killed h m p i ≡ false)
  unfolding table
  spared_node i l o =
      let q = and_parts _ _ (sym (g.placed.kept_live i l) ∙ o.lives) in
      (record { used = l; lives = q.0 }, not-true _ q.1)

  module _ (s : Sound h m) where
    -- The vertices of old and of new nodes.
    pub old_vertex : (i : ℕ) → i < length m.nodes → (e : ℕ) → vertex m' i e ≡ vertex m i e
    old_vertex i l e =
        rw (g.old_masters i l) (old_stand (start (node m i) e) ((s.formed i l).masters_in e))

    pub new_from : (k : ℕ) → k < made h m p → vertex m' (length m.nodes + k) 0 ≡ from_at m (foot h m p k)
    new_from k l = rw (g.new_masters k l) (old_stand _ (from_in s (rim_on_live s p (foot_rim h m p k l))))

    pub new_to : (k : ℕ) → k < made h m p → vertex m' (length m.nodes + k) 1 ≡ to_at m (foot h m p k)
    new_to k l = rw (g.new_masters k l) (old_stand _ (to_in s (rim_on_live s p (foot_rim h m p k l))))

    pub new_last : (k : ℕ) → k < made h m p → vertex m' (length m.nodes + k) 2 ≡ p
    new_last k l = rw (g.new_masters k l) new_stand

    -- So for what holds of their triangles.
    module _ (P : Position → Position → Position → Type 0) where
      pub to_old : (i : ℕ) → i < length m.nodes → OfNode P m i → OfNode P m' i
      to_old i l o = rw (old_vertex i l 0, old_vertex i l 1, old_vertex i l 2) o

      pub from_old : (i : ℕ) → i < length m.nodes → OfNode P m' i → OfNode P m i
      from_old i l o = rw (old_vertex i l 0, old_vertex i l 1, old_vertex i l 2) at o

      pub to_new : (k : ℕ) → k < made h m p → P (from_at m (foot h m p k)) (to_at m (foot h m p k)) p →
          OfNode P m' (length m.nodes + k)
      to_new k l o = rw (new_from k l, new_to k l, new_last k l) o

      pub from_new : (k : ℕ) → k < made h m p → OfNode P m' (length m.nodes + k) →
          P (from_at m (foot h m p k)) (to_at m (foot h m p k)) p
      from_new k l o = rw (new_from k l, new_to k l, new_last k l) at o
