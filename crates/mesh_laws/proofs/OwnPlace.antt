-- At a master's own position the owner has that master as a vertex, and gives it the whole total.
use Rattle.std.proofs.Common.{◌≡◌, ℕ, ◌<◌, ◌⊎◌, length, get_or, pos, refl, ◌∙◌, subst, inl, inr, lit<}
use Rattle.plane.specs.declared.position.Position.{Position}
use Rattle.plane.specs.Measures.{Heights, Supported}
use Rattle.plane.proofs.Crossings.{owned}
use Rattle.plane.specs.LiveTriangles as triangles
use Rattle.plane.specs.Turns.{turn_cycle}
use Rattle.mesh.specs.Owner.{vertex, OwnsAt}
use Rattle.mesh.specs.Placing.{stand}
use Rattle.mesh.specs.Tree.{Mesh}
use Rattle.mesh_laws.specs.Laws.{weights_at, total_at, Alone}
use Rattle.mesh_laws.specs.Sound.{Sound}
use Rattle.mesh_laws.proofs.Masters.{live_triangle, masters_housed, stands_once}

module _ {h : Heights} (law : Supported h) {m : Mesh} (s : Sound h m) {k : ℕ} (l : k < length m.masters) {i : ℕ}
    (o : OwnsAt m (stand m.masters k) i) where
  abbrev place : Position
  place = stand m.masters k

  -- The weight of a vertex at its own position is the total.
  alone : (e : ℕ) → e < 3 → get_or (weights_at m i (vertex m i e)) e (pos 0) ≡ total_at m i → vertex m i e ≡ place →
      Alone m i k place
  alone e b w v = record {
    side = e;
    side_in = b;
    is_vertex = stands_once s _ k ((s.formed i o.is_live.used).masters_in e) l v;
    whole = subst (λ x. get_or (weights_at m i x) e (pos 0) ≡ total_at m i) v w;
  }

  pub own_place : Alone m i k place
  own_place =
      by (triangles.vertex law (masters_housed s) (live_triangle s o.is_live) (owned _ _ _ place o.owns)
      (s.housed k l) (k, l, refl))
    where
      by : (vertex m i 0 ≡ place) ⊎ (vertex m i 1 ≡ place) ⊎ (vertex m i 2 ≡ place) → Alone m i k place
      by (inl v) = alone 0 (lit< tt) refl v
      by (inr (inl v)) = alone 1 (lit< tt) (turn_cycle (vertex m i 0) (vertex m i 1) (vertex m i 2)) v
      by (inr (inr v)) =
          let again = turn_cycle (vertex m i 1) (vertex m i 2) (vertex m i 0) in
          alone 2 (lit< tt) (again ∙ turn_cycle (vertex m i 0) (vertex m i 1) (vertex m i 2)) v
