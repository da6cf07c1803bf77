-- The masters of a sound tree by their positions, and its live nodes as live triangles of the plane.
use Rattle.std.proofs.Common.{◌≡◌, ℕ, ◌<◌, true, ◌⊎◌, length, sym, refl, subst, inl, inr, arith}
use Rattle.std.proofs.lemmas.Int.{ints}
use Rattle.std.proofs.lemmas.Bool.{cases_order}
use Rattle.plane.specs.declared.position.Position.{Position}
use Rattle.plane.specs.Plane.{InPlane}
use Rattle.plane.specs.Measures.{Heights}
use Rattle.plane.specs.Holes.{Masters, Housed, Live}
use Rattle.mesh.specs.Owner.{node, vertex, LiveNode}
use Rattle.mesh.specs.Placing.{stand, start, holds}
use Rattle.mesh.specs.Tree.{Mesh}
use Rattle.mesh_laws.specs.Sound.{HoldsAt, MissesAt, Sound}

-- The positions at which masters stand.
abbrev pub IsMaster : Mesh → Masters
IsMaster m q = (k : ℕ) × (k < length m.masters) × (stand m.masters k ≡ q)

-- The test of a ring, and the fact that it tells.
module _ (h : Heights) (m : Mesh) (q : Position) (i : ℕ) where
  pub holds_inside : holds h m.masters q (node m i) ≡ true → HoldsAt h m q i
  holds_inside e = record { inside = grind (arith, ints) }

  pub inside_holds : HoldsAt h m q i → holds h m.masters q (node m i) ≡ true
  inside_holds o = let l = o.inside in grind (arith, ints)

module _ {h : Heights} {m : Mesh} (s : Sound h m) where
  pub masters_housed : Housed (IsMaster m)
  masters_housed q (k, l, e) = subst (λ x. InPlane x) e (s.housed k l)

  -- No two masters stand at one position.
  pub stands_once : (j k : ℕ) → j < length m.masters → k < length m.masters →
      stand m.masters j ≡ stand m.masters k → j ≡ k
  stands_once j k lj lk e = at (cases_order j k)
    where
      at : (j ≡ k) ⊎ ((j < k) ⊎ (k < j)) → j ≡ k
      at (inl d) = d
      at (inr (inl l)) = absurd (s.apart j k l lk e)
      at (inr (inr l)) = absurd (s.apart k j l lj (sym e))

  pub vertex_master : (i : ℕ) → i < length m.nodes → (e : ℕ) → IsMaster m (vertex m i e)
  vertex_master i l e = (start (node m i) e, (s.formed i l).masters_in e, refl)

  pub live_triangle : {i : ℕ} → LiveNode m i → Live h (IsMaster m) (vertex m i 0) (vertex m i 1) (vertex m i 2)
  live_triangle {i} o = record {
    turns = s.turns i o.used;
    is_a = vertex_master i o.used 0;
    is_b = vertex_master i o.used 1;
    is_c = vertex_master i o.used 2;
    empty = λ q (k, l, e). subst (λ x. MissesAt h m x i) e (s.empty i o k l);
  }
