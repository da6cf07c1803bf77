-- The places of a tree in the plane: where each starts and ends, and its node as a triangle named from it.
use Rattle.std.proofs.Common.{◌≡◌, ℕ, zero, suc, ◌/◌, ◌%◌, ◌<◌, length, refl, arith}
use Rattle.plane.specs.declared.position.Position.{Position}
use Rattle.plane.specs.Measures.{Heights}
use Rattle.plane.specs.Holes.{Live}
use Rattle.plane.specs.LiveTriangles.{live_turned}
use Rattle.plane.proofs.Sides.{Triangle, from, to, apex, each_side}
use Rattle.algebra.specs.Tables.{OnLive}
use Rattle.algebra.proofs.Passing.{among}
use Rattle.mesh.specs.Owner.{node, vertex, LiveNode}
use Rattle.mesh.specs.Placing.{stand, start, finish, next}
use Rattle.mesh.specs.Tree.{Mesh}
use Rattle.mesh_laws.specs.Places.{table}
use Rattle.mesh_laws.specs.Sound.{Sound}
use Rattle.mesh_laws.proofs.Masters.{IsMaster, live_triangle}

-- The triangle of a node.
abbrev pub triangle : Mesh → ℕ → Triangle
triangle m i = record { a = vertex m i 0; b = vertex m i 1; c = vertex m i 2 }

-- Where a place starts and ends, and the third vertex of its node.
abbrev pub from_at : Mesh → ℕ → Position
from_at m x = stand m.masters ((table m).from x)

abbrev pub to_at : Mesh → ℕ → Position
to_at m x = stand m.masters ((table m).to x)

abbrev pub apex_at : Mesh → ℕ → Position
apex_at m x = apex (triangle m (x / 3)) (x % 3)

-- They are the vertices of its triangle.
from_is : (m : Mesh) (x : ℕ) → from_at m x ≡ from (triangle m (x / 3)) (x % 3)
unfolding table
from_is m x = side (x % 3) (omega arith)
  where
    side : (e : ℕ) → e < 3 → stand m.masters (start (node m (x / 3)) e) ≡ from (triangle m (x / 3)) e
    side zero l = refl
    side (suc zero) l = refl
    side (suc (suc zero)) l = refl
    side (suc (suc (suc e))) l = absurd (omega arith)

to_is : (m : Mesh) (x : ℕ) → to_at m x ≡ to (triangle m (x / 3)) (x % 3)
unfolding table
to_is m x = side (x % 3)
  where
    side : (e : ℕ) → stand m.masters (finish (node m (x / 3)) e) ≡ to (triangle m (x / 3)) e
    side zero = refl
    side (suc zero) = refl
    side (suc (suc e)) = refl

-- What P says of the triangle of node i.
abbrev pub OfNode : (Position → Position → Position → Type 0) → Mesh → ℕ → Type 0
OfNode P m i = P (vertex m i 0) (vertex m i 1) (vertex m i 2)

-- What can be turned round holds of a node where it holds named from one of its places, and then from each of them.
abbrev pub Turns : (Position → Position → Position → Type 0) → Type 0
Turns P = (a b c : Position) → P a b c → P b c a

module _ (P : Position → Position → Position → Type 0) (turned : Turns P) where
  pub from_node : (m : Mesh) (x : ℕ) → OfNode P m (x / 3) → P (from_at m x) (to_at m x) (apex_at m x)
  from_node m x i = rw (from_is m x, to_is m x) (each_side P turned (triangle m (x / 3)) (x % 3) i)

  first_side : (t : Triangle) (e : ℕ) → P (from t e) (to t e) (apex t e) → P t.a t.b t.c
  first_side t zero i = i
  first_side t (suc zero) i = turned t.c t.a t.b (turned t.b t.c t.a i)
  first_side t (suc (suc e)) i = turned t.c t.a t.b i

  pub from_place : (m : Mesh) (x : ℕ) → P (from_at m x) (to_at m x) (apex_at m x) → OfNode P m (x / 3)
  from_place m x i = first_side (triangle m (x / 3)) (x % 3) (rw (from_is m x, to_is m x) at i)

-- Live places are the places of live nodes,
pub node_of : {m : Mesh} {x : ℕ} → OnLive (table m) x → LiveNode m (x / 3)
unfolding table
node_of a = let l = a.below in record { used = omega arith; lives = a.passes }

pub place_of : {m : Mesh} (x : ℕ) → LiveNode m (x / 3) → OnLive (table m) x
unfolding table
place_of x o = let l = o.used in among (omega arith) o.lives

module _ {h : Heights} {m : Mesh} (s : Sound h m) where
  -- run from master to master,
  pub from_in : {x : ℕ} → OnLive (table m) x → (table m).from x < length m.masters
  unfolding table
  from_in {x} a = (s.formed (x / 3) (node_of {m = m} a).used).masters_in (x % 3)

  pub to_in : {x : ℕ} → OnLive (table m) x → (table m).to x < length m.masters
  unfolding table
  to_in {x} a = (s.formed (x / 3) (node_of {m = m} a).used).masters_in (next (x % 3))

  -- and name live triangles.
  pub live_place : {x : ℕ} → OnLive (table m) x → Live h (IsMaster m) (from_at m x) (to_at m x) (apex_at m x)
  live_place {x} a = from_node (Live h (IsMaster m)) (λ a b c o. live_turned o) m x (live_triangle s (node_of a))
