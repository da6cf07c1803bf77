-- Owners: which live triangle an inside position belongs to.
use Rattle.std.specs.Prelude.{◌≡◌, ℕ, ◌<◌, true, length, slice_index_or}
use Rattle.plane.specs.declared.position.Position.{Position}
use Rattle.plane.specs.Plane.{Owns}
use Rattle.mesh.specs.declared.node.Node.{Node}
use Rattle.mesh.specs.Placing.{no_node, stand, start, live}
use Rattle.mesh.specs.Tree.{Mesh}

-- The node of a number.
abbrev pub node : Mesh → ℕ → Node
node m i = slice_index_or m.nodes i no_node

-- The position of the master e of node i.
abbrev pub vertex : Mesh → ℕ → ℕ → Position
vertex m i e = stand m.masters (start (node m i) e)

-- Node i is a live triangle: it is in use and has no killer.
pub record LiveNode (m : Mesh) (i : ℕ) : Type 0 where
  pub used : i < length m.nodes
  pub lives : live (node m i) ≡ true

-- Node i is a live triangle that owns q.
pub record OwnsAt (m : Mesh) (q : Position) (i : ℕ) : Type 0 where
  pub is_live : LiveNode m i
  pub owns : Owns (vertex m i 0) (vertex m i 1) (vertex m i 2) q

-- Node i is the owner of q: the only live triangle that owns it.
pub record Owner (m : Mesh) (q : Position) (i : ℕ) : Type 0 where
  pub owner : OwnsAt m q i
  pub only : (j : ℕ) → OwnsAt m q j → j ≡ i
