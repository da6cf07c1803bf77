-- A sound tree: what holds of the tree of every family, and what placing keeps.
use Rattle.std.specs.Prelude.{◌≡◌, ℕ, ◌<◌, ◌≤◌, true, ◌≢◌, ◌⊎◌, List, ◌++◌, length, ℤ, ◌+ℤ◌, Some, None, Option}
use Rattle.plane.specs.declared.position.Position.{Position}
use Rattle.plane.specs.Plane.{InPlane, Left}
use Rattle.plane.specs.Measures.{Heights}
use Rattle.plane.specs.Rings.{Inside, NotIn, NotOut}
use Rattle.plane.specs.Holes.{Border}
use Rattle.algebra.specs.Sums.{Antisymmetric}
use Rattle.algebra.specs.Tables.{OnLive, Twinned, edge_sum}
use Rattle.mesh.specs.Owner.{node, vertex, LiveNode}
use Rattle.mesh.specs.Placing.{stand}
use Rattle.mesh.specs.Reached.{Son}
use Rattle.mesh.specs.Tree.{Mesh, corners}
use Rattle.mesh_laws.specs.Places.{table}
use Rattle.mesh_laws.specs.Steps.{AllFormed}

-- The ring of node i holds q, reaches q (q is inside it or on it), does not hold q.
abbrev pub HoldsAt : Heights → Mesh → Position → ℕ → Type 0
HoldsAt h m q i = Inside h (vertex m i 0) (vertex m i 1) (vertex m i 2) q

abbrev pub ReachesAt : Heights → Mesh → Position → ℕ → Type 0
ReachesAt h m q i = NotOut h (vertex m i 0) (vertex m i 1) (vertex m i 2) q

abbrev pub MissesAt : Heights → Mesh → Position → ℕ → Type 0
MissesAt h m q i = NotIn h (vertex m i 0) (vertex m i 1) (vertex m i 2) q

-- What P says of the stepfather of node i, where it has one.
abbrev pub OfStepfather : Option ℕ → (ℕ → Type 0) → Type 0
OfStepfather None P = ⊥
OfStepfather (Some j) P = P j

-- Node i is among the sons of its father. Father and stepfather have lower numbers, and what the ring of i holds, one of theirs
-- holds; and so for what it reaches.
pub record Descends (h : Heights) (m : Mesh) (i : ℕ) : Type 0 where
  pub father : ℕ
  pub names : (node m i).father ≡ Some father
  pub older : father < i
  pub son : Son m father i
  pub step_older : (j : ℕ) → (node m i).stepfather ≡ Some j → j < i
  pub holds : (q : Position) → InPlane q → HoldsAt h m q i →
      HoldsAt h m q father ⊎ OfStepfather (node m i).stepfather (HoldsAt h m q)
  pub reaches : (q : Position) → InPlane q → ReachesAt h m q i →
      ReachesAt h m q father ⊎ OfStepfather (node m i).stepfather (ReachesAt h m q)

pub record Sound (h : Heights) (m : Mesh) : Type 0 where
  -- the corners are the first masters; masters stand in the plane, no two at one position
  pub placed_after : List Position
  pub begins : m.masters ≡ corners ++ placed_after
  pub housed : (k : ℕ) → k < length m.masters → InPlane (stand m.masters k)
  pub apart : (j k : ℕ) → j < k → k < length m.masters → stand m.masters j ≢ stand m.masters k
  -- nodes are formed and turn left
  pub two : 2 ≤ length m.nodes
  pub formed : AllFormed m
  pub turns : (i : ℕ) → i < length m.nodes → Left (vertex m i 0) (vertex m i 1) (vertex m i 2)
  -- each edge of a live node has its twin on the neighbour, or is on the border
  pub twinned : Twinned (table m)
  pub border : {x : ℕ} → OnLive (table m) x → (table m).border x ≡ true →
      Border (stand m.masters ((table m).from x)) (stand m.masters ((table m).to x))
  -- no master is inside the ring of a live node
  pub empty : (i : ℕ) → LiveNode m i → (k : ℕ) → k < length m.masters → MissesAt h m (stand m.masters k) i
  -- antisymmetric functions of the edges of live nodes sum to what they give along the border of the plane
  pub sums : (φ : ℕ → ℕ → ℤ) → Antisymmetric φ → edge_sum φ (table m) ≡ φ 0 1 +ℤ φ 1 2 +ℤ φ 2 3 +ℤ φ 3 0
  -- all nodes after the first two descend
  pub descent : (i : ℕ) → 2 ≤ i → i < length m.nodes → Descends h m i
