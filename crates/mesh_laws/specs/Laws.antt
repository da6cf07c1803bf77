-- The laws of a family's tree, in the words of the plane.
use Rattle.std.specs.Prelude.{◌≡◌, ℕ, ◌<◌, ◌≤◌, true, ◌≢◌, List, [], ◌∷◌, length, get_or, ℤ, pos, ◌-ℤ◌, ◌*ℤ◌, ◌≤ℤ◌, Some, None, slice_index_or}
use Rattle.plane.specs.declared.position.Position.{Position}
use Rattle.plane.specs.Plane.{InPlane, Within, turn, Left, Around}
use Rattle.plane.specs.Measures.{Heights, Supported}
use Rattle.plane.specs.Rings.{blend}
use Rattle.mesh.specs.Owner.{node, vertex, LiveNode, Owner}
use Rattle.plane.specs.Holes.{Border}
use Rattle.algebra.specs.Sums.{sum, only}
use Rattle.mesh.specs.Placing.{stand, start, finish, across, live, holds, placed, tree}
use Rattle.mesh.specs.Reached.{Reached}
use Rattle.mesh.specs.Tree.{Mesh, corner}
use Rattle.mesh_laws.specs.Sound.{MissesAt}
use Rattle.mesh_laws.specs.Steps.{Step}

-- Masters that placings accept one after the other: each is inside the plane, and no two stand at one position.
pub record Placeable (ps : List Position) : Type 0 where
  pub inside : (k : ℕ) → k < length ps → Within (slice_index_or ps k (corner 0 0))
  pub apart : (j k : ℕ) → j < k → k < length ps → slice_index_or ps j (corner 0 0) ≢ slice_index_or ps k (corner 0 0)

-- A spread is a fraction: the heights of a, b, c summed by their weights at q, over the total, less the height of q.
pub record Fraction : Type 0 where
  pub over : ℤ
  pub under : ℤ

unfoldable pub spread : Heights → Position → Position → Position → Position → Fraction
spread h a b c q = record { over = blend h a b c q -ℤ turn a b c *ℤ h q; under = turn a b c }

-- x is not above y; both are over positive numbers.
pub record NotAbove (x y : Fraction) : Type 0 where
  pub not_above : (x.over *ℤ y.under) ≤ℤ (y.over *ℤ x.under)

-- The weight of the master e of node i at q: the turn of q with the two others.
abbrev pub weights_at : Mesh → ℕ → Position → List ℤ
weights_at m i q =
    turn q (vertex m i 1) (vertex m i 2) ∷ turn q (vertex m i 2) (vertex m i 0) ∷ turn q (vertex m i 0) (vertex m i 1) ∷ []

abbrev pub total_at : Mesh → ℕ → ℤ
total_at m i = turn (vertex m i 0) (vertex m i 1) (vertex m i 2)

-- The master k is a vertex of node i, and has the whole total as its weight at q.
pub record Alone (m : Mesh) (i k : ℕ) (q : Position) : Type 0 where
  pub side : ℕ
  pub side_in : side < 3
  pub is_vertex : start (node m i) side ≡ k
  pub whole : get_or (weights_at m i q) side (pos 0) ≡ total_at m i

-- Node j runs back along the edge e of node i, and names i across its own edge there.
pub record RunsBack (m : Mesh) (i e j : ℕ) : Type 0 where
  pub is_live : LiveNode m j
  pub side : ℕ
  pub side_in : side < 3
  pub starts : start (node m j) side ≡ finish (node m i) e
  pub ends : finish (node m j) side ≡ start (node m i) e
  pub names : across (node m j) side ≡ Some i

-- The entry of a live node i for its edge e is right: none exactly on the border, and else the live triangle on the other side.
pub record RightEntry (m : Mesh) (i e : ℕ) : Type 0 where
  pub none : across (node m i) e ≡ None → Border (vertex m i e) (stand m.masters (finish (node m i) e))
  pub border : Border (vertex m i e) (stand m.masters (finish (node m i) e)) → across (node m i) e ≡ None
  pub some : (j : ℕ) → across (node m i) e ≡ Some j → RunsBack m i e j

-- Node i is new in m', which has more nodes than m.
pub record NewNode (m m' : Mesh) (i : ℕ) : Type 0 where
  pub behind : length m.nodes ≤ i
  pub used : i < length m'.nodes

-- The new node j is the only one that has the end of its edge e at b.
pub record OnlyOne (m m' : Mesh) (e b j : ℕ) : Type 0 where
  pub is_new : NewNode m m' j
  pub meets : start (node m' j) e ≡ b
  pub only : (k : ℕ) → NewNode m m' k → start (node m' k) e ≡ b → k ≡ j

-- Placing p kills a live triangle and makes nodes that all turn left, each over an edge that has p, their third master, strictly on its
-- left. Each spoke, the edge between p and another master, is shared by exactly two of them: the one whose edge 0 ends there and the
-- one whose edge 0 starts there.
pub record Opens (h : Heights) (m : Mesh) (p : Position) (m' : Mesh) : Type 0 where
  pub victim : ℕ
  pub was_live : LiveNode m victim
  pub held : holds h m.masters p (node m victim) ≡ true
  pub turns : (i : ℕ) → NewNode m m' i →
      Left (vertex m' i 0) (vertex m' i 1) p × (start (node m' i) 2 ≡ length m.masters)
  pub next : (i : ℕ) → NewNode m m' i → (j : ℕ) × (j ≢ i) × OnlyOne m m' 0 (start (node m' i) 1) j
  pub previous : (i : ℕ) → NewNode m m' i → (j : ℕ) × (j ≢ i) × OnlyOne m m' 1 (start (node m' i) 0) j

-- No master stands at p.
pub record Free (m : Mesh) (p : Position) : Type 0 where
  pub free : (k : ℕ) → k < length m.masters → stand m.masters k ≢ p

-- The laws of a tree m under the heights h.
pub record Lawful (h : Heights) (m : Mesh) : Type 0 where
  -- each inside position has an owner, and no other live triangle owns it
  pub owned : (q : Position) → Within q → (i : ℕ) × Owner m q i
  -- no three masters that turn left around it have a smaller spread there
  pub least : (q : Position) (i : ℕ) → Within q → Owner m q i → (x y z : ℕ) →
      x < length m.masters → y < length m.masters → z < length m.masters →
      Around (stand m.masters x) (stand m.masters y) (stand m.masters z) q →
      NotAbove (spread h (vertex m i 0) (vertex m i 1) (vertex m i 2) q)
      (spread h (stand m.masters x) (stand m.masters y) (stand m.masters z) q)
  -- no master is inside the ring of a live triangle
  pub empty : (i : ℕ) → LiveNode m i → (k : ℕ) → k < length m.masters → MissesAt h m (stand m.masters k) i
  -- the walk by sons and stepsons reaches every live triangle whose ring holds a position of the plane
  pub walk : (q : Position) → InPlane q → (i : ℕ) → LiveNode m i → holds h m.masters q (node m i) ≡ true → Reached h m q i
  -- at a master's own position the owner gives it the whole total
  pub own_place : (k : ℕ) → k < length m.masters → Within (stand m.masters k) → (i : ℕ) →
      Owner m (stand m.masters k) i → Alone m i k (stand m.masters k)
  -- the entries of live triangles for their neighbours are right
  pub neighbours : (i : ℕ) → LiveNode m i → (e : ℕ) → e < 3 → RightEntry m i e
  -- there is always a hole
  pub opens : (p : Position) → Within p → Free m p → Opens h m p (placed h m p)
  -- the doubled areas of the live triangles add up to that of the plane
  pub areas : sum (length m.nodes) (λ i. only (live (node m i)) (total_at m i)) ≡ pos 33554432
  -- no position holds two masters
  pub apart : (j k : ℕ) → j < k → k < length m.masters → stand m.masters j ≢ stand m.masters k

-- They hold of the tree of every family, for every measure that keeps its law.
abbrev pub Laws : Type 0
Laws = (h : Heights) → Supported h → (ps : List Position) → Placeable ps → Lawful h (tree h ps)

-- What placing a further master makes of such a tree, entry by entry.
abbrev pub PlacingLaws : Type 0
PlacingLaws =
    (h : Heights) → Supported h → (ps : List Position) → Placeable ps → (p : Position) → Within p → Step h (tree h ps) p (placed h (tree h ps) p)

-- A family of two placed masters.
abbrev pub sample : List Position
sample = corner 1024 1024 ∷ corner 3072 3072 ∷ []
