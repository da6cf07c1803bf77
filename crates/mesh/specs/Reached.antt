-- The walk through the tree: which nodes are reached for a position.
use Rattle.std.specs.Prelude.{◌≡◌, ℕ, ◌<◌, true, length, Some, None, slice_index_or}
use Rattle.plane.specs.declared.position.Position.{Position}
use Rattle.plane.specs.Measures.{Heights}
use Rattle.mesh.specs.Placing.{holds}
use Rattle.mesh.specs.Owner.{node}
use Rattle.mesh.specs.Tree.{Mesh}

-- A son of node i is a node made through one of its edges; a stepson is a node whose stepfather it is.
pub record Son (m : Mesh) (i j : ℕ) : Type 0 where
  pub side : ℕ
  pub through : slice_index_or (node m i).sons side None ≡ Some j

pub record Stepson (m : Mesh) (i j : ℕ) : Type 0 where
  pub used : j < length m.nodes
  pub beside : (node m j).stepfather ≡ Some i

-- A node is reached for q when its ring holds q, and it is node 0 or 1, or a son or a stepson of a reached node.
pub data Reached (h : Heights) (m : Mesh) (q : Position) : ℕ → Type 0 where
  first : {i : ℕ} → i < 2 → holds h m.masters q (node m i) ≡ true → Reached h m q i
  by_son : {i j : ℕ} → Reached h m q i → Son m i j → holds h m.masters q (node m j) ≡ true → Reached h m q j
  by_stepson : {i j : ℕ} → Reached h m q i → Stepson m i j → holds h m.masters q (node m j) ≡ true → Reached h m q j
