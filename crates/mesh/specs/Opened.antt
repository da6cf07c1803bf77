-- What placing makes of a tree where it is known which nodes are killed.
use Rattle.std.specs.Prelude.{◌≡◌, ℕ, Bool, List, [], ◌∷◌, ◌++◌, length}
use Rattle.plane.specs.declared.position.Position.{Position}
use Rattle.plane.specs.Measures.{Heights}
use Rattle.mesh.specs.Placing.{placed_nodes, placed}
use Rattle.mesh.specs.Tree.{Mesh}

-- p became the master n, the next one.
pub record Opened (m : Mesh) (p : Position) (doomed : List Bool) (n : ℕ) (m' : Mesh) : Type 0 where
  pub number : n ≡ length m.masters
  pub masters : m'.masters ≡ m.masters ++ p ∷ []
  pub nodes : m'.nodes ≡ placed_nodes (length m.masters) doomed m.nodes

-- p became the master n, the next one, and the tree is what placing it makes.
pub record Placed (h : Heights) (m : Mesh) (p : Position) (n : ℕ) (m' : Mesh) : Type 0 where
  pub number : n ≡ length m.masters
  pub tree : m' ≡ placed h m p
