-- The tree of a family, by its lists of masters and of nodes.
use Rattle.std.specs.Prelude.{ℕ, Bool, cond, List, [], ◌∷◌, ◌+ℤ◌, Some, None, Option, int_le}
use Rattle.plane.specs.declared.position.Position.{Position}
use Rattle.plane.specs.Measures.{Heights}
use Rattle.mesh.specs.declared.node.Node.{Node}

-- The masters' positions, by number, and the nodes, by number, dead ones counted.
pub record Mesh : Type 0 where
  pub masters : List Position
  pub nodes : List Node

-- The corners, masters 0 to 3.
abbrev pub corner : ℕ → ℕ → Position
corner u v = record { u = u; v = v }

abbrev pub corners : List Position
corners = corner 0 0 ∷ corner 4096 0 ∷ corner 4096 4096 ∷ corner 0 4096 ∷ []

-- A node as it is made: live and without sons.
abbrev pub born : List ℕ → List (Option ℕ) → Option ℕ → Option ℕ → Node
born masters neighbours father stepfather = record {
  masters = masters;
  neighbours = neighbours;
  father = father;
  stepfather = stepfather;
  killer = None;
  sons = None ∷ None ∷ None ∷ [];
}

-- Whether the heights of corners 0 and 2 together are at most those of 1 and 3.
unfoldable pub flat_diagonal : Heights → Bool
flat_diagonal h = int_le (h (corner 0 0) +ℤ h (corner 4096 4096)) (h (corner 4096 0) +ℤ h (corner 0 4096))

-- The first two nodes are neighbours across the diagonal of less height, 0–2 where both are level.
abbrev pub first_nodes : Bool → List Node
first_nodes flat =
    cond flat
    (born (0 ∷ 1 ∷ 2 ∷ []) (None ∷ None ∷ Some 1 ∷ []) None None
    ∷ born (0 ∷ 2 ∷ 3 ∷ []) (Some 0 ∷ None ∷ None ∷ []) None None
    ∷ [])
    (born (0 ∷ 1 ∷ 3 ∷ []) (None ∷ Some 1 ∷ None ∷ []) None None
    ∷ born (1 ∷ 2 ∷ 3 ∷ []) (None ∷ None ∷ Some 0 ∷ []) None None
    ∷ [])

-- A family without placed masters.
unfoldable pub fresh : Heights → Mesh
fresh h = record { masters = corners; nodes = first_nodes (flat_diagonal h) }
