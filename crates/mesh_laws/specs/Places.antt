-- The tree of a family by places: the place 3 i + e is the edge e of node i.
use Rattle.std.specs.Prelude.{ℕ, ◌/◌, ◌%◌, Bool, false, not, map, length, is_some, Some, None, Option, slice_index_or}
use Rattle.plane.specs.declared.position.Position.{Position}
use Rattle.plane.specs.Measures.{Heights}
use Rattle.algebra.specs.Tables.{Table}
use Rattle.mesh.specs.Owner.{node}
use Rattle.mesh.specs.Placing.{start, finish, across, live, kills}
use Rattle.mesh.specs.Tree.{Mesh}

-- The number in an entry; 0 where there is none.
abbrev pub number : Option ℕ → ℕ
number None = 0
number (Some j) = j

-- What stands across a place.
abbrev pub entry_at : Mesh → ℕ → Option ℕ
entry_at m x = across (node m (x / 3)) (x % 3)

-- The table of a tree.
unfoldable pub table : Mesh → Table
table m = record {
  size = length m.nodes;
  from = λ x. start (node m (x / 3)) (x % 3);
  to = λ x. finish (node m (x / 3)) (x % 3);
  live = λ i. live (node m i);
  border = λ x. not (is_some (entry_at m x));
  across = λ x. number (entry_at m x);
}

-- Whether p kills node i.
unfoldable pub killed : Heights → Mesh → Position → ℕ → Bool
killed h m p i = slice_index_or (map (kills h m.masters p) m.nodes) i false

-- No edge of the hole is in line with a new master inside the plane.
abbrev pub flat : ℕ → Bool
flat x = false
