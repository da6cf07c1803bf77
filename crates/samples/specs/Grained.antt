-- A measure that is neither a form nor a table: twice the squared distance from the corner, and a grain of 1 where both coordinates
-- are odd.
use Rattle.std.specs.Prelude.{ℕ, ◌+◌, ◌*◌, ◌%◌, pos}
use Rattle.plane.specs.Measures.{Heights, only_in_plane}
use Rattle.plane.specs.declared.position.Position.{Position}

-- 1 where both coordinates are odd, else 0
unfoldable pub grain : Position → ℕ
grain p = (p.u % 2) * (p.v % 2)

abbrev pub grained : Heights
grained p = pos (2 * (p.u * p.u) + 2 * (p.v * p.v) + grain p)

abbrev pub grained_height : Heights
grained_height = only_in_plane grained
