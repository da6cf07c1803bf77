-- The tables without their filler: the masters and the nodes that are in use.
use Rattle.std.specs.Prelude.{take}
use Rattle.mesh.specs.declared.tables.Tables.{Tables}
use Rattle.mesh.specs.Tree.{Mesh}

abbrev pub in_use : Tables → Mesh
in_use t = record { masters = take t.count t.positions; nodes = take t.used t.nodes }
