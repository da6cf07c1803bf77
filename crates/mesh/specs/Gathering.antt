-- The hole as the code keeps it: all its edges are counted, and kept as long as there is room for their nodes.
use Rattle.std.specs.Prelude.{◌≡◌, ◌≤◌, List, length, take, map}
use Rattle.mesh.specs.declared.hole.Hole.{Hole}
use Rattle.mesh.specs.Edges.{HoleEdge, shown}

pub record Gathered (hole : Hole) (es : List HoleEdge) : Type 0 where
  pub room : length hole.edges ≡ 1024
  pub counted : hole.count ≡ length es
  pub kept : hole.count ≤ 1024 → map shown (take hole.count hole.edges) ≡ es
