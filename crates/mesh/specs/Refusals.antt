-- The refusals of the tree: the number and the named values of each case, and the rows that each call tries.
use Rattle.std.specs.Prelude.{ℕ, ◌+◌, Bool, not, ◌&&◌, List, [], ◌∷◌, ◌++◌, map, length, is_some, Some, None, Option, ◌==◌, nat_le, nat_lt}
use Rattle.plane.specs.declared.position.Position.{Position}
use Rattle.plane.specs.Measures.{Heights}
use Rattle.plane.specs.Refusal.{Refusal, Row}
use Rattle.mesh.specs.declared.fault.NodeFault.{NodeFault}
use Rattle.mesh.specs.declared.fault.NodeFault.TheVariants.{NoSuchNode}
use Rattle.mesh.specs.declared.fault.PlaceFault.{PlaceFault}
use Rattle.mesh.specs.declared.fault.PlaceFault.TheVariants.{NotInside, Taken, MastersFull, NodesFull}
use Rattle.mesh.specs.declared.node.Node.{Node}
use Rattle.mesh.specs.Placing.{kills, hole}
use Rattle.mesh.specs.Search.{first_at}
use Rattle.mesh.specs.Tree.{Mesh}

-- What the case of NodeFault says, and the row of reading node i.
abbrev pub node_refusal : NodeFault → Refusal
node_refusal NoSuchNode = record { number = 6; names = [] }

abbrev pub node_rows : List Node → ℕ → List Row
node_rows nodes i = record { applies = nat_le (length nodes) i; answer = node_refusal NoSuchNode } ∷ []

-- What each case of PlaceFault says.
abbrev pub place_refusal : PlaceFault → Refusal
place_refusal NotInside = record { number = 2; names = [] }
place_refusal (Taken m) = record { number = 3; names = m ∷ [] }
place_refusal MastersFull = record { number = 4; names = [] }
place_refusal NodesFull = record { number = 5; names = [] }

-- Both coordinates are from 1 to 4,095.
abbrev pub inside : Position → Bool
inside p = nat_lt 0 p.u && (nat_lt p.u 4096 && (nat_lt 0 p.v && nat_lt p.v 4096))

abbrev pub same_position : Position → Position → Bool
same_position a b = a.u == b.u && a.v == b.v

-- The master that stands at p, by its number.
abbrev pub master_at : List Position → Position → Option ℕ
master_at ms p = first_at (λ q. same_position q p) 0 ms

abbrev pub number : Option ℕ → ℕ
number None = 0
number (Some m) = m

abbrev pub place_row : Bool → PlaceFault → Row
place_row when f = record { applies = when; answer = place_refusal f }

-- The rows of placing p: the position is not inside, it is taken, there are 128 masters already, and the nodes in use with those to be made,
-- one for each edge of the hole, exceed 1,024.
abbrev pub master_rows : List Position → Position → List Row
master_rows ms p =
    place_row (not (inside p)) NotInside
    ∷ place_row (is_some (master_at ms p)) (Taken (number (master_at ms p)))
    ∷ place_row (nat_le 128 (length ms)) MastersFull
    ∷ []

abbrev pub nodes_row : List Bool → List Node → Row
nodes_row doomed ns = place_row (nat_lt 1024 (length ns + length (hole doomed 0 ns))) NodesFull

abbrev pub place_rows : Heights → Mesh → Position → List Row
place_rows h m p = master_rows m.masters p ++ nodes_row (map (kills h m.masters p) m.nodes) m.nodes ∷ []
