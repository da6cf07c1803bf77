-- More on the edges of a hole: by which words the proofs and the code's contracts speak of them.
use Rattle.std.specs.Prelude.{ℕ, Bool, List, None, ◌++◌}
use Rattle.mesh.specs.declared.edge.Edge as code
use Rattle.mesh.specs.declared.node.Node.{Node}
use Rattle.mesh.specs.Placing.{Edge, start, finish, across, side_edges}

-- An edge of the hole, under a name beside which other crates can have edges of their own.
abbrev pub HoleEdge : Type 0
HoleEdge = Edge

-- What is read past the last edge of a hole.
abbrev pub no_edge : Edge
no_edge = record { father = 0; side = 0; from = 0; to = 0; beyond = None }

-- The edge e of node i: the masters between which it runs, and the node across.
abbrev pub edge_of : ℕ → Node → ℕ → Edge
edge_of i n e = record { father = i; side = e; from = start n e; to = finish n e; beyond = across n e }

-- The edges of a killed node that belong to the hole.
abbrev pub node_edges : List Bool → ℕ → Node → List Edge
node_edges doomed i n = side_edges doomed i n 0 ++ (side_edges doomed i n 1 ++ side_edges doomed i n 2)

-- An edge as the code keeps it is the edge with the same entries.
abbrev pub shown : code.Edge → Edge
shown e = record { father = e.father; side = e.side; from = e.from; to = e.to; beyond = e.beyond }
