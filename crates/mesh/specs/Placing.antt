-- Placing a master, as the rule has it: what it kills, the edges of the hole, and the nodes that it makes.
use Rattle.std.specs.Prelude.{ℕ, zero, suc, Bool, true, false, cond, not, ◌&&◌, List, [], ◌∷◌, ◌++◌, map, length, pos, is_some, Some, None, Option, ◌==◌, int_lt, nat_eq, slice_index, slice_index_or, slice_set}
use Rattle.plane.specs.declared.position.Position.{Position}
use Rattle.plane.specs.Measures.{Heights}
use Rattle.plane.specs.Plane.{InPlane}
use Rattle.plane.specs.Rings.{K}
use Rattle.mesh.specs.declared.node.Node.{Node}
use Rattle.mesh.specs.Tree.{Mesh, corner, born, fresh}

-- The position of a master.
abbrev pub stand : List Position → ℕ → Position
stand ms m = slice_index_or ms m (corner 0 0)

-- What is read past the last node.
abbrev pub no_node : Node
no_node = record { masters = []; neighbours = []; father = None; stepfather = None; killer = None; sons = [] }

-- All masters stand in the plane.
abbrev pub Housed : List Position → Type 0
Housed ms = (m : ℕ) → InPlane (stand ms m)

-- Edge e of a node runs from its master e to the next one round.
abbrev pub next : ℕ → ℕ
next zero = 1
next (suc zero) = 2
next (suc (suc e)) = 0

abbrev pub start : Node → ℕ → ℕ
start n e = slice_index n.masters e

abbrev pub finish : Node → ℕ → ℕ
finish n e = slice_index n.masters (next e)

-- The node across an edge.
abbrev pub across : Node → ℕ → Option ℕ
across n e = slice_index_or n.neighbours e None

abbrev pub live : Node → Bool
live n = not (is_some n.killer)

-- The ring of a node holds p.
abbrev pub holds : Heights → List Position → Position → Node → Bool
holds h ms p n = int_lt (pos 0) (K h (stand ms (start n 0)) (stand ms (start n 1)) (stand ms (start n 2)) p)

-- The nodes that p kills: the live ones whose ring holds it.
abbrev pub kills : Heights → List Position → Position → Node → Bool
kills h ms p n = live n && holds h ms p n

-- An edge of the hole: the killed node and its edge, the masters between which it runs, and the node across.
pub record Edge : Type 0 where
  pub father : ℕ
  pub side : ℕ
  pub from : ℕ
  pub to : ℕ
  pub beyond : Option ℕ

-- Nothing is across, or a node that is not killed.
abbrev pub stays : List Bool → Option ℕ → Bool
stays doomed None = true
stays doomed (Some j) = not (slice_index_or doomed j false)

abbrev pub side_edges : List Bool → ℕ → Node → ℕ → List Edge
side_edges doomed i n e =
    cond (stays doomed (across n e))
    (record { father = i; side = e; from = start n e; to = finish n e; beyond = across n e } ∷ [])
    []

-- The edges of the hole, by ascending number of the killed node, and its edges 0, 1, 2. `doomed` says of each node whether it is
-- killed, and i is the number of the first node of the list.
abbrev pub hole : List Bool → ℕ → List Node → List Edge
hole doomed i [] = []
hole doomed i (n ∷ ns) =
    cond (slice_index_or doomed i false) (side_edges doomed i n 0 ++ (side_edges doomed i n 1 ++ side_edges doomed i n 2)) []
    ++ hole doomed (suc i) ns

-- The number of the first edge that passes a test, counted from k.
abbrev pub first_edge : (Edge → Bool) → ℕ → List Edge → Option ℕ
first_edge test k [] = None
first_edge test k (e ∷ es) = cond (test e) (Some k) (first_edge test (suc k) es)

-- The new node of an edge of the hole. Across its edges 1 and 2 stand the new nodes that share them: that of the edge which starts
-- where this one ends, and that of the edge which ends where this one starts. `used` is the number of the first new node.
abbrev pub new_node : ℕ → ℕ → List Edge → Edge → Node
new_node used p es e =
    born (e.from ∷ e.to ∷ p ∷ [])
    (e.beyond ∷ first_edge (λ f. nat_eq f.from e.to) used es ∷ first_edge (λ f. nat_eq f.to e.from) used es ∷ [])
    (Some e.father) e.beyond

-- A killed node gets its killer; `doomed` says of each node whether it is killed, and i is the number of the first.
abbrev pub with_killer : ℕ → Node → Node
with_killer p n = record {
  masters = n.masters;
  neighbours = n.neighbours;
  father = n.father;
  stepfather = n.stepfather;
  killer = Some p;
  sons = n.sons;
}

abbrev pub marked : ℕ → List Bool → ℕ → List Node → List Node
marked p doomed i [] = []
marked p doomed i (n ∷ ns) = cond (slice_index_or doomed i false) (with_killer p n) n ∷ marked p doomed (suc i) ns

-- It gets a son through each of its edges in the hole.
abbrev pub with_son : ℕ → ℕ → Node → Node
with_son e k n = record {
  masters = n.masters;
  neighbours = n.neighbours;
  father = n.father;
  stepfather = n.stepfather;
  killer = n.killer;
  sons = slice_set n.sons e (Some k);
}

-- In the node across only the entry for this edge changes: the one that runs back from b to a.
abbrev pub entry : ℕ → ℕ → ℕ → Node → ℕ → Option ℕ
entry a b k n e = cond (start n e == b && finish n e == a) (Some k) (across n e)

abbrev pub with_neighbour : ℕ → ℕ → ℕ → Node → Node
with_neighbour a b k n = record {
  masters = n.masters;
  neighbours = entry a b k n 0 ∷ entry a b k n 1 ∷ entry a b k n 2 ∷ [];
  father = n.father;
  stepfather = n.stepfather;
  killer = n.killer;
  sons = n.sons;
}

-- One node of a list is changed.
abbrev pub changed : (Node → Node) → ℕ → List Node → List Node
changed f i [] = []
changed f zero (n ∷ ns) = f n ∷ ns
changed f (suc i) (n ∷ ns) = n ∷ changed f i ns

abbrev pub changed_if : (Node → Node) → Option ℕ → List Node → List Node
changed_if f None ns = ns
changed_if f (Some i) ns = changed f i ns

-- The new nodes, one for each edge of the hole: each becomes a son of its father, and the neighbour of what was across.
abbrev pub grown : ℕ → ℕ → List Edge → List Edge → List Node → List Node
grown used p all [] ns = ns
grown used p all (e ∷ es) ns =
    grown used p all es
    (changed_if (with_neighbour e.from e.to (length ns)) e.beyond
    (changed (with_son e.side (length ns)) e.father ns)
    ++ new_node used p all e ∷ [])

-- What placing p makes of the nodes, where `doomed` says which it kills.
abbrev pub placed_nodes : ℕ → List Bool → List Node → List Node
placed_nodes p doomed ns = grown (length ns) p (hole doomed 0 ns) (hole doomed 0 ns) (marked p doomed 0 ns)

-- Placing p: the next master, and what it makes of the nodes.
unfoldable pub placed : Heights → Mesh → Position → Mesh
placed h m p = record {
  masters = m.masters ++ p ∷ [];
  nodes = placed_nodes (length m.masters) (map (kills h m.masters p) m.nodes) m.nodes;
}

-- The tree of a family: its masters after the corners, placed in their order.
abbrev pub placed_all : Heights → Mesh → List Position → Mesh
placed_all h m [] = m
placed_all h m (p ∷ ps) = placed_all h (placed h m p) ps

unfoldable pub tree : Heights → List Position → Mesh
tree h ps = placed_all h (fresh h) ps
