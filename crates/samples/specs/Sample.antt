-- The sample plane: examples of the documents as one list of tests, each computed from the definitions.
use Rattle.std.specs.Prelude.{ℕ, Bool, true, false, ◌&&◌, List, [], ◌∷◌, map, pos, Some, None, Option, ◌==◌, slice_index_or}
use Rattle.plane.specs.Measures.{Heights}
use Rattle.plane.specs.Weighted.{weighted_height}
use Rattle.mesh.specs.Placing.{tree}
use Rattle.mesh.specs.Tree.{Mesh, corner, fresh, born}
use Rattle.mesh.specs.declared.node.Node.{Node}

-- Tests of equality.
abbrev pub same : List ℕ → List ℕ → Bool
same [] [] = true
same [] (y ∷ ys) = false
same (x ∷ xs) [] = false
same (x ∷ xs) (y ∷ ys) = x == y && same xs ys

abbrev pub same_rows : List (List ℕ) → List (List ℕ) → Bool
same_rows [] [] = true
same_rows [] (y ∷ ys) = false
same_rows (x ∷ xs) [] = false
same_rows (x ∷ xs) (y ∷ ys) = same x y && same_rows xs ys

abbrev pub is : Option ℕ → ℕ → Bool
is None k = false
is (Some j) k = j == k

-- The measures A = B = 1, C = 0 and A = B = 2, C = 1.
abbrev pub round : Heights
round = weighted_height (pos 1) (pos 1) (pos 0)

abbrev pub slanted : Heights
slanted = weighted_height (pos 2) (pos 2) (pos 1)

abbrev pub triangles : Mesh → List (List ℕ)
triangles m = map (λ (n : Node). n.masters) m.nodes

abbrev pub node : Mesh → ℕ → Node
node m i = slice_index_or m.nodes i (born [] [] None None)

-- One placed master, then two.
abbrev pub one : Mesh
one = tree round (corner 1024 1024 ∷ [])

abbrev pub two : Mesh
two = tree round (corner 1024 1024 ∷ corner 3072 3072 ∷ [])

abbrev pub first_triangles : List (List ℕ)
first_triangles = (0 ∷ 1 ∷ 2 ∷ []) ∷ (0 ∷ 2 ∷ 3 ∷ []) ∷ []

abbrev pub examples : List Bool
examples =
    -- the first nodes, under both measures
    same_rows (triangles (fresh round)) first_triangles
    ∷ same_rows (triangles (fresh slanted)) ((0 ∷ 1 ∷ 3 ∷ []) ∷ (1 ∷ 2 ∷ 3 ∷ []) ∷ [])
    -- (1024, 1024) kills both and makes four
    ∷ is (node one 0).killer 4
    ∷ is (node one 1).killer 4
    ∷ same_rows (triangles one)
    ((0 ∷ 1 ∷ 2 ∷ []) ∷ (0 ∷ 2 ∷ 3 ∷ []) ∷ (0 ∷ 1 ∷ 4 ∷ []) ∷ (1 ∷ 2 ∷ 4 ∷ []) ∷ (2 ∷ 3 ∷ 4 ∷ []) ∷ (3 ∷ 0 ∷ 4 ∷ []) ∷ [])
    -- (3072, 3072) kills 3 and 4 and makes four more
    ∷ is (node two 3).killer 5
    ∷ is (node two 4).killer 5
    ∷ same (node two 6).masters (1 ∷ 2 ∷ 5 ∷ [])
    ∷ same (node two 7).masters (4 ∷ 1 ∷ 5 ∷ [])
    ∷ same (node two 8).masters (2 ∷ 3 ∷ 5 ∷ [])
    ∷ same (node two 9).masters (3 ∷ 4 ∷ 5 ∷ [])
    ∷ is (node two 7).father 3
    ∷ is (node two 7).stepfather 2
    ∷ []

abbrev pub all : List Bool → Bool
all [] = true
all (b ∷ bs) = b && all bs
