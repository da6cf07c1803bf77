-- The sum over the edges of the live nodes, node by node.
use Rattle.std.proofs.Common.{◌≡◌, ℕ, ◌+◌, ◌*◌, ◌/◌, ◌%◌, Bool, true, false, length, ℤ, ◌+ℤ◌, neg_ℤ, sym, ap, ◌∙◌, arith}
use Rattle.std.proofs.lemmas.Int.{ints}
use Rattle.algebra.specs.Sums.{sum, only}
use Rattle.algebra.specs.Tables.{edge_sum}
use Rattle.algebra.proofs.Sums.{sum_cong, sum_thirds}
use Rattle.plane.specs.declared.position.Position.{Position}
use Rattle.plane.specs.Measures.{Heights}
use Rattle.mesh.specs.Owner.{node, vertex}
use Rattle.mesh.specs.Placing.{stand, start, finish, live}
use Rattle.mesh.specs.Tree.{Mesh, corner}
use Rattle.mesh_laws.specs.Places.{table}
use Rattle.mesh_laws.specs.Sound.{Sound}

only_three : (b : Bool) (x y z : ℤ) → only b x +ℤ only b y +ℤ only b z ≡ only b (x +ℤ y +ℤ z)
unfolding only
only_three true x y z = omega (arith, ints)
only_three false x y z = omega (arith, ints)

-- A function of edges, summed round node i.
abbrev pub round : (ℕ → ℕ → ℤ) → Mesh → ℕ → ℤ
round φ m i =
    φ (start (node m i) 0) (start (node m i) 1) +ℤ φ (start (node m i) 1) (start (node m i) 2)
    +ℤ φ (start (node m i) 2) (start (node m i) 0)

pub sum_by_nodes : (φ : ℕ → ℕ → ℤ) (m : Mesh) →
    edge_sum φ (table m) ≡ sum (length m.nodes) (λ i. only (live (node m i)) (round φ m i))
unfolding edge_sum table
sum_by_nodes φ m =
    sum_thirds (length m.nodes) (λ x. at (x / 3) (x % 3)) ∙ sum_cong (length m.nodes) (λ i l. by i)
  where
    edge : ℕ → ℕ → ℤ
    edge i e = φ (start (node m i) e) (finish (node m i) e)

    at : ℕ → ℕ → ℤ
    at i e = only (live (node m i)) (edge i e)

    here : (x i e : ℕ) → x / 3 ≡ i → x % 3 ≡ e → at (x / 3) (x % 3) ≡ at i e
    here x i e p q = rw (p, q)

    by : (i : ℕ) → at ((3 * i) / 3) ((3 * i) % 3) +ℤ at ((3 * i + 1) / 3) ((3 * i + 1) % 3) +ℤ
        at ((3 * i + 2) / 3) ((3 * i + 2) % 3) ≡ only (live (node m i)) (round φ m i)
    by i =
        let a = here (3 * i) i 0 (omega arith) (omega arith) in
        let b = here (3 * i + 1) i 1 (omega arith) (omega arith) in
        let c = here (3 * i + 2) i 2 (omega arith) (omega arith) in
        let s = only_three (live (node m i)) (edge i 0) (edge i 1) (edge i 2) in
        cc

-- A function of two positions, summed round node i, and round the plane.
abbrev pub round_node : (Position → Position → ℤ) → Mesh → ℕ → ℤ
round_node ψ m i =
    ψ (vertex m i 0) (vertex m i 1) +ℤ ψ (vertex m i 1) (vertex m i 2) +ℤ ψ (vertex m i 2) (vertex m i 0)

abbrev pub round_plane : (Position → Position → ℤ) → ℤ
round_plane ψ =
    ψ (corner 0 0) (corner 4096 0) +ℤ ψ (corner 4096 0) (corner 4096 4096) +ℤ ψ (corner 4096 4096) (corner 0 4096)
    +ℤ ψ (corner 0 4096) (corner 0 0)

-- If it is antisymmetric, the sum over the live nodes is that round the plane.
pub sum_round : {h : Heights} {m : Mesh} → Sound h m → (ψ : Position → Position → ℤ) →
    ((a b : Position) → ψ a b ≡ neg_ℤ (ψ b a)) →
    sum (length m.nodes) (λ i. only (live (node m i)) (round_node ψ m i)) ≡ round_plane ψ
sum_round {m = m} s ψ anti =
    let φ : ℕ → ℕ → ℤ = λ x y. ψ (stand m.masters x) (stand m.masters y) in
    sym (sum_by_nodes φ m)
    ∙ s.sums φ (λ a b. anti (stand m.masters a) (stand m.masters b))
    ∙ ap (λ ms. ψ (stand ms 0) (stand ms 1) +ℤ ψ (stand ms 1) (stand ms 2) +ℤ ψ (stand ms 2) (stand ms 3)
    +ℤ ψ (stand ms 3) (stand ms 0)) s.begins
