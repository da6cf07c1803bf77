-- The doubled areas of the live triangles of a sound tree add up to that of the plane.
use Rattle.std.proofs.Common.{◌≡◌, [], ◌∷◌, length, pos, neg_ℤ, sym, ap, ◌∙◌}
use Rattle.algebra.specs.Sums.{sum, only}
use Rattle.algebra.proofs.Polynomials.{◌⊗◌, ◌⊖◌, ⊝◌, solve}
use Rattle.algebra.proofs.Sums.{sum_cong}
use Rattle.plane.specs.declared.position.Position.{Position}
use Rattle.plane.specs.Measures.{Heights}
use Rattle.plane.specs.Turns.{point, values, flat, area, areas}
use Rattle.mesh.specs.Owner.{node, vertex}
use Rattle.mesh.specs.Placing.{live}
use Rattle.mesh.specs.Tree.{Mesh}
use Rattle.mesh_laws.specs.Laws.{total_at}
use Rattle.mesh_laws.specs.Sound.{Sound}
use Rattle.mesh_laws.proofs.EdgeSums.{sum_round}

area_anti : (a b : Position) → area a b ≡ neg_ℤ (area b a)
area_anti a b =
    let A = point 0 in
    let B = point 1 in
    solve (A.pu ⊗ B.pv ⊖ A.pv ⊗ B.pu) (⊝ (B.pu ⊗ A.pv ⊖ B.pv ⊗ A.pu)) tt (values flat (a ∷ b ∷ []) [])

pub area_sum : {h : Heights} {m : Mesh} → Sound h m →
    sum (length m.nodes) (λ i. only (live (node m i)) (total_at m i)) ≡ pos 33554432
area_sum {m = m} s =
    sum_cong (length m.nodes)
    (λ i l. ap (only (live (node m i))) (sym (areas (vertex m i 0) (vertex m i 1) (vertex m i 2))))
    ∙ sum_round s area area_anti
