-- In a sound tree no three masters around a position have a smaller spread there than a live triangle has.
use Rattle.std.proofs.Common.{ℕ, [], ◌∷◌, ℤ, ◌-ℤ◌, ◌*ℤ◌, ◌≤ℤ◌, arith}
use Rattle.std.proofs.lemmas.Int.{ints}
use Rattle.algebra.proofs.Polynomials.{var, ◌⊗◌, ◌⊖◌, solve}
use Rattle.plane.specs.declared.position.Position.{Position}
use Rattle.plane.specs.Plane.{Around, turn}
use Rattle.plane.specs.Measures.{Heights}
use Rattle.plane.proofs.Spreads.{least_live}
use Rattle.mesh.specs.Owner.{vertex, LiveNode}
use Rattle.mesh.specs.Tree.{Mesh}
use Rattle.mesh_laws.specs.Laws.{spread, NotAbove}
use Rattle.mesh_laws.specs.Sound.{Sound}
use Rattle.mesh_laws.proofs.Masters.{IsMaster, live_triangle}

-- Both blends less the height z, each over its total.
less_height : (s t x y z : ℤ) → (t *ℤ x) ≤ℤ (s *ℤ y) → ((x -ℤ s *ℤ z) *ℤ t) ≤ℤ ((y -ℤ t *ℤ z) *ℤ s)
less_height s t x y z l =
    let ρ = s ∷ t ∷ x ∷ y ∷ z ∷ [] in
    let c = var 0 ⊗ var 1 ⊗ var 4 in
    let e = solve ((var 2 ⊖ var 0 ⊗ var 4) ⊗ var 1) (var 1 ⊗ var 2 ⊖ c) tt ρ in
    let f = solve ((var 3 ⊖ var 1 ⊗ var 4) ⊗ var 0) (var 0 ⊗ var 3 ⊖ c) tt ρ in
    omega (arith, ints)

pub least_spread : {h : Heights} {m : Mesh} → Sound h m → {i : ℕ} → LiveNode m i → {x y z q : Position} →
    IsMaster m x → IsMaster m y → IsMaster m z → Around x y z q →
    NotAbove (spread h (vertex m i 0) (vertex m i 1) (vertex m i 2) q) (spread h x y z q)
unfolding spread
least_spread {h} {m} s {i} o {x} {y} {z} {q} mx my mz r =
    record {
      not_above = less_height (turn (vertex m i 0) (vertex m i 1) (vertex m i 2)) (turn x y z) _ _ (h q)
          (least_live (live_triangle s o) mx my mz r);
    }
