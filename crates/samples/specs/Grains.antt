-- The laws of the grained measure: a step away gains 4 or more from the squares, and loses at most 2 by the grain.
use Rattle.std.specs.Prelude.{◌≡◌, ℕ, ◌%◌, ◌≤◌, ◌≢◌, [], ◌∷◌, ℤ, pos, ◌+ℤ◌, ◌-ℤ◌, ◌*ℤ◌, ◌≤ℤ◌, ◌<ℤ◌}
use Rattle.std.proofs.Common.{sym, subst, mul-le-mul, arith}
use Rattle.std.proofs.Math.Decide.{ℕ_discrete}
use Rattle.std.proofs.lemmas.Int.{ints}
use Rattle.algebra.proofs.Polynomials.{Expr, var, lit, ◌⊕◌, ◌⊗◌, ◌⊖◌, solve}
use Rattle.algebra.proofs.Signs.{square_nonneg, square_pos}
use Rattle.plane.specs.Measures.{Supported, Bounded, excess}
use Rattle.plane.specs.Plane.{along_u, along_v}
use Rattle.plane.specs.declared.position.Position.{Position}
use Rattle.plane.specs.InPlane.{bounded_in_plane, support_in_plane}
use Rattle.plane.specs.LiveTriangles.{same_position}
use Rattle.samples.specs.Grained.{grain, grained, grained_height}

pub grain_small : (p : Position) → grain p ≤ 1
unfolding grain
grain_small p =
    let u : p.u % 2 ≤ 1 = omega arith in
    let v : p.v % 2 ≤ 1 = omega arith in
    mul-le-mul u v

pub grained_bounded : Bounded grained_height
grained_bounded =
    bounded_in_plane grained
    (λ p i.
    let u = mul-le-mul i.u_in i.u_in in
    let v = mul-le-mul i.v_in i.v_in in
    omega (arith, ints, grain_small p))

-- What q gains over the slopes at p: four times the squared distance, and twice the difference of the grains.
gain : (p q : Position)
    → excess grained (pos 8 *ℤ pos p.u) (pos 8 *ℤ pos p.v) p q
    ≡ pos 4 *ℤ (along_u p q *ℤ along_u p q +ℤ along_v p q *ℤ along_v p q) +ℤ pos 2 *ℤ (pos (grain q) -ℤ pos (grain p))
gain p q =
    let two = lit (pos 2) in
    let eight = lit (pos 8) in
    let height = λ (u v g : Expr). two ⊗ (u ⊗ u) ⊕ two ⊗ (v ⊗ v) ⊕ g in
    let du = var 3 ⊖ var 0 in
    let dv = var 4 ⊖ var 1 in
    solve
    (two ⊗ height (var 3) (var 4) (var 5)
    ⊖ (two ⊗ height (var 0) (var 1) (var 2) ⊕ (eight ⊗ var 0) ⊗ du ⊕ (eight ⊗ var 1) ⊗ dv))
    (lit (pos 4) ⊗ (du ⊗ du ⊕ dv ⊗ dv) ⊕ two ⊗ (var 5 ⊖ var 2)) tt
    (pos p.u ∷ pos p.v ∷ pos (grain p) ∷ pos q.u ∷ pos q.v ∷ pos (grain q) ∷ [])

-- positions that differ do so along u or along v
far : (p q : Position) → q ≢ p → pos 1 ≤ℤ (along_u p q *ℤ along_u p q +ℤ along_v p q *ℤ along_v p q)
far p q n = by (ℕ_discrete q.u p.u) (ℕ_discrete q.v p.v)
  where
    by : Dec (q.u ≡ p.u) → Dec (q.v ≡ p.v) → pos 1 ≤ℤ (along_u p q *ℤ along_u p q +ℤ along_v p q *ℤ along_v p q)
    by (no e) f = plus _ _ (square_pos (along_u p q) (λ z. e (omega (arith, ints)))) (square_nonneg (along_v p q))
      where
        plus : (x y : ℤ) → pos 0 <ℤ x → pos 0 ≤ℤ y → pos 1 ≤ℤ (x +ℤ y)
        plus x y h k = omega (arith, ints)
    by (yes e) (no f) = plus _ _ (square_nonneg (along_u p q)) (square_pos (along_v p q) (λ z. f (omega (arith, ints))))
      where
        plus : (x y : ℤ) → pos 0 ≤ℤ x → pos 0 <ℤ y → pos 1 ≤ℤ (x +ℤ y)
        plus x y h k = omega (arith, ints)
    by (yes e) (yes f) = absurd (n (same_position e f))

pub grained_supported : Supported grained_height
grained_supported p i =
    support_in_plane grained p i
    (record {
      s = pos 8 *ℤ pos p.u;
      t = pos 8 *ℤ pos p.v;
      above =
          λ q j n.
          subst (λ (z : ℤ). pos 0 <ℤ z) (sym (gain p q)) (more _ (grain p) (grain q) (far p q n) (grain_small p));
    })
  where
    more : (d : ℤ) (m n : ℕ) → pos 1 ≤ℤ d → m ≤ 1 → pos 0 <ℤ (pos 4 *ℤ d +ℤ pos 2 *ℤ (pos n -ℤ pos m))
    more d m n h k = omega (arith, ints)
