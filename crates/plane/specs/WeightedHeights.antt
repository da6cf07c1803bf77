-- The laws of the weighted measure: its form is positive away from 0, since A times it is a sum of squares.
use Rattle.std.specs.Prelude.{◌≡◌, ℕ, ◌*◌, ◌≤◌, true, ◌≢◌, [], ◌∷◌, ℤ, pos, ◌+ℤ◌, ◌-ℤ◌, ◌*ℤ◌, ◌≤ℤ◌, ◌<ℤ◌}
use Rattle.std.proofs.Common.{mul-le-mul, arith, sym, subst}
use Rattle.std.proofs.Math.Decide.{ℕ_discrete}
use Rattle.std.proofs.lemmas.Int.{ints}
use Rattle.std.proofs.lemmas.Bool.Decides.{nat_tests}
use Rattle.algebra.proofs.Certificates.{nonneg, positive}
use Rattle.algebra.proofs.Polynomials.{Expr, var, lit, ◌⊕◌, ◌⊗◌, ◌⊖◌, solve}
use Rattle.algebra.proofs.Signs.{abs_mul_le, square_nonneg, square_pos}
use Rattle.plane.specs.Measures.{Heights, Height, Supported, Bounded, excess}
use Rattle.plane.specs.Plane.{Position, InPlane, Size, along_u, along_v}
use Rattle.plane.specs.Weighted.{keeps_rule, form, weighted_height}
use Rattle.plane.specs.LiveTriangles.{same_position}
use Rattle.plane.specs.InPlane.{bounded_in_plane, support_in_plane}

-- What the rule says of the three numbers.
pub record Rule (a b c : ℤ) : Type 0 where
  pub a_low : pos 1 ≤ℤ a
  pub a_high : a ≤ℤ pos 64
  pub b_low : pos 1 ≤ℤ b
  pub b_high : b ≤ℤ pos 64
  pub c_size : Size c 63
  pub below : (c *ℤ c) <ℤ (a *ℤ b)

pub rule : (a b c : ℤ) → keeps_rule a b c ≡ true → Rule a b c
unfolding keeps_rule
rule a b c e =
    record {
      a_low = grind (arith, ints, nat_tests);
      a_high = grind (arith, ints, nat_tests);
      b_low = grind (arith, ints, nat_tests);
      b_high = grind (arith, ints, nat_tests);
      c_size = record { size = grind (arith, ints, nat_tests) };
      below = grind (arith, ints, nat_tests);
    }

-- The form as an expression in A, B, C and two coordinates.

abbrev form_of : Expr → Expr → Expr
form_of u v = var 0 ⊗ (u ⊗ u) ⊕ var 1 ⊗ (v ⊗ v) ⊕ lit (pos 2) ⊗ (var 2 ⊗ (u ⊗ v))

-- A·B − C·C, and the two linear forms whose squares remain
abbrev surplus : Expr
surplus = var 0 ⊗ var 1 ⊖ var 2 ⊗ var 2

abbrev by_a : Expr
by_a = var 0 ⊗ var 3 ⊕ var 2 ⊗ var 4

abbrev by_b : Expr
by_b = var 2 ⊗ var 3 ⊕ var 1 ⊗ var 4

module _ {a b c : ℤ} (r : Rule a b c) where
  surplus_pos : pos 0 <ℤ (a *ℤ b -ℤ c *ℤ c)
  surplus_pos = apart _ _ r.below
    where
      apart : (x y : ℤ) → x <ℤ y → pos 0 <ℤ (y -ℤ x)
      apart x y h = omega (arith, ints)

  one_nonneg : pos 0 ≤ℤ pos 1
  one_nonneg = omega (arith, ints)

  pub form_nonneg : (u v : ℤ) → pos 0 ≤ℤ form a b c u v
  form_nonneg u v =
      nonneg (var 0) (form_of (var 3) (var 4)) ((surplus, var 4 ⊗ var 4) ∷ (by_a ⊗ by_a, lit (pos 1)) ∷ []) tt
      (a ∷ b ∷ c ∷ u ∷ v ∷ []) (omega (arith, ints, r.a_low))
      (weak surplus_pos, square_nonneg v, (square_nonneg _, one_nonneg, tt))
    where
      weak : {x : ℤ} → pos 0 <ℤ x → pos 0 ≤ℤ x
      weak h = omega (arith, ints)

  form_pos_v : (u v : ℤ) → (v ≢ pos 0) → pos 0 <ℤ form a b c u v
  form_pos_v u v n =
      positive (var 0) (form_of (var 3) (var 4)) surplus (var 4 ⊗ var 4) ((by_a ⊗ by_a, lit (pos 1)) ∷ []) tt
      (a ∷ b ∷ c ∷ u ∷ v ∷ []) (omega (arith, ints, r.a_low)) surplus_pos (square_pos v n) (square_nonneg _, one_nonneg, tt)

  form_pos_u : (u v : ℤ) → (u ≢ pos 0) → pos 0 <ℤ form a b c u v
  form_pos_u u v n =
      positive (var 1) (form_of (var 3) (var 4)) surplus (var 3 ⊗ var 3) ((by_b ⊗ by_b, lit (pos 1)) ∷ []) tt
      (a ∷ b ∷ c ∷ u ∷ v ∷ []) (omega (arith, ints, r.b_low)) surplus_pos (square_pos u n) (square_nonneg _, one_nonneg, tt)

-- A product of a number of size 64 and two coordinates of the plane.
part_size : (z : ℤ) (m n : ℕ) → Size z 64 → m ≤ 4096 → n ≤ 4096 → Size (z *ℤ pos (m * n)) 1073741824
part_size z m n h i j = record { size = abs_mul_le z (pos (m * n)) h.size (mul-le-mul i j) }

module _ {a b c : ℤ} (r : Rule a b c) where
  pub a_size : Size a 64
  a_size = omega (arith, ints, r.a_low, r.a_high)

  pub b_size : Size b 64
  b_size = omega (arith, ints, r.b_low, r.b_high)

  pub c_size : Size c 64
  c_size = omega (arith, ints, r.c_size)

abbrev pub formed : ℤ → ℤ → ℤ → Heights
formed a b c p = form a b c (pos p.u) (pos p.v)

pub weighted_bounded : {a b c : ℤ} → Rule a b c → Bounded (weighted_height a b c)
weighted_bounded {a} {b} {c} r = bounded_in_plane (formed a b c) inside
  where
    inside : (p : Position) → InPlane p → Height (formed a b c p)
    inside p i =
        let x = part_size a p.u p.u (a_size r) i.u_in i.u_in in
        let y = part_size b p.v p.v (b_size r) i.v_in i.v_in in
        let z = part_size c p.u p.v (c_size r) i.u_in i.v_in in
        record { low = form_nonneg r (pos p.u) (pos p.v); high = high _ _ _ x y z }
      where
        high : (x y z : ℤ) → Size x 1073741824 → Size y 1073741824 → Size z 1073741824 → (x +ℤ y +ℤ pos 2 *ℤ z) ≤ℤ pos 8589934592
        high x y z p q s = omega (arith, ints)

-- Twice what the height gains from p to q beyond the slopes at p is twice the form of their distance.
gain : (a b c : ℤ) (p q : Position)
    → excess (formed a b c) (pos 4 *ℤ (a *ℤ pos p.u +ℤ c *ℤ pos p.v)) (pos 4 *ℤ (c *ℤ pos p.u +ℤ b *ℤ pos p.v)) p q
    ≡ pos 2 *ℤ form a b c (along_u p q) (along_v p q)
gain a b c p q =
    let two = lit (pos 2) in
    let four = lit (pos 4) in
    solve
    (two ⊗ form_of (var 5) (var 6)
    ⊖ (two ⊗ form_of (var 3) (var 4) ⊕ (four ⊗ by_a) ⊗ (var 5 ⊖ var 3) ⊕ (four ⊗ by_b) ⊗ (var 6 ⊖ var 4)))
    (two ⊗ form_of (var 5 ⊖ var 3) (var 6 ⊖ var 4)) tt
    (a ∷ b ∷ c ∷ pos p.u ∷ pos p.v ∷ pos q.u ∷ pos q.v ∷ [])

pub weighted_supported : {a b c : ℤ} → Rule a b c → Supported (weighted_height a b c)
weighted_supported {a} {b} {c} r p i = support_in_plane (formed a b c) p i (record {
  s = pos 4 *ℤ (a *ℤ pos p.u +ℤ c *ℤ pos p.v);
  t = pos 4 *ℤ (c *ℤ pos p.u +ℤ b *ℤ pos p.v);
  above = λ q j n. subst (λ (z : ℤ). pos 0 <ℤ z) (sym (gain a b c p q)) (twice _ (away q n));
})
  where
    twice : (z : ℤ) → pos 0 <ℤ z → pos 0 <ℤ (pos 2 *ℤ z)
    twice z h = omega (arith, ints)

    -- positions that differ do so along u or along v
    away : (q : Position) → q ≢ p → pos 0 <ℤ form a b c (along_u p q) (along_v p q)
    away q n = by (ℕ_discrete q.u p.u) (ℕ_discrete q.v p.v)
      where
        by : Dec (q.u ≡ p.u) → Dec (q.v ≡ p.v) → pos 0 <ℤ form a b c (along_u p q) (along_v p q)
        by (no e) f = form_pos_u r (along_u p q) (along_v p q) (λ z. e (omega (arith, ints)))
        by (yes e) (no f) = form_pos_v r (along_u p q) (along_v p q) (λ z. f (omega (arith, ints)))
        by (yes e) (yes f) = absurd (n (same_position e f))
