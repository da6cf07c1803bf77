-- Certificates: an expression is not negative, or positive, since a positive multiple of it is a sum of products of parts that are
-- not negative. The identity is tested by the solver, the signs of the parts are given.
use Rattle.std.proofs.Common.{◌≡◌, List, [], ◌∷◌, ℤ, pos, ◌+ℤ◌, ◌≤ℤ◌, ◌<ℤ◌, sym, ap, ◌∙◌, subst, arith}
use lib.Signed.{≤ℤ_refl}
use Rattle.std.proofs.lemmas.Int.{ints}
use Rattle.algebra.proofs.Polynomials.{Expr, lit, ◌⊕◌, ◌⊗◌, eval, Same, solve}
use Rattle.algebra.proofs.Signs.{mul_nonneg, mul_pos, nonneg_of_mul, pos_of_mul}

-- Pairs of factors, none of them negative.
abbrev pub Parts : List ℤ → List (Expr × Expr) → Type 0
Parts ρ [] = Unit {0}
Parts ρ (s ∷ ss) = (pos 0 ≤ℤ eval ρ s.0) × (pos 0 ≤ℤ eval ρ s.1) × Parts ρ ss

abbrev pub total : List (Expr × Expr) → Expr
total [] = lit (pos 0)
total (s ∷ ss) = s.0 ⊗ s.1 ⊕ total ss

total_nonneg : (ρ : List ℤ) (ss : List (Expr × Expr)) → Parts ρ ss → pos 0 ≤ℤ eval ρ (total ss)
total_nonneg ρ [] h = ≤ℤ_refl (pos 0)
total_nonneg ρ (s ∷ ss) h =
    plus _ _ (mul_nonneg (eval ρ s.0) (eval ρ s.1) h.0 h.1) (total_nonneg ρ ss h.2)
  where
    plus : (x y : ℤ) → pos 0 ≤ℤ x → pos 0 ≤ℤ y → pos 0 ≤ℤ (x +ℤ y)
    plus x y p q = omega (arith, ints)

-- m·e is a sum of such products, and m is positive: e is not negative.
pub nonneg : (m e : Expr) (ss : List (Expr × Expr)) → Same (m ⊗ e) (total ss) → (ρ : List ℤ) → pos 0 <ℤ eval ρ m
    → Parts ρ ss → pos 0 ≤ℤ eval ρ e
nonneg m e ss t ρ p h =
    nonneg_of_mul (eval ρ m) (eval ρ e) p
    (subst (λ z. pos 0 ≤ℤ z) (sym (solve (m ⊗ e) (total ss) t ρ)) (total_nonneg ρ ss h))

-- m·e is a product of two positive parts and such a sum, and m is not negative: e is positive.
pub positive : (m e p q : Expr) (ss : List (Expr × Expr)) → Same (m ⊗ e) (p ⊗ q ⊕ total ss) → (ρ : List ℤ)
    → pos 0 ≤ℤ eval ρ m → pos 0 <ℤ eval ρ p → pos 0 <ℤ eval ρ q → Parts ρ ss → pos 0 <ℤ eval ρ e
positive m e p q ss t ρ k hp hq h =
    pos_of_mul (eval ρ m) (eval ρ e) k
    (subst (λ z. pos 0 <ℤ z) (sym (solve (m ⊗ e) (p ⊗ q ⊕ total ss) t ρ))
    (plus _ _ (mul_pos (eval ρ p) (eval ρ q) hp hq) (total_nonneg ρ ss h)))
  where
    plus : (x y : ℤ) → pos 0 <ℤ x → pos 0 ≤ℤ y → pos 0 <ℤ (x +ℤ y)
    plus x y p q = omega (arith, ints)
