-- A solver for polynomial identities over the signed integers, by reflection: both sides are written as expressions, their
-- difference is brought into a normal form, and a Boolean test says that it is zero.
use Rattle.std.proofs.Common.{◌≡◌, ℕ, zero, suc, Bool, true, false, T, List, [], ◌∷◌, ℤ, pos, negsuc, ◌+ℤ◌, ◌-ℤ◌, ◌*ℤ◌, neg_ℤ, sym, refl, ap, ◌∙◌, subst, arith, eqb→eq}
use Prim.Native.Nat.{compare, Ordering}
use lib.Dec.{compare_is_eq}
use lib.IntN.{+ℤ_idl, +ℤ_idr, +ℤ_assoc, *ℤ_comm, *ℤ-zero}
use Rattle.std.proofs.lemmas.Int.{ints}
use Rattle.algebra.proofs.Integers.{mul_distrib_right, mul_distrib_left, mul_assoc}

-- Expressions in variables that are numbered from 0.
pub data Expr : Type 0 where
  var : ℕ → Expr
  lit : ℤ → Expr
  ◌⊕◌ : Expr → Expr → Expr
  ◌⊗◌ : Expr → Expr → Expr
  ⊝◌ : Expr → Expr

infixl 6 ◌⊕◌
infixl 6 ◌⊖◌
infixl 7 ◌⊗◌
infix 8 ⊝◌
abbrev pub ◌⊖◌ : Expr → Expr → Expr
e ⊖ f = e ⊕ ⊝ f

-- The value of a variable in an environment, 0 where there is none.
abbrev pub value : List ℤ → ℕ → ℤ
value [] n = pos 0
value (x ∷ xs) zero = x
value (x ∷ xs) (suc n) = value xs n

abbrev pub eval : List ℤ → Expr → ℤ
eval ρ (var i) = value ρ i
eval ρ (lit c) = c
eval ρ (e ⊕ f) = eval ρ e +ℤ eval ρ f
eval ρ (e ⊗ f) = eval ρ e *ℤ eval ρ f
eval ρ (⊝ e) = neg_ℤ (eval ρ e)

-- The normal form, sparse and ordered by variables: `node i p q` stands for p + xᵢ·q.
pub data Poly : Type 0 where
  con : ℤ → Poly
  node : ℕ → Poly → Poly → Poly

-- p + xᵢ·q, without a node where q is 0
abbrev pub mk : ℕ → Poly → Poly → Poly
mk i p (con (pos zero)) = p
mk i p (con (pos (suc n))) = node i p (con (pos (suc n)))
mk i p (con (negsuc n)) = node i p (con (negsuc n))
mk i p (node j r s) = node i p (node j r s)

abbrev pub add_constant : ℤ → Poly → Poly
add_constant c (con d) = con (c +ℤ d)
add_constant c (node j r s) = node j (add_constant c r) s

-- `node i p q` and a second polynomial, where plus-p and plus-q add p and q
abbrev pub add_node : ℕ → Poly → Poly → (Poly → Poly) → (Poly → Poly) → Poly → Poly
add_node i p q plus_p plus_q (con d) = node i (plus_p (con d)) q
add_node i p q plus_p plus_q (node j r s) =
    elim (compare i j) [
      | Ordering.lt ↦ node i (plus_p (node j r s)) q
      | Ordering.eq ↦ mk i (plus_p r) (plus_q s)
      | Ordering.gt ↦ node j (add_node i p q plus_p plus_q r) s
    ]

abbrev pub add : Poly → Poly → Poly
add (con c) r = add_constant c r
add (node i p q) r = add_node i p q (λ x. add p x) (λ x. add q x) r

abbrev pub times_constant : ℤ → Poly → Poly
times_constant c (con d) = con (c *ℤ d)
times_constant c (node j r s) = mk j (times_constant c r) (times_constant c s)

abbrev pub times_variable : ℕ → Poly → Poly
times_variable i (con d) = mk i (con (pos 0)) (con d)
times_variable i (node j r s) =
    elim (compare i j) [
      | Ordering.lt ↦ node i (con (pos 0)) (node j r s)
      | Ordering.eq ↦ node i (con (pos 0)) (node j r s)
      | Ordering.gt ↦ node j (times_variable i r) (times_variable i s)
    ]

abbrev pub multiply : Poly → Poly → Poly
multiply (con c) r = times_constant c r
multiply (node i p q) r = add (multiply p r) (times_variable i (multiply q r))

abbrev pub normal : Expr → Poly
normal (var i) = node i (con (pos 0)) (con (pos 1))
normal (lit c) = con c
normal (e ⊕ f) = add (normal e) (normal f)
normal (e ⊗ f) = multiply (normal e) (normal f)
normal (⊝ e) = times_constant (negsuc 0) (normal e)

-- Single steps over the integers.
sum_below : (P X R : ℤ) → P +ℤ R +ℤ X ≡ P +ℤ X +ℤ R
sum_below P X R = omega (arith, ints)

sum_level : (x P Q R S : ℤ) → P +ℤ R +ℤ x *ℤ (Q +ℤ S) ≡ P +ℤ x *ℤ Q +ℤ (R +ℤ x *ℤ S)
sum_level x P Q R S = ap (λ z. P +ℤ R +ℤ z) (mul_distrib_left x Q S) ∙ omega (arith, ints)

sum_above : (P X R Y : ℤ) → P +ℤ X +ℤ R +ℤ Y ≡ P +ℤ X +ℤ (R +ℤ Y)
sum_above P X R Y = omega (arith, ints)

swap : (c x s : ℤ) → x *ℤ (c *ℤ s) ≡ c *ℤ (x *ℤ s)
swap c x s = sym (mul_assoc x c s) ∙ ap (λ z. z *ℤ s) (*ℤ_comm x c) ∙ mul_assoc c x s

pull_out : (c x r s : ℤ) → c *ℤ r +ℤ x *ℤ (c *ℤ s) ≡ c *ℤ (r +ℤ x *ℤ s)
pull_out c x r s = ap (λ z. c *ℤ r +ℤ z) (swap c x s) ∙ sym (mul_distrib_left c r (x *ℤ s))

spread_over : (P x Q R : ℤ) → P *ℤ R +ℤ x *ℤ (Q *ℤ R) ≡ (P +ℤ x *ℤ Q) *ℤ R
spread_over P x Q R = ap (λ z. P *ℤ R +ℤ z) (sym (mul_assoc x Q R)) ∙ sym (mul_distrib_right P (x *ℤ Q) R)

minus_one : (z : ℤ) → negsuc 0 *ℤ z ≡ neg_ℤ z
minus_one z = omega (arith, ints)

-- Each operation on normal forms means what its name says, in any environment.
module _ (ρ : List ℤ) where
  abbrev meaning : Poly → ℤ
  meaning (con c) = c
  meaning (node i p q) = meaning p +ℤ value ρ i *ℤ meaning q

  mk_is : (i : ℕ) (p q : Poly) → meaning (mk i p q) ≡ meaning p +ℤ value ρ i *ℤ meaning q
  mk_is i p (con (pos zero)) = sym (ap (λ z. meaning p +ℤ z) (*ℤ-zero (value ρ i)) ∙ +ℤ_idr (meaning p))
  mk_is i p (con (pos (suc n))) = refl
  mk_is i p (con (negsuc n)) = refl
  mk_is i p (node j r s) = refl

  add_constant_is : (c : ℤ) (r : Poly) → meaning (add_constant c r) ≡ c +ℤ meaning r
  add_constant_is c (con d) = refl
  add_constant_is c (node j r s) =
      ap (λ z. z +ℤ value ρ j *ℤ meaning s) (add_constant_is c r) ∙ +ℤ_assoc c (meaning r) (value ρ j *ℤ meaning s)

  same_variable : (i j : ℕ) → compare i j ≡ Ordering.eq → i ≡ j
  same_variable i j e = eqb→eq i j (subst (λ (o : Ordering). T (compare_is_eq o)) (sym e) tt)

  by_order : (i j : ℕ) (a b c : Poly) (V : ℤ) (o : Ordering) → compare i j ≡ o → meaning a ≡ V → (i ≡ j → meaning b ≡ V)
      → meaning c ≡ V → meaning (elim o [ Ordering.lt ↦ a | Ordering.eq ↦ b | Ordering.gt ↦ c ]) ≡ V
  by_order i j a b c V Ordering.lt e below level above = below
  by_order i j a b c V Ordering.eq e below level above = level (same_variable i j e)
  by_order i j a b c V Ordering.gt e below level above = above

  module _ (i : ℕ) (p q : Poly) (plus_p plus_q : Poly → Poly)
      (adds_p : (r : Poly) → meaning (plus_p r) ≡ meaning p +ℤ meaning r)
      (adds_q : (r : Poly) → meaning (plus_q r) ≡ meaning q +ℤ meaning r) where
    add_node_is : (r : Poly)
        → meaning (add_node i p q plus_p plus_q r) ≡ meaning p +ℤ value ρ i *ℤ meaning q +ℤ meaning r
    add_node_is (con d) =
        ap (λ z. z +ℤ value ρ i *ℤ meaning q) (adds_p (con d)) ∙ sum_below (meaning p) (value ρ i *ℤ meaning q) d
    add_node_is (node j r s) =
        by_order i j _ _ _ _ (compare i j) refl
        (ap (λ z. z +ℤ value ρ i *ℤ meaning q) (adds_p (node j r s))
        ∙ sum_below (meaning p) (value ρ i *ℤ meaning q) (meaning (node j r s)))
        (λ e.
        mk_is i (plus_p r) (plus_q s) ∙ (λ k. adds_p r k +ℤ value ρ i *ℤ adds_q s k)
        ∙ sum_level (value ρ i) (meaning p) (meaning q) (meaning r) (meaning s)
        ∙ ap (λ n. meaning p +ℤ value ρ i *ℤ meaning q +ℤ (meaning r +ℤ value ρ n *ℤ meaning s)) e)
        (ap (λ z. z +ℤ value ρ j *ℤ meaning s) (add_node_is r)
        ∙ sum_above (meaning p) (value ρ i *ℤ meaning q) (meaning r) (value ρ j *ℤ meaning s))

  add_is : (p r : Poly) → meaning (add p r) ≡ meaning p +ℤ meaning r
  add_is (con c) r = add_constant_is c r
  add_is (node i p q) r =
      add_node_is i p q (λ x. add p x) (λ x. add q x) (λ x. add_is p x) (λ x. add_is q x) r

  times_constant_is : (c : ℤ) (r : Poly) → meaning (times_constant c r) ≡ c *ℤ meaning r
  times_constant_is c (con d) = refl
  times_constant_is c (node j r s) =
      mk_is j (times_constant c r) (times_constant c s)
      ∙ (λ k. times_constant_is c r k +ℤ value ρ j *ℤ times_constant_is c s k)
      ∙ pull_out c (value ρ j) (meaning r) (meaning s)

  times_variable_is : (i : ℕ) (r : Poly) → meaning (times_variable i r) ≡ value ρ i *ℤ meaning r
  times_variable_is i (con d) = mk_is i (con (pos 0)) (con d) ∙ +ℤ_idl (value ρ i *ℤ d)
  times_variable_is i (node j r s) =
      by_order i j _ _ _ _ (compare i j) refl (+ℤ_idl (value ρ i *ℤ meaning (node j r s)))
      (λ e. +ℤ_idl (value ρ i *ℤ meaning (node j r s)))
      ((λ k. times_variable_is i r k +ℤ value ρ j *ℤ times_variable_is i s k)
      ∙ pull_out (value ρ i) (value ρ j) (meaning r) (meaning s))

  multiply_is : (p r : Poly) → meaning (multiply p r) ≡ meaning p *ℤ meaning r
  multiply_is (con c) r = times_constant_is c r
  multiply_is (node i p q) r =
      add_is (multiply p r) (times_variable i (multiply q r))
      ∙ (λ k.
      multiply_is p r k
      +ℤ (times_variable_is i (multiply q r) ∙ ap (λ z. value ρ i *ℤ z) (multiply_is q r)) k)
      ∙ spread_over (meaning p) (value ρ i) (meaning q) (meaning r)

  var_is : (z : ℤ) → pos 0 +ℤ z *ℤ pos 1 ≡ z
  var_is z = omega (arith, ints)

  normal_is : (e : Expr) → meaning (normal e) ≡ eval ρ e
  normal_is (var i) = var_is (value ρ i)
  normal_is (lit c) = refl
  normal_is (e ⊕ f) = add_is (normal e) (normal f) ∙ (λ k. normal_is e k +ℤ normal_is f k)
  normal_is (e ⊗ f) = multiply_is (normal e) (normal f) ∙ (λ k. normal_is e k *ℤ normal_is f k)
  normal_is (⊝ e) =
      times_constant_is (negsuc 0) (normal e) ∙ minus_one (meaning (normal e)) ∙ ap neg_ℤ (normal_is e)

abbrev pub is_zero : Poly → Bool
is_zero (con (pos zero)) = true
is_zero (con (pos (suc n))) = false
is_zero (con (negsuc n)) = false
is_zero (node i p q) = false

zero_means : (ρ : List ℤ) (p : Poly) → T (is_zero p) → meaning ρ p ≡ pos 0
zero_means ρ (con (pos zero)) t = refl
zero_means ρ (con (pos (suc n))) t = absurd t
zero_means ρ (con (negsuc n)) t = absurd t
zero_means ρ (node i p q) t = absurd t

-- The test: the two sides have one normal form.
abbrev pub Same : Expr → Expr → Type 0
Same e f = T (is_zero (normal (e ⊖ f)))

no_difference : (a b : ℤ) → a -ℤ b ≡ pos 0 → a ≡ b
no_difference a b h = omega (arith, ints)

-- The solver. Where the test computes to true, `solve e f tt ρ` is the identity at the environment ρ.
pub solve : (e f : Expr) → Same e f → (ρ : List ℤ) → eval ρ e ≡ eval ρ f
solve e f t ρ =
    no_difference (eval ρ e) (eval ρ f) (sym (normal_is ρ (e ⊖ f)) ∙ zero_means ρ (normal (e ⊖ f)) t)
