-- The signs of products. `◌<ℤ◌` and `◌≤ℤ◌` bind tighter than `◌*ℤ◌`, so products stand in brackets.
use Rattle.std.proofs.Common.{◌≡◌, ℕ, zero, suc, ◌*◌, ◌≤◌, [], ◌∷◌, ℤ, pos, negsuc, ◌-ℤ◌, ◌*ℤ◌, neg_ℤ, nat_abs, ◌≤ℤ◌, ◌<ℤ◌, refl, ap, ◌∙◌, subst, mul-le-mul, arith}
use lib.IntN.{*ℤ_comm, zero-*ℤ}
use lib.Signed.{≤ℤ_refl}
use Rattle.std.proofs.lemmas.Int.{ints, by_lt_z}
use Rattle.algebra.proofs.Polynomials.{var, ◌⊗◌, ◌⊖◌, ⊝◌, solve}

-- From the factors to the product.
pub mul_pos : (a b : ℤ) → pos 0 <ℤ a → pos 0 <ℤ b → pos 0 <ℤ (a *ℤ b)
mul_pos (pos zero) b h k = absurd (omega (arith, ints))
mul_pos (pos (suc m)) (pos zero) h k = absurd (omega (arith, ints))
mul_pos (pos (suc m)) (pos (suc n)) h k = omega (arith, ints)
mul_pos (pos (suc m)) (negsuc n) h k = absurd (omega (arith, ints))
mul_pos (negsuc m) b h k = absurd (omega (arith, ints))

pub mul_nonneg : (a b : ℤ) → pos 0 ≤ℤ a → pos 0 ≤ℤ b → pos 0 ≤ℤ (a *ℤ b)
mul_nonneg (pos m) (pos n) h k = omega (arith, ints)
mul_nonneg (pos m) (negsuc n) h k = absurd (omega (arith, ints))
mul_nonneg (negsuc m) b h k = absurd (omega (arith, ints))

mul_negated : (a b : ℤ) → a *ℤ neg_ℤ b ≡ neg_ℤ (a *ℤ b)
mul_negated a b = solve (var 0 ⊗ ⊝ var 1) (⊝ (var 0 ⊗ var 1)) tt (a ∷ b ∷ [])

pub mul_neg : (a b : ℤ) → pos 0 <ℤ a → b <ℤ pos 0 → (a *ℤ b) <ℤ pos 0
mul_neg a b h k =
    let e = mul_negated a b in
    let q = mul_pos a (neg_ℤ b) h (omega (arith, ints)) in
    omega (arith, ints)

pub mul_nonpos : (a b : ℤ) → pos 0 ≤ℤ a → b ≤ℤ pos 0 → (a *ℤ b) ≤ℤ pos 0
mul_nonpos a b h k =
    let e = mul_negated a b in
    let q = mul_nonneg a (neg_ℤ b) h (omega (arith, ints)) in
    omega (arith, ints)

pub mul_both_nonpos : (a b : ℤ) → a ≤ℤ pos 0 → b ≤ℤ pos 0 → pos 0 ≤ℤ (a *ℤ b)
mul_both_nonpos a b h k =
    let e = mul_negated b a in
    let q = mul_nonpos (neg_ℤ a) b (omega (arith, ints)) k in
    omega (arith, ints, *ℤ_comm (neg_ℤ a) b, *ℤ_comm a b)

pub square_nonneg : (a : ℤ) → pos 0 ≤ℤ (a *ℤ a)
square_nonneg (pos m) = omega (arith, ints)
square_nonneg (negsuc m) = omega (arith, ints)

pub square_pos : (a : ℤ) → (a ≡ pos 0 → ⊥) → pos 0 <ℤ (a *ℤ a)
square_pos (pos zero) n = absurd (n refl)
square_pos (pos (suc m)) n = mul_pos (pos (suc m)) (pos (suc m)) (omega (arith, ints)) (omega (arith, ints))
square_pos (negsuc m) n = omega (arith, ints)

pub zero_times : (a b : ℤ) → a ≡ pos 0 → a *ℤ b ≡ pos 0
zero_times a b e = ap (λ z. z *ℤ b) e ∙ zero-*ℤ b

-- From the product and one factor to the other.
pub pos_of_mul : (a b : ℤ) → pos 0 ≤ℤ a → pos 0 <ℤ (a *ℤ b) → pos 0 <ℤ b
pos_of_mul a b h k =
    by_lt_z (pos 0) b (λ l. l) (λ l. absurd (let q = mul_nonpos a b h l in omega (arith, ints)))

pub nonneg_of_mul : (a b : ℤ) → pos 0 <ℤ a → pos 0 ≤ℤ (a *ℤ b) → pos 0 ≤ℤ b
nonneg_of_mul a b h k =
    by_lt_z b (pos 0) (λ l. absurd (let q = mul_neg a b h l in omega (arith, ints))) (λ l. l)

pub neg_of_mul : (a b : ℤ) → pos 0 ≤ℤ a → (a *ℤ b) <ℤ pos 0 → b <ℤ pos 0
neg_of_mul a b h k =
    by_lt_z b (pos 0) (λ l. l) (λ l. absurd (let q = mul_nonneg a b h l in omega (arith, ints)))

pub nonpos_of_mul : (a b : ℤ) → pos 0 <ℤ a → (a *ℤ b) ≤ℤ pos 0 → b ≤ℤ pos 0
nonpos_of_mul a b h k =
    by_lt_z (pos 0) b (λ l. absurd (let q = mul_pos a b h l in omega (arith, ints))) (λ l. l)

-- the second factor is not positive and the product is negative
pub pos_of_mul_neg : (a b : ℤ) → b ≤ℤ pos 0 → (a *ℤ b) <ℤ pos 0 → pos 0 <ℤ a
pos_of_mul_neg a b h k =
    by_lt_z (pos 0) a (λ l. l) (λ l. absurd (let q = mul_both_nonpos a b l h in omega (arith, ints)))

pub zero_of_mul : (a b : ℤ) → pos 0 <ℤ a → a *ℤ b ≡ pos 0 → b ≡ pos 0
zero_of_mul a b h e =
    let l = nonpos_of_mul a b h (omega (arith, ints)) in
    let g = nonneg_of_mul a b h (omega (arith, ints)) in
    omega (arith, ints)

-- Both sides of an order, times a factor.
mul_minus : (a b c : ℤ) → a *ℤ (c -ℤ b) ≡ a *ℤ c -ℤ a *ℤ b
mul_minus a b c = solve (var 0 ⊗ (var 2 ⊖ var 1)) (var 0 ⊗ var 2 ⊖ var 0 ⊗ var 1) tt (a ∷ b ∷ c ∷ [])

pub mul_le : (a b c : ℤ) → pos 0 ≤ℤ a → b ≤ℤ c → (a *ℤ b) ≤ℤ (a *ℤ c)
mul_le a b c h k = apart _ _ (subst (λ z. pos 0 ≤ℤ z) (mul_minus a b c) (mul_nonneg a (c -ℤ b) h (omega (arith, ints))))
  where
    apart : (x y : ℤ) → pos 0 ≤ℤ (y -ℤ x) → x ≤ℤ y
    apart x y t = omega (arith, ints)

pub mul_lt : (a b c : ℤ) → pos 0 <ℤ a → b <ℤ c → (a *ℤ b) <ℤ (a *ℤ c)
mul_lt a b c h k = apart _ _ (subst (λ z. pos 0 <ℤ z) (mul_minus a b c) (mul_pos a (c -ℤ b) h (omega (arith, ints))))
  where
    apart : (x y : ℤ) → pos 0 <ℤ (y -ℤ x) → x <ℤ y
    apart x y t = omega (arith, ints)

pub le_of_mul : (a b c : ℤ) → pos 0 <ℤ a → (a *ℤ b) ≤ℤ (a *ℤ c) → b ≤ℤ c
le_of_mul a b c h k = by_lt_z c b (λ l. absurd (let q = mul_lt a c b h l in omega (arith, ints))) (λ l. l)

pub lt_of_mul : (a b c : ℤ) → pos 0 ≤ℤ a → (a *ℤ b) <ℤ (a *ℤ c) → b <ℤ c
lt_of_mul a b c h k = by_lt_z b c (λ l. l) (λ l. absurd (let q = mul_le a c b h l in omega (arith, ints)))

pub same_of_mul : (a b c : ℤ) → pos 0 <ℤ a → a *ℤ b ≡ a *ℤ c → b ≡ c
same_of_mul a b c h e =
    let l = le_of_mul a b c h (subst (λ z. (a *ℤ b) ≤ℤ z) e (≤ℤ_refl (a *ℤ b))) in
    let g = le_of_mul a c b h (subst (λ z. z ≤ℤ (a *ℤ b)) e (≤ℤ_refl (a *ℤ b))) in
    omega (arith, ints)

-- How large a product is.
abs_negated : (n : ℕ) → nat_abs (neg_ℤ (pos n)) ≡ n
abs_negated zero = refl
abs_negated (suc n) = refl

pub abs_mul : (a b : ℤ) → nat_abs (a *ℤ b) ≡ nat_abs a * nat_abs b
abs_mul (pos a) (pos b) = refl
abs_mul (pos a) (negsuc b) = abs_negated (a * suc b)
abs_mul (negsuc a) (pos b) = abs_negated (suc a * b)
abs_mul (negsuc a) (negsuc b) = refl

pub abs_mul_le : (a b : ℤ) {m n : ℕ} → nat_abs a ≤ m → nat_abs b ≤ n → nat_abs (a *ℤ b) ≤ m * n
abs_mul_le a b h k = rw (abs_mul a b) (mul-le-mul h k)
