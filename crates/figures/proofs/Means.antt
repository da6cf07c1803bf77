-- The rounded mean of three numbers by their weights: where it lies, and where it is one of them.
use Rattle.std.proofs.Common.{◌≡◌, ℕ, zero, suc, ◌+◌, ◌*◌, ◌/◌, ◌<◌, ◌≤◌, get_or, ℤ, pos, negsuc, ◌+ℤ◌, ◌*ℤ◌, ◌≤ℤ◌, ◌<ℤ◌, ap, ◌∙◌, mod-lt, arith, lit<}
use native.Mathlib.Nat.{div-add-mod}
use Rattle.std.proofs.lemmas.Int.{ints, clamps, by_lt_z}
use Rattle.algebra.proofs.Integers.{mul_distrib_right, mul_distrib_left, mul_assoc}
use Rattle.algebra.proofs.Signs.{mul_le, zero_times}
use Rattle.figures.specs.Blends.{floor, weighted_sum, blended_number, Between}
use Rattle.figures.specs.Figures.{Range, InRange}
use Rattle.figures.specs.declared.mix.Mix.{Mix}

-- The floor of z / d, times d, is not above z, and less than d below it.
whole : (n d : ℕ) → 0 < d → (d * (n / d) ≤ n) × (n < d * (n / d) + d)
whole n d h = omega (arith, div-add-mod n d, mod-lt n h)

floor_low : (z : ℤ) (d : ℕ) → 0 < d → (pos d *ℤ floor z d) ≤ℤ z
floor_low (pos n) d h = omega (arith, ints, whole n d h)
floor_low (negsuc n) d h = omega (arith, ints, whole n d h)

floor_high : (z : ℤ) (d : ℕ) → 0 < d → z <ℤ (pos d *ℤ floor z d +ℤ pos d)
floor_high (pos n) d h = omega (arith, ints, whole n d h)
floor_high (negsuc n) d h = omega (arith, ints, whole n d h)

-- One more of a factor.
step : (t f : ℤ) → t *ℤ (f +ℤ pos 1) ≡ t *ℤ f +ℤ t
step t f = mul_distrib_left t f (pos 1) ∙ omega (arith, ints)

-- So the floor of (2n + t) / (2t) is not below m where t·m is not above n,
no_less : (t n f m x : ℤ) → pos 0 <ℤ t → (t *ℤ m) ≤ℤ n → x ≡ pos 2 *ℤ (t *ℤ f)
    → (pos 2 *ℤ n +ℤ t) <ℤ (x +ℤ pos 2 *ℤ t) → m ≤ℤ f
no_less t n f m x h k e l =
    by_lt_z f m
    (λ s. absurd
    (let q = mul_le t (f +ℤ pos 1) m (omega (arith, ints)) (omega (arith, ints)) in omega (arith, ints, step t f)))
    (λ s. s)

rounded_low : (t : ℕ) (n m : ℤ) → 0 < t → (pos t *ℤ m) ≤ℤ n → m ≤ℤ floor (pos 2 *ℤ n +ℤ pos t) (2 * t)
rounded_low t n m h k =
    no_less (pos t) n _ m _ (omega (arith, ints)) k (mul_assoc (pos 2) (pos t) _) (floor_high _ (2 * t) (omega arith))

-- and not above m where t·m is not below n.
no_more : (t n f m x : ℤ) → pos 0 <ℤ t → n ≤ℤ (t *ℤ m) → x ≡ pos 2 *ℤ (t *ℤ f) → x ≤ℤ (pos 2 *ℤ n +ℤ t) → f ≤ℤ m
no_more t n f m x h k e l =
    by_lt_z m f
    (λ s. absurd
    (let q = mul_le t (m +ℤ pos 1) f (omega (arith, ints)) (omega (arith, ints)) in omega (arith, ints, step t m)))
    (λ s. s)

rounded_high : (t : ℕ) (n m : ℤ) → 0 < t → n ≤ℤ (pos t *ℤ m) → floor (pos 2 *ℤ n +ℤ pos t) (2 * t) ≤ℤ m
rounded_high t n m h k =
    no_more (pos t) n _ m _ (omega (arith, ints)) k (mul_assoc (pos 2) (pos t) _) (floor_low _ (2 * t) (omega arith))

-- Weights against one number for all.
spread : (a b c m : ℤ) → (a +ℤ b +ℤ c) *ℤ m ≡ a *ℤ m +ℤ b *ℤ m +ℤ c *ℤ m
spread a b c m = mul_distrib_right (a +ℤ b) c m ∙ ap (λ z. z +ℤ c *ℤ m) (mul_distrib_right a b m)

module _ (mix : Mix) (number : ℕ → ℤ) where
  abbrev weight : ℕ → ℤ
  weight i = pos (get_or mix.weights i 0)

  for_all : (m : ℤ) → pos mix.total *ℤ m ≡ weight 0 *ℤ m +ℤ weight 1 *ℤ m +ℤ weight 2 *ℤ m
  for_all m = ap (λ n. pos n *ℤ m) mix.summed ∙ spread (weight 0) (weight 1) (weight 2) m

  not_below : (m : ℤ) → m ≤ℤ number 0 → m ≤ℤ number 1 → m ≤ℤ number 2 → m ≤ℤ blended_number mix number
  unfolding blended_number
  not_below m h k l =
      let a = mul_le (weight 0) m (number 0) (omega (arith, ints)) h in
      let b = mul_le (weight 1) m (number 1) (omega (arith, ints)) k in
      let c = mul_le (weight 2) m (number 2) (omega (arith, ints)) l in
      rounded_low mix.total (weighted_sum mix number) m mix.some (omega (arith, ints, for_all m))

  not_above : (m : ℤ) → number 0 ≤ℤ m → number 1 ≤ℤ m → number 2 ≤ℤ m → blended_number mix number ≤ℤ m
  unfolding blended_number
  not_above m h k l =
      let a = mul_le (weight 0) (number 0) m (omega (arith, ints)) h in
      let b = mul_le (weight 1) (number 1) m (omega (arith, ints)) k in
      let c = mul_le (weight 2) (number 2) m (omega (arith, ints)) l in
      rounded_high mix.total (weighted_sum mix number) m mix.some (omega (arith, ints, for_all m))

  pub between : Between number (blended_number mix number)
  between = record {
    not_below = not_below _ (omega (arith, ints, clamps)) (omega (arith, ints, clamps)) (omega (arith, ints, clamps));
    not_above = not_above _ (omega (arith, ints, clamps)) (omega (arith, ints, clamps)) (omega (arith, ints, clamps));
  }

  pub in_range : (range : Range) → InRange range (number 0) → InRange range (number 1) → InRange range (number 2)
      → InRange range (blended_number mix number)
  in_range range h k l = record {
    not_below = not_below range.least h.not_below k.not_below l.not_below;
    not_above = not_above range.greatest h.not_above k.not_above l.not_above;
  }

  -- Three equal numbers blend to that number.
  pub all_equal : (m : ℤ) → ((i : ℕ) → i < 3 → number i ≡ m) → blended_number mix number ≡ m
  all_equal m e =
      let a = e 0 (lit< tt) in
      let b = e 1 (lit< tt) in
      let c = e 2 (lit< tt) in
      let low = not_below m (omega (arith, ints)) (omega (arith, ints)) (omega (arith, ints)) in
      let high = not_above m (omega (arith, ints)) (omega (arith, ints)) (omega (arith, ints)) in
      omega (arith, ints)

  -- A master with the whole weight gives its number, since the other two have none.
  exactly : (m : ℤ) → weighted_sum mix number ≡ pos mix.total *ℤ m → blended_number mix number ≡ m
  unfolding blended_number
  exactly m e =
      let low = rounded_low mix.total (weighted_sum mix number) m mix.some (omega (arith, ints)) in
      let high = rounded_high mix.total (weighted_sum mix number) m mix.some (omega (arith, ints)) in
      omega (arith, ints)

  own : (i : ℕ) → get_or mix.weights i 0 ≡ mix.total → weight i *ℤ number i ≡ pos mix.total *ℤ number i
  own i e = ap (λ n. pos n *ℤ number i) e

  none : (i : ℕ) → get_or mix.weights i 0 ≡ 0 → weight i *ℤ number i ≡ pos 0
  none i e = zero_times (weight i) (number i) (ap pos e)

  pub alone : (i : ℕ) → i < 3 → get_or mix.weights i 0 ≡ mix.total → blended_number mix number ≡ number i
  alone zero l e = exactly (number 0) (omega (arith, ints, own 0 e, none 1 (omega arith), none 2 (omega arith)))
  alone (suc zero) l e = exactly (number 1) (omega (arith, ints, own 1 e, none 0 (omega arith), none 2 (omega arith)))
  alone (suc (suc zero)) l e = exactly (number 2) (omega (arith, ints, own 2 e, none 0 (omega arith), none 1 (omega arith)))
  alone (suc (suc (suc i))) l e = absurd (omega arith)

-- Only the numbers of the three masters count.
pub by_three : (mix : Mix) (f g : ℕ → ℤ) → f 0 ≡ g 0 → f 1 ≡ g 1 → f 2 ≡ g 2
    → blended_number mix f ≡ blended_number mix g
unfolding blended_number
by_three mix f g x y z i =
    floor
    (pos 2 *ℤ (weight mix f 0 *ℤ x i +ℤ weight mix f 1 *ℤ y i +ℤ weight mix f 2 *ℤ z i) +ℤ pos mix.total) (2 * mix.total)
