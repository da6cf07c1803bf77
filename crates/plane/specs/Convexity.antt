-- A sequence whose rises rise is strictly convex: at each place a line touches it there alone.
use Rattle.std.specs.Prelude.{◌≡◌, ℕ, zero, suc, ◌+◌, ◌-◌, ◌*◌, ◌<◌, ◌≤◌, [], ◌∷◌, ℤ, pos, ◌+ℤ◌, ◌-ℤ◌, ◌*ℤ◌, ◌≤ℤ◌}
use Rattle.std.proofs.Common.{sym, ⊎_elim, add-zero, add-suc, suc-add, mul-le-mul_right, arith}
use Rattle.std.proofs.Math.Path.{subst}
use Rattle.std.proofs.lemmas.Int.{ints}
use Rattle.std.proofs.lemmas.Bool.{cases_lt}
use Rattle.algebra.proofs.Polynomials.{var, lit, ◌⊕◌, ◌⊗◌, ◌⊖◌, solve}

-- How far two places lie apart.
abbrev pub apart : ℕ → ℕ → ℕ
apart j k = (j - k) + (k - j)

-- Of two places one lies at some distance d after the other: what is shown both ways round holds of any two.
either_side : (P : ℕ → ℕ → Type 0) → ((d k : ℕ) → P k (k + d)) → ((d k : ℕ) → P (k + d) k) → (k j : ℕ) → P k j
either_side P p q k j =
    ⊎_elim
    (λ h. subst (λ i. P i j) (omega arith) (q (k - j) j))
    (λ h. subst (λ i. P k i) (omega arith) (p (j - k) k))
    (cases_lt j k)

-- Twice the slope of a line at a place with the rise r: below 2 r, and above twice the rise before.
unfoldable pub slope : ℕ → ℤ
slope r = pos 2 *ℤ pos r -ℤ pos 1

-- Twice what f, whose rises are r, has at j above that line through its place k.
unfoldable pub gap : (ℕ → ℕ) → (ℕ → ℕ) → ℕ → ℕ → ℤ
gap f r k j = pos 2 *ℤ pos (f j) -ℤ (pos 2 *ℤ pos (f k) +ℤ slope (r k) *ℤ (pos j -ℤ pos k))

module _ (f r : ℕ → ℕ) (sums : (k : ℕ) → f (suc k) ≡ f k + r k) (rises : (k : ℕ) → r k < r (suc k)) where
  -- After k each step gains the rise at k or more, and before it less.
  after : (d k : ℕ) → f k + r k * d ≤ f (k + d)
  after zero k = rw add-zero (omega arith)
  after (suc d) k =
      let more : r k * d ≤ r (suc k) * d = mul-le-mul_right d (omega (arith, rises k)) in
      rw add-suc (omega (arith, sums k, more, rw suc-add at (after d (suc k))))

  before : (d k : ℕ) → f (k + d) + d ≤ f k + r (k + d) * d
  before zero k = simp add-zero (omega arith)
  before (suc d) k =
      let more : suc (r (k + d)) * suc d ≤ r (suc (k + d)) * suc d = mul-le-mul_right (suc d) (rises (k + d)) in
      rw (add-suc k d) (omega (arith, sums (k + d), before d k, more))

  -- So the gap is at least the distance, on either side.
  ahead : (d k : ℕ) → pos (apart (k + d) k) ≤ℤ gap f r k (k + d)
  unfolding slope gap
  ahead d k = subst (λ z. pos (apart (k + d) k) ≤ℤ z) (sym same) (omega (arith, ints, after d k))
    where
      same : gap f r k (k + d) ≡ pos 2 *ℤ (pos (f (k + d)) -ℤ pos (f k + r k * d)) +ℤ pos d
      same =
          let two = lit (pos 2) in
          solve
          (two ⊗ var 1 ⊖ (two ⊗ var 0 ⊕ (two ⊗ var 2 ⊖ lit (pos 1)) ⊗ ((var 3 ⊕ var 4) ⊖ var 3)))
          (two ⊗ (var 1 ⊖ (var 0 ⊕ var 2 ⊗ var 4)) ⊕ var 4) tt
          (pos (f k) ∷ pos (f (k + d)) ∷ pos (r k) ∷ pos k ∷ pos d ∷ [])

  behind : (d k : ℕ) → pos (apart k (k + d)) ≤ℤ gap f r (k + d) k
  unfolding slope gap
  behind d k = subst (λ z. pos (apart k (k + d)) ≤ℤ z) (sym same) (omega (arith, ints, before d k))
    where
      same : gap f r (k + d) k ≡ pos 2 *ℤ (pos (f k + r (k + d) * d) -ℤ pos (f (k + d) + d)) +ℤ pos d
      same =
          let two = lit (pos 2) in
          solve
          (two ⊗ var 0 ⊖ (two ⊗ var 1 ⊕ (two ⊗ var 2 ⊖ lit (pos 1)) ⊗ (var 3 ⊖ (var 3 ⊕ var 4))))
          (two ⊗ ((var 0 ⊕ var 2 ⊗ var 4) ⊖ (var 1 ⊕ var 4)) ⊕ var 4) tt
          (pos (f k) ∷ pos (f (k + d)) ∷ pos (r (k + d)) ∷ pos k ∷ pos d ∷ [])

  -- The line touches f at k alone: elsewhere the gap is positive.
  pub lifted : (k j : ℕ) → pos (apart j k) ≤ℤ gap f r k j
  lifted = either_side (λ k j. pos (apart j k) ≤ℤ gap f r k j) ahead behind
