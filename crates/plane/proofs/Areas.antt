-- Twice the area of a triangle in the plane is at most that of the plane. Along u each corner counts by the difference of
-- the other two along v; these differences sum to 0, so those that count upward sum to no more than the plane's height.
use Rattle.std.proofs.Common.{◌≡◌, ◌⊎◌, [], ◌∷◌, ℤ, pos, negsuc, ◌+ℤ◌, ◌*ℤ◌, ◌≤ℤ◌, sym, refl, subst, inl, inr, arith}
use lib.IntN.{*ℤ_comm}
use Rattle.std.proofs.lemmas.Int.{ints}
use Rattle.algebra.proofs.Polynomials.{◌⊕◌, ◌⊗◌, ◌⊖◌, solve}
use Rattle.algebra.proofs.Signs.{mul_le, mul_nonpos}
use Rattle.plane.specs.Plane.{Position, InPlane, along_v, turn}
use Rattle.plane.specs.Turns.{point, turn_e, values, flat}

-- A coordinate of the plane, and a difference of two.
record Coordinate (x : ℤ) : Type 0 where
  low : pos 0 ≤ℤ x
  high : x ≤ℤ pos 4096

record Difference (d : ℤ) : Type 0 where
  least : negsuc 4095 ≤ℤ d
  most : d ≤ℤ pos 4096

-- A difference where it is positive, else 0.
abbrev upward : ℤ → ℤ
upward (pos n) = pos n
upward (negsuc n) = pos 0

signed : (d : ℤ) → ((upward d ≡ d) × (pos 0 ≤ℤ d)) ⊎ ((upward d ≡ pos 0) × (d ≤ℤ pos 0))
signed (pos n) = inl (refl, omega (arith, ints))
signed (negsuc n) = inr (refl, omega (arith, ints))

capped : (x d : ℤ) → Coordinate x → (x *ℤ d) ≤ℤ (pos 4096 *ℤ upward d)
capped x (pos n) h =
    let m = mul_le (pos n) x (pos 4096) (omega (arith, ints)) h.high in
    omega (arith, ints, *ℤ_comm x (pos n))
capped x (negsuc n) h =
    let m = mul_nonpos x (negsuc n) h.low (omega (arith, ints)) in
    omega (arith, ints)

round : (d e f : ℤ) → d +ℤ e +ℤ f ≡ pos 0 → Difference d → Difference e → Difference f
    → (upward d +ℤ upward e +ℤ upward f) ≤ℤ pos 4096
round d e f s hd he hf = omega (arith, ints, signed d, signed e, signed f)

-- 4,096 times the height of 4,096
summed : (x y z d e f : ℤ) → Coordinate x → Coordinate y → Coordinate z → d +ℤ e +ℤ f ≡ pos 0
    → Difference d → Difference e → Difference f → (x *ℤ d +ℤ y *ℤ e +ℤ z *ℤ f) ≤ℤ pos 16777216
summed x y z d e f hx hy hz s hd he hf =
    omega (arith, ints, capped x d hx, capped y e hy, capped z f hz, round d e f s hd he hf)

by_columns : (a b c : Position)
    → turn a b c ≡ pos a.u *ℤ along_v c b +ℤ pos b.u *ℤ along_v a c +ℤ pos c.u *ℤ along_v b a
unfolding turn
by_columns a b c =
    let A = point 0 in
    let B = point 1 in
    let C = point 2 in
    solve (turn_e A B C) (A.pu ⊗ (B.pv ⊖ C.pv) ⊕ B.pu ⊗ (C.pv ⊖ A.pv) ⊕ C.pu ⊗ (A.pv ⊖ B.pv)) tt
    (values flat (a ∷ b ∷ c ∷ []) [])

pub turn_at_most : {a b c : Position} → InPlane a → InPlane b → InPlane c → turn a b c ≤ℤ pos 16777216
turn_at_most {a} {b} {c} ha hb hc =
    subst (λ (z : ℤ). z ≤ℤ pos 16777216) (sym (by_columns a b c))
    (summed _ _ _ _ _ _ (column ha) (column hb) (column hc) (omega (arith, ints)) (rise hc hb) (rise ha hc) (rise hb ha))
  where
    column : {q : Position} → InPlane q → Coordinate (pos q.u)
    column i = record { low = omega (arith, ints); high = omega (arith, ints) }

    rise : {p q : Position} → InPlane p → InPlane q → Difference (along_v p q)
    rise i j = record { least = omega (arith, ints); most = omega (arith, ints) }
