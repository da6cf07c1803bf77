-- The weights of a position in a triangle that owns it: none is negative, and their sum runs from 1 to 4,096².
use Rattle.std.proofs.Common.{◌≡◌, ℕ, zero, suc, ◌<◌, List, [], ◌∷◌, length, map, get_or, ℤ, pos, ◌+ℤ◌, ◌≤ℤ◌, ◌<ℤ◌, sym, subst, arith}
use Rattle.std.specs.List.{sum as total}
use Rattle.std.proofs.lemmas.Int.{ints}
use Rattle.plane.specs.Plane.{turn, Owns}
use Rattle.plane.specs.Rings.{AllInPlane}
use Rattle.plane.specs.declared.Position.{Position}
use Rattle.plane.proofs.Areas.{turn_at_most}
use Rattle.plane.proofs.Crossings.{owned}
use Rattle.plane.specs.Turns.{weights_sum}
use Rattle.figures.specs.Weights.{Share, sum}

-- Three such weights.
pub record Shares (x y z : ℤ) : Type 0 where
  pub first : Share x
  pub second : Share y
  pub third : Share z
  pub some : pos 0 <ℤ (x +ℤ y +ℤ z)
  pub most : (x +ℤ y +ℤ z) ≤ℤ pos 16777216

shared : (x y z : ℤ) → pos 0 ≤ℤ x → pos 0 ≤ℤ y → pos 0 ≤ℤ z → pos 0 <ℤ (x +ℤ y +ℤ z)
    → (x +ℤ y +ℤ z) ≤ℤ pos 16777216 → Shares x y z
shared x y z hx hy hz some most = omega (arith, ints)

pub shares : {q a b c : Position} → AllInPlane a b c q → Owns a b c q → Shares (turn q b c) (turn q c a) (turn q a b)
shares {q} {a} {b} {c} i o =
    let w = owned a b c q o in
    let s = weights_sum a b c q in
    let m = turn_at_most i.a_in i.b_in i.c_in in
    shared _ _ _ w.weight_a.not_right w.weight_b.not_right w.weight_c.not_right
    (omega (arith, ints)) (omega (arith, ints))

-- Each of the three is a share.
pub share_at : {x y z w : ℤ} → Shares x y z → (k : ℕ) → k < 3 → w ≡ get_or (x ∷ y ∷ z ∷ []) k w → Share w
share_at s zero l e = subst (λ (v : ℤ). Share v) (sym e) s.first
share_at s (suc zero) l e = subst (λ (v : ℤ). Share v) (sym e) s.second
share_at s (suc (suc zero)) l e = subst (λ (v : ℤ). Share v) (sym e) s.third
share_at s (suc (suc (suc k))) l e = absurd (omega arith)

-- A list of three is its elements.
pub three_listed : (xs : List ℕ) (x y z : ℤ) → length xs ≡ 3 → pos (get_or xs 0 0) ≡ x → pos (get_or xs 1 0) ≡ y
    → pos (get_or xs 2 0) ≡ z → map pos xs ≡ x ∷ y ∷ z ∷ []
three_listed [] x y z l = absurd (omega arith)
three_listed (a ∷ []) x y z l = absurd (omega arith)
three_listed (a ∷ b ∷ []) x y z l = absurd (omega arith)
three_listed (a ∷ b ∷ c ∷ []) x y z l = λ at_x at_y at_z i. at_x i ∷ at_y i ∷ at_z i ∷ []
three_listed (a ∷ b ∷ c ∷ d ∷ xs) x y z l = absurd (omega arith)

-- The sum of such a list is what std's sum gives.
pub three_summed : (xs : List ℕ) {x y z : ℤ} → map pos xs ≡ x ∷ y ∷ z ∷ [] → total xs ≡ sum xs
three_summed [] e = cc
three_summed (a ∷ []) e = cc
three_summed (a ∷ b ∷ []) e = cc
three_summed (a ∷ b ∷ c ∷ []) e = omega arith
three_summed (a ∷ b ∷ c ∷ d ∷ xs) e = cc
