-- The crossings of a triangle that turns left sum to 0 or to 1, and to 1 only where it turns left around the position.
use Rattle.std.proofs.Common.{◌≡◌, ◌<◌, ◌≤◌, ◌⊎◌, [], ◌∷◌, ℤ, pos, negsuc, ◌+ℤ◌, ◌-ℤ◌, ◌*ℤ◌, neg_ℤ, ◌≤ℤ◌, ◌<ℤ◌, ◌∙◌, inl, inr, arith}
use lib.IntN.{*ℤ_comm}
use Rattle.std.proofs.lemmas.Int.{ints, by_lt_z}
use Rattle.std.proofs.lemmas.Bool.Decides.{nat_tests, leb_tells}
use Rattle.algebra.proofs.Polynomials.{var, lit, ◌⊗◌, ◌⊖◌, solve}
use Rattle.algebra.proofs.Signs.{mul_pos, mul_nonneg, mul_nonpos, nonneg_of_mul, pos_of_mul_neg, zero_of_mul}
use Rattle.plane.specs.Plane.{
  Position,
  along_u,
  along_v,
  turn,
  Left,
  NotRight,
  Around,
  crossing,
  crossings,
  Owns,
}
use Rattle.plane.specs.Turns.{turn_cycle, turn_swap, turn_last, weights_v, scale, centroid, turn_centroid}
use Rattle.plane.specs.Strict.{around, around_turned}

-- Along v a position is low, which is not above q, or it is high.
record Low (q a : Position) : Type 0 where
  low : a.v ≤ q.v

record High (q a : Position) : Type 0 where
  high : q.v < a.v

abbrev Side : Position → Position → Type 0
Side q a = Low q a ⊎ High q a

side : (q a : Position) → Side q a
side q a =
    elim (leb_tells a.v q.v) [ inl l ↦ inl (record { low = l.1 }) | inr l ↦ inr (record { high = l.1 }) ]

-- What the crossing of an edge is, by the sides of its two ends.
both_low : {q a b : Position} → Low q a → Low q b → crossing q a b ≡ pos 0
unfolding crossing
both_low x y = grind (arith, nat_tests)

both_high : {q a b : Position} → High q a → High q b → crossing q a b ≡ pos 0
unfolding crossing
both_high x y = grind (arith, nat_tests)

rises : {q a b : Position} → Low q a → High q b
    → ((crossing q a b ≡ pos 1) × (pos 0 <ℤ turn a b q)) ⊎ ((crossing q a b ≡ pos 0) × (turn a b q ≤ℤ pos 0))
unfolding crossing
rises {q} {a} {b} x y =
    by_lt_z (pos 0) (turn a b q) (λ l. inl (grind (arith, nat_tests, ints), l)) (λ l. inr (grind (arith, nat_tests, ints), l))

falls : {q a b : Position} → High q a → Low q b
    → ((crossing q a b ≡ negsuc 0) × (turn a b q <ℤ pos 0)) ⊎ ((crossing q a b ≡ pos 0) × (pos 0 ≤ℤ turn a b q))
unfolding crossing
falls {q} {a} {b} x y =
    by_lt_z (turn a b q) (pos 0) (λ l. inl (grind (arith, nat_tests, ints), l)) (λ l. inr (grind (arith, nat_tests, ints), l))

-- The crossing of the edge from b to a is minus that of the edge from a to b.
pub crossing_anti : (q a b : Position) → crossing q b a ≡ neg_ℤ (crossing q a b)
crossing_anti q a b = by (side q a) (side q b)
  where
    by : Side q a → Side q b → crossing q b a ≡ neg_ℤ (crossing q a b)
    by (inl x) (inl y) = omega (arith, ints, both_low x y, both_low y x)
    by (inl x) (inr y) = omega (arith, ints, rises x y, falls y x, turn_swap a b q)
    by (inr x) (inl y) = omega (arith, ints, falls x y, rises y x, turn_swap a b q)
    by (inr x) (inr y) = omega (arith, ints, both_high x y, both_high y x)

-- What can be turned round holds of any three positions, if it holds where all are low, where all are high, where the
-- third alone is high, and where the first alone is low.
round : (q : Position) (P : Position → Position → Position → Type 0) → ((a b c : Position) → P b c a → P a b c)
    → ((a b c : Position) → Low q a → Low q b → Low q c → P a b c)
    → ((a b c : Position) → High q a → High q b → High q c → P a b c)
    → ((a b c : Position) → Low q a → Low q b → High q c → P a b c)
    → ((a b c : Position) → Low q a → High q b → High q c → P a b c)
    → (a b c : Position) → P a b c
round q P back lows highs one_high one_low a b c = by (side q a) (side q b) (side q c)
  where
    by : Side q a → Side q b → Side q c → P a b c
    by (inl x) (inl y) (inl z) = lows a b c x y z
    by (inl x) (inl y) (inr z) = one_high a b c x y z
    by (inl x) (inr y) (inl z) = back a b c (back b c a (one_high c a b z x y))
    by (inr x) (inl y) (inl z) = back a b c (one_high b c a y z x)
    by (inl x) (inr y) (inr z) = one_low a b c x y z
    by (inr x) (inl y) (inr z) = back a b c (one_low b c a y z x)
    by (inr x) (inr y) (inl z) = back a b c (back b c a (one_low c a b z x y))
    by (inr x) (inr y) (inr z) = highs a b c x y z

-- The weights balance the heights along v, so that the signs of two give the third: where one position alone is high,
third_weight : {q a b c : Position} → Low q a → Low q b → High q c → Left q b c → NotRight q c a → NotRight q a b
third_weight {q} {a} {b} {c} la lb hc wa wb =
    let x = mul_nonpos (turn q b c) (along_v q a) (omega (arith, ints)) (omega (arith, ints)) in
    let y = mul_nonpos (turn q c a) (along_v q b) (omega (arith, ints)) (omega (arith, ints)) in
    record { not_right = rest _ _ (turn q a b) (along_v q c) (weights_v a b c q) x y (omega (arith, ints)) }
  where
    rest : (x y z w : ℤ) → x +ℤ y +ℤ z *ℤ w ≡ pos 0 → x ≤ℤ pos 0 → y ≤ℤ pos 0 → pos 0 <ℤ w → pos 0 ≤ℤ z
    rest x y z w e hx hy hw = nonneg_of_mul w z hw (omega (arith, ints, *ℤ_comm w z))

-- and where one alone is low.
first_weight : {q a b c : Position} → Low q a → High q b → High q c → NotRight q c a → Left q a b → Left q b c
first_weight {q} {a} {b} {c} la hb hc wb wc =
    let y = mul_nonneg (turn q c a) (along_v q b) (omega (arith, ints)) (omega (arith, ints)) in
    let z = mul_pos (turn q a b) (along_v q c) (omega (arith, ints)) (omega (arith, ints)) in
    record { left = rest (turn q b c) (along_v q a) _ _ (weights_v a b c q) y z (omega (arith, ints)) }
  where
    rest : (x w y z : ℤ) → x *ℤ w +ℤ y +ℤ z ≡ pos 0 → pos 0 ≤ℤ y → pos 0 <ℤ z → w ≤ℤ pos 0 → pos 0 <ℤ x
    rest x w y z e hy hz hw = pos_of_mul_neg x w hw (omega (arith, ints))

around_high : (q a b c : Position) → Low q a → Low q b → High q c → Owns a b c q → Around a b c q
around_high q a b c la lb hc e =
    let wa : Left q b c = omega (arith, ints, both_low la lb, rises lb hc, falls hc la, turn_cycle q b c) in
    let wb : NotRight q c a = omega (arith, ints, both_low la lb, rises lb hc, falls hc la, turn_cycle q c a) in
    around wa wb (third_weight la lb hc wa wb)

around_low : (q a b c : Position) → Low q a → High q b → High q c → Owns a b c q → Around a b c q
around_low q a b c la hb hc e =
    let wb : NotRight q c a = omega (arith, ints, rises la hb, both_high hb hc, falls hc la, turn_cycle q c a) in
    let wc : Left q a b = omega (arith, ints, rises la hb, both_high hb hc, falls hc la, turn_cycle q a b) in
    around (first_weight la hb hc wb wc) wb (omega (arith, ints))

-- Any three positions whose crossings sum to 1 turn left around the position.
pub owned : (a b c q : Position) → Owns a b c q → Around a b c q
owned a b c q =
    round q (λ a b c. Owns a b c q → Around a b c q)
    (λ a b c f e. around_turned (around_turned (f (omega (arith, ints)))))
    (λ a b c x y z e. absurd (omega (arith, ints, both_low x y, both_low y z, both_low z x)))
    (λ a b c x y z e. absurd (omega (arith, ints, both_high x y, both_high y z, both_high z x)))
    (around_high q)
    (around_low q)
    a b c

-- Going round, as many edges rise as fall: none or one.
pub crossings_small : (a b c q : Position) → (negsuc 0 ≤ℤ crossings q a b c) × (crossings q a b c ≤ℤ pos 1)
crossings_small a b c q =
    round q (λ a b c. (negsuc 0 ≤ℤ crossings q a b c) × (crossings q a b c ≤ℤ pos 1))
    (λ a b c s. omega (arith, ints))
    (λ a b c x y z. omega (arith, ints, both_low x y, both_low y z, both_low z x))
    (λ a b c x y z. omega (arith, ints, both_high x y, both_high y z, both_high z x))
    (λ a b c x y z. omega (arith, ints, both_low x y, rises y z, falls z x))
    (λ a b c x y z. omega (arith, ints, rises x y, both_high y z, falls z x))
    a b c

-- A sum of −1 would be a sum of 1 the other way round: where the three turn left there is none.
pub crossings_left : {a b c : Position} → Left a b c → (q : Position) → (crossings q a b c ≡ pos 0) ⊎ Owns a b c q
crossings_left {a} {b} {c} l q =
    let s = crossings_small a b c q in
    by_lt_z (pos 0) (crossings q a b c) (λ p. inr (omega (arith, ints))) (λ p. inl (none p))
  where
    never : crossings q a b c ≡ negsuc 0 → ⊥
    never n =
        let e : Owns a c b q = omega (arith, ints, crossing_anti q a b, crossing_anti q b c, crossing_anti q c a) in
        omega (arith, ints, turn_last a b c, owned a c b q e)

    none : crossings q a b c ≤ℤ pos 0 → crossings q a b c ≡ pos 0
    none p =
        let s = crossings_small a b c q in
        by_lt_z (crossings q a b c) (pos 0) (λ n. absurd (never (omega (arith, ints)))) (λ n. omega (arith, ints))

-- Where the weights are positive, not all three are low, for two of them would be level with q and turn nowhere,
level : (q a b : Position) → along_v q a ≡ pos 0 → along_v q b ≡ pos 0 → turn q a b ≡ pos 0
unfolding turn
level q a b e f =
    (λ i. along_u q a *ℤ f i -ℤ e i *ℤ along_u q b)
    ∙ solve (var 0 ⊗ lit (pos 0) ⊖ lit (pos 0) ⊗ var 1) (lit (pos 0)) tt (along_u q a ∷ along_u q b ∷ [])

not_all_low : {q a b c : Position} → Low q a → Low q b → Low q c → Left q b c → Left q c a → Left q a b → ⊥
not_all_low {q} {a} {b} {c} la lb lc wa wb wc =
    let x = mul_nonpos (turn q b c) (along_v q a) (omega (arith, ints)) (omega (arith, ints)) in
    let y = mul_nonpos (turn q c a) (along_v q b) (omega (arith, ints)) (omega (arith, ints)) in
    let z = mul_nonpos (turn q a b) (along_v q c) (omega (arith, ints)) (omega (arith, ints)) in
    let s = zeros _ _ _ (weights_v a b c q) x y z in
    let ea = zero_of_mul (turn q b c) (along_v q a) wa.left s.0 in
    let eb = zero_of_mul (turn q c a) (along_v q b) wb.left s.1 in
    omega (arith, ints, level q a b ea eb)
  where
    zeros : (x y z : ℤ) → x +ℤ y +ℤ z ≡ pos 0 → x ≤ℤ pos 0 → y ≤ℤ pos 0 → z ≤ℤ pos 0 → (x ≡ pos 0) × (y ≡ pos 0)
    zeros x y z e hx hy hz = omega (arith, ints)

-- nor are all three high.
not_all_high : {q a b c : Position} → High q a → High q b → High q c → Left q b c → Left q c a → Left q a b → ⊥
not_all_high {q} {a} {b} {c} ha hb hc wa wb wc =
    let x = mul_pos (turn q b c) (along_v q a) wa.left (omega (arith, ints)) in
    let y = mul_pos (turn q c a) (along_v q b) wb.left (omega (arith, ints)) in
    let z = mul_pos (turn q a b) (along_v q c) wc.left (omega (arith, ints)) in
    never _ _ _ (weights_v a b c q) x y z
  where
    never : (x y z : ℤ) → x +ℤ y +ℤ z ≡ pos 0 → pos 0 <ℤ x → pos 0 <ℤ y → pos 0 <ℤ z → ⊥
    never x y z e hx hy hz = omega (arith, ints)

-- A triangle owns each position at which its three weights are positive.
pub owns : (a b c q : Position) → Left q b c → Left q c a → Left q a b → Owns a b c q
owns a b c q =
    round q (λ a b c. Left q b c → Left q c a → Left q a b → Owns a b c q)
    (λ a b c f r s t. let e = f s t r in omega (arith, ints))
    (λ a b c x y z r s t. absurd (not_all_low x y z r s t))
    (λ a b c x y z r s t. absurd (not_all_high x y z r s t))
    (λ a b c x y z r s t. omega (arith, ints, both_low x y, rises y z, falls z x, turn_cycle q b c, turn_cycle q c a))
    (λ a b c x y z r s t. omega (arith, ints, rises x y, both_high y z, falls z x, turn_cycle q a b, turn_cycle q c a))
    a b c

-- A triangle that turns left owns its centroid, at scale 3.
pub owns_centroid : {a b c : Position} → Left a b c → Owns (scale 3 a) (scale 3 b) (scale 3 c) (centroid a b c)
owns_centroid {a} {b} {c} l =
    let t = turn_centroid a b c in
    owns (scale 3 a) (scale 3 b) (scale 3 c) (centroid a b c) (third t.0) (third t.1) (third t.2)
  where
    third : {x y z : Position} → turn x y z ≡ pos 3 *ℤ turn a b c → Left x y z
    third e = omega (arith, ints)
