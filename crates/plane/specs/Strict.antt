-- What the law of a measure gives, and the only place that uses it: where a triangle turns left around a position that
-- is none of its masters, its ring holds the position.
use Rattle.std.specs.Prelude.{◌≡◌, ◌≢◌, ℤ, pos, ◌+ℤ◌, ◌*ℤ◌, ◌≤ℤ◌, ◌<ℤ◌}
use Rattle.std.proofs.Common.{sym, subst, arith}
use Rattle.std.proofs.lemmas.Int.{ints, by_lt_z}
use Rattle.algebra.proofs.Signs.{mul_le}
use Rattle.plane.specs.Plane.{Position, InPlane, turn, Left, NotRight, NotLeft, Around}
use Rattle.plane.specs.Measures.{Heights, Support, Supported, excess}
use Rattle.plane.specs.Rings.{K, Inside, HoldsAround}
use Rattle.plane.specs.Turns.{turn_same, turn_cycle, weights_sum, K_excess}

-- Positions that turn left differ.
pub apart : {a b c : Position} → Left a b c → a ≢ b
apart {a} {b} {c} l e = let z = subst (λ x. turn a x c ≡ pos 0) e (turn_same a c) in omega (arith, ints)

-- The same, named from the next vertex.
pub turned : {a b c : Position} → Left a b c → Left b c a
turned {a} {b} {c} l = omega (arith, ints, turn_cycle a b c)

pub around_turned : {a b c q : Position} → Around a b c q → Around b c a q
around_turned r =
    record { weight_a = r.weight_b; weight_b = r.weight_c; weight_c = r.weight_a; total = turned r.total }

pub left_unless : {a b c : Position} → (NotLeft a b c → ⊥) → Left a b c
left_unless {a} {b} {c} n =
    record { left = by_lt_z (pos 0) (turn a b c) (λ l. l) (λ l. absurd (n (record { not_left = l }))) }

-- One positive weight makes the total positive.
pub around : {a b c q : Position} → Left q b c → NotRight q c a → NotRight q a b → Around a b c q
around {a} {b} {c} {q} x y z =
    let t : Left a b c = omega (arith, ints, weights_sum a b c q) in
    record { weight_a = omega (arith, ints); weight_b = y; weight_c = z; total = t }

-- a weight times a whole positive number
at_least : (w x : ℤ) → pos 0 ≤ℤ w → pos 0 <ℤ x → w ≤ℤ (w *ℤ x)
at_least w x h k = let l = mul_le w (pos 1) x h (omega (arith, ints)) in omega (arith, ints)

-- Each excess over the plane that touches the heights at q is at least 1, so their sum by weights is at least the total.
-- That sum is twice K.
pub strict : {h : Heights} {a b c q : Position} → Support h q → InPlane a → InPlane b → InPlane c → Around a b c q
    → a ≢ q → b ≢ q → c ≢ q → Inside h a b c q
strict {h} {a} {b} {c} {q} o ia ib ic r na nb nc = record { inside = positive }
  where
    over : Position → ℤ
    over = excess h o.s o.t q

    half : (k x y z u v w t : ℤ) → pos 2 *ℤ k ≡ x +ℤ y +ℤ z → u +ℤ v +ℤ w ≡ t → u ≤ℤ x → v ≤ℤ y → w ≤ℤ z
        → pos 0 <ℤ t → pos 0 <ℤ k
    half k x y z u v w t e f lx ly lz p = omega (arith, ints)

    positive : pos 0 <ℤ K h a b c q
    positive =
        let x = at_least (turn q b c) (over a) r.weight_a.not_right (o.above a ia na) in
        let y = at_least (turn q c a) (over b) r.weight_b.not_right (o.above b ib nb) in
        let z = at_least (turn q a b) (over c) r.weight_c.not_right (o.above c ic nc) in
        half _ _ _ _ _ _ _ _ (K_excess h o.s o.t a b c q) (weights_sum a b c q) x y z r.total.left

-- Where two weights are positive, q is none of the three.
pub strict_two : {h : Heights} {a b c q : Position} → Support h q → InPlane a → InPlane b → InPlane c
    → Left q b c → Left q c a → NotRight q a b → Inside h a b c q
strict_two {h} {a} {b} {c} {q} o ia ib ic x y z =
    let r = around x (omega (arith, ints)) z in
    strict o ia ib ic r (apart (turned (turned y))) (λ e. apart x (sym e)) (λ e. apart y (sym e))

-- So the rings of a measure hold what their masters turn left around.
pub holds_around : {h : Heights} → Supported h → HoldsAround h
holds_around law a b c q o r = strict (law q o.q_in) o.a_in o.b_in o.c_in r
