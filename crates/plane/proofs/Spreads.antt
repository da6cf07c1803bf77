-- A live triangle has the least spread: no three masters around q have a smaller one there.
use Rattle.std.proofs.Common.{◌≡◌, ℤ, pos, ◌+ℤ◌, ◌*ℤ◌, ◌≤ℤ◌, arith}
use Rattle.std.proofs.lemmas.Int.{ints}
use Rattle.algebra.proofs.Signs.{mul_nonpos}
use Rattle.plane.specs.Plane.{Position, turn, Around}
use Rattle.plane.specs.Measures.{Heights}
use Rattle.plane.specs.Rings.{K, blend, NotIn}
use Rattle.plane.specs.Holes.{Masters, Live}
use Rattle.plane.specs.Turns.{blend_blend}

-- The blended heights at q, each times the other's total, so that no division is needed.
pub least : {h : Heights} {a b c x y z q : Position} → NotIn h a b c x → NotIn h a b c y → NotIn h a b c z
    → Around x y z q → (turn x y z *ℤ blend h a b c q) ≤ℤ (turn a b c *ℤ blend h x y z q)
least {h} {a} {b} {c} {x} {y} {z} {q} nx ny nz r =
    let i = mul_nonpos (turn q y z) (K h a b c x) r.weight_a.not_right nx.not_in in
    let j = mul_nonpos (turn q z x) (K h a b c y) r.weight_b.not_right ny.not_in in
    let k = mul_nonpos (turn q x y) (K h a b c z) r.weight_c.not_right nz.not_in in
    less _ _ _ _ _ (blend_blend h a b c x y z q) i j k
  where
    less : (l m i j k : ℤ) → l ≡ m +ℤ (i +ℤ j +ℤ k) → i ≤ℤ pos 0 → j ≤ℤ pos 0 → k ≤ℤ pos 0 → l ≤ℤ m
    less l m i j k e hi hj hk = omega (arith, ints)

pub least_live : {h : Heights} {M : Masters} {a b c x y z q : Position} → Live h M a b c → M x → M y → M z
    → Around x y z q → (turn x y z *ℤ blend h a b c q) ≤ℤ (turn a b c *ℤ blend h x y z q)
least_live {x = x} {y = y} {z = z} o mx my mz r = least (o.empty x mx) (o.empty y my) (o.empty z mz) r
