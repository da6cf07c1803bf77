-- Rings: three masters that turn left have one, and it holds the positions at which K is positive. For the squared distance
-- from a point as height it is the circle through the three; a measure makes it another curve.
use Rattle.std.specs.Prelude.{◌≢◌, ℤ, pos, ◌+ℤ◌, ◌-ℤ◌, ◌*ℤ◌, ◌≤ℤ◌, ◌<ℤ◌}
use Rattle.plane.specs.Plane.{Position, InPlane, turn, Around}
use Rattle.plane.specs.Measures.{Heights}

-- The ring number of q.
unfoldable pub K : Heights → Position → Position → Position → Position → ℤ
K h a b c q = (h a -ℤ h q) *ℤ turn q b c +ℤ (h b -ℤ h q) *ℤ turn q c a +ℤ (h c -ℤ h q) *ℤ turn q a b

-- The heights of a, b and c, summed by their weights at q. Divided by the total turn a b c, and less the height of q, this is the spread.
unfoldable pub blend : Heights → Position → Position → Position → Position → ℤ
blend h a b c q = h a *ℤ turn q b c +ℤ h b *ℤ turn q c a +ℤ h c *ℤ turn q a b

-- q is inside the ring: the ring holds it
pub record Inside (h : Heights) (a b c q : Position) : Type 0 where
  pub inside : pos 0 <ℤ K h a b c q

-- outside it or on it
pub record NotIn (h : Heights) (a b c q : Position) : Type 0 where
  pub not_in : K h a b c q ≤ℤ pos 0

-- inside it or on it
pub record NotOut (h : Heights) (a b c q : Position) : Type 0 where
  pub not_out : pos 0 ≤ℤ K h a b c q

-- All four positions of a ring test lie in the plane.
pub record AllInPlane (a b c q : Position) : Type 0 where
  pub a_in : InPlane a
  pub b_in : InPlane b
  pub c_in : InPlane c
  pub q_in : InPlane q

-- What the law of a measure gives: where three masters turn left around a position that is none of them, their ring holds it.
abbrev pub HoldsAround : Heights → Type 0
HoldsAround h =
    (a b c q : Position) → AllInPlane a b c q → Around a b c q → a ≢ q → b ≢ q → c ≢ q → Inside h a b c q
