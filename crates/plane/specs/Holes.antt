-- Live triangles, and the hole that a new master makes: it kills the live triangles whose rings hold it. The hole is
-- what they covered, its edges are those between a killed triangle and what stays, and each makes a new triangle with the
-- new master.
use Rattle.std.specs.Prelude.{◌≡◌, ◌⊎◌}
use Rattle.plane.specs.Plane.{Position, InPlane, Left, NotRight}
use Rattle.plane.specs.Measures.{Heights}
use Rattle.plane.specs.Rings.{Inside, NotIn}

-- Which positions are masters.
abbrev pub Masters : Type 1
Masters = Position → Type 0

-- All of them lie in the plane.
abbrev pub Housed : Masters → Type 0
Housed M = (m : Position) → M m → InPlane m

-- The masters with p among them.
abbrev pub also : Masters → Position → Masters
also M p m = M m ⊎ (m ≡ p)

-- A live triangle: three masters that turn left, with no master inside their ring.
pub record Live (h : Heights) (M : Masters) (a b c : Position) : Type 0 where
  pub turns : Left a b c
  pub is_a : M a
  pub is_b : M b
  pub is_c : M c
  pub empty : (m : Position) → M m → NotIn h a b c m

-- The edge from a to b is on the border: no position of the plane lies on its right.
pub record Border (a b : Position) : Type 0 where
  pub all : (q : Position) → InPlane q → NotRight a b q

-- On the left of the edge from a to b is a live triangle whose ring does not hold p: it stays.
pub record Spared (h : Heights) (M : Masters) (p a b : Position) : Type 0 where
  pub d : Position
  pub live : Live h M a b d
  pub spared : NotIn h a b d p

-- The edge from a to b belongs to the hole of p: the ring of the live triangle on its left holds p, and across it is
-- the border or a triangle that stays.
pub record Rim (h : Heights) (M : Masters) (p a b : Position) : Type 0 where
  pub c : Position
  pub father : Live h M a b c
  pub killed : Inside h a b c p
  pub across : Border a b ⊎ Spared h M p b a
