-- Measures: a height for each position, under one law.
use Rattle.std.specs.Prelude.{◌≡◌, cond, ◌&&◌, ◌≢◌, ℤ, pos, ◌+ℤ◌, ◌-ℤ◌, ◌*ℤ◌, ◌≤ℤ◌, ◌<ℤ◌, nat_le}
use Rattle.plane.specs.Plane.{Position, InPlane, along_u, along_v}

-- Whole numbers, one for each position.
abbrev pub Heights : Type 0
Heights = Position → ℤ

-- Heights that are 0 outside the plane.
unfoldable pub only_in_plane : Heights → Heights
only_in_plane h p = cond (nat_le p.u 4096 && nat_le p.v 4096) (h p) (pos 0)

-- Twice the height of q above that of p, beyond what the slopes s and t give.
abbrev pub excess : Heights → ℤ → ℤ → Position → Position → ℤ
excess h s t p q = pos 2 *ℤ h q -ℤ (pos 2 *ℤ h p +ℤ s *ℤ along_u p q +ℤ t *ℤ along_v p q)

-- A plane that touches the heights at p alone: every other position of the plane lies above it.
pub record Support (h : Heights) (p : Position) : Type 0 where
  pub s : ℤ
  pub t : ℤ
  pub above : (q : Position) → InPlane q → q ≢ p → pos 0 <ℤ excess h s t p q

-- The law of a measure: there is such a plane at each position.
abbrev pub Supported : Heights → Type 0
Supported h = (p : Position) → InPlane p → Support h p

-- A height is a whole number from 0 to 2^33.
pub record Height (z : ℤ) : Type 0 where
  pub low : pos 0 ≤ℤ z
  pub high : z ≤ℤ pos 8589934592

-- Every position has one, and outside the plane it is 0.
pub record Bounded (h : Heights) : Type 0 where
  pub height : (p : Position) → Height (h p)
  pub outside : (p : Position) → (InPlane p → ⊥) → h p ≡ pos 0
