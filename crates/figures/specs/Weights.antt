-- The weights of a position in the triangle that owns it.
use Rattle.std.specs.Prelude.{ℕ, ◌+◌, List, ℤ, pos, ◌≤ℤ◌, slice_index}

-- A weight is not negative, and at most 4,096², the area of the plane.
pub record Share (z : ℤ) : Type 0 where
  pub low : pos 0 ≤ℤ z
  pub high : z ≤ℤ pos 16777216

-- What three weights sum to.
abbrev pub sum : List ℕ → ℕ
sum weights = slice_index weights 0 + slice_index weights 1 + slice_index weights 2
