-- What kinds of figures have in common.
use Rattle.std.specs.Prelude.{◌≡◌, ℕ, zero, suc, ◌*◌, ◌≤◌, ℤ, pos, negsuc, ◌≤ℤ◌}
use Rattle.figures.specs.declared.head.Head.{Head}
use Rattle.figures.specs.declared.head.Head.TheVariants.{Glyph, Pair}

-- The least and the greatest number of a kind.
pub record Range : Type 0 where
  pub least : ℤ
  pub greatest : ℤ

pub record InRange (range : Range) (z : ℤ) : Type 0 where
  pub not_below : range.least ≤ℤ z
  pub not_above : z ≤ℤ range.greatest

-- Both lie within 65,535 of 0.
pub record Narrow (range : Range) : Type 0 where
  pub low : negsuc 65534 ≤ℤ range.least
  pub high : range.greatest ≤ℤ pos 65535

-- The two kinds of version 1: 16 bits without a sign, and with one.
abbrev pub advance_range : Range
advance_range = record { least = pos 0; greatest = pos 65535 }

abbrev pub pair_range : Range
pair_range = record { least = negsuc 32767; greatest = pos 32767 }

-- How many glyph numbers head a row.
abbrev pub glyphs : Head → ℕ
glyphs Glyph = 1
glyphs Pair = 2

-- A figure takes two bytes for each glyph number that heads a row, and has at most two numbers.
pub record Shape (bytes : ℕ) (head : Head) (parts : ℕ) : Type 0 where
  pub even : bytes ≡ 2 * glyphs head
  pub few : parts ≤ 2

-- The first number at part 0, the second at the others.
abbrev pub by_part : ℤ → ℤ → ℕ → ℤ
by_part x y zero = x
by_part x y (suc p) = y
