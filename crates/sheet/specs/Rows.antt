-- The rows of a sheet: the glyph numbers at a row's head, then a figure for each master.
use Rattle.std.specs.Prelude.{◌≡◌, ℕ, ◌+◌, ◌*◌, ◌<◌, ◌≤◌, List, length, drop, ℤ, slice_index_or}
use Rattle.sheet.specs.declared.heading.Heading.{Heading}
use Rattle.sheet.specs.declared.heading.Heading.TheVariants.{Glyph, Pair}
use Rattle.sheet.specs.declared.section.Section.{Section}
use Rattle.sheet.specs.declared.section.Section.TheVariants.{Advances, Pairs}
use Rattle.figures.specs.declared.head.Head.{Head}
use Rattle.figures.specs.declared.head.Head.TheVariants as head
use Rattle.figures.specs.Bytes.{word}
use Rattle.figures.specs.Figures.{glyphs}
use Rattle.sheet.specs.Layout.{masters, stated_offset, record_length}

-- Rows headed by one glyph stand among the advances, rows headed by a pair among the pairs.
abbrev pub section_of : Head → Section
section_of head.Glyph = Advances
section_of head.Pair = Pairs

-- Where row k of a section starts, counted from 0.
abbrev pub row_start : List ℕ → Section → ℕ → ℕ
row_start bytes s k = stated_offset bytes s + k * record_length bytes s

-- The one or two glyph numbers from a place on.
abbrev pub heading_at : List ℕ → Head → ℕ → Heading
heading_at bytes head.Glyph place = Glyph (word bytes place)
heading_at bytes head.Pair place = Pair (word bytes place) (word bytes (place + 2))

-- The glyph numbers at the head of row k.
abbrev pub row_heading : Head → List ℕ → ℕ → Heading
row_heading of bytes k = heading_at bytes of (row_start bytes (section_of of) k)

-- A buffer before and after n figures are taken that stand from a place on, each `size` bytes long. Its first n figures
-- then have the numbers that those bytes mean, and the others are as they were.
pub record Taken {F : Type 0} (number : F → ℕ → ℤ) (meant : List ℕ → ℕ → ℤ) (size : ℕ)
    (bytes : List ℕ) (place n : ℕ) (before after : List F) : Type 0 where
  pub front : (i : ℕ) → i < n → (p : ℕ) (d : F) → number (slice_index_or after i d) p ≡ meant (drop (place + i * size) bytes) p
  pub behind : (i : ℕ) → n ≤ i → (d : F) → slice_index_or after i d ≡ slice_index_or before i d
  pub long : length after ≡ length before

-- The figures of row k are taken: one for each master, from behind the glyph numbers on, which have two bytes each.
abbrev pub RowTaken : {F : Type 0} → (F → ℕ → ℤ) → (List ℕ → ℕ → ℤ) → ℕ → Head → List ℕ → ℕ → List F → List F → Type 0
RowTaken number meant size of bytes k before after =
    Taken number meant size bytes (row_start bytes (section_of of) k + 2 * glyphs of) (masters bytes) before after
