-- The layout of a sheet: where each number stands, and what it must be.
use Rattle.std.specs.Prelude.{◌≡◌, ℕ, ◌+◌, ◌*◌, ◌≤◌, List, [], ◌∷◌, length, slice_index}
use Rattle.figures.specs.Bytes.{word}
use Rattle.plane.specs.declared.Position.{Position}
use Rattle.sheet.specs.declared.section.Section.{Section}
use Rattle.sheet.specs.declared.section.Section.TheVariants.{Masters, Advances, Pairs}

abbrev pub sections : List Section
sections = Masters ∷ Advances ∷ Pairs ∷ []

-- Where the header speaks of a section: six bytes for each, after mark and version.
abbrev pub entry : Section → ℕ
entry Masters = 4
entry Advances = 10
entry Pairs = 16

-- What the header states of a section: how many records, how long each is, and where the first starts.
abbrev pub count : List ℕ → Section → ℕ
count bytes s = word bytes (entry s)

abbrev pub stated_length : List ℕ → Section → ℕ
stated_length bytes s = word bytes (entry s + 2)

abbrev pub stated_offset : List ℕ → Section → ℕ
stated_offset bytes s = word bytes (entry s + 4)

-- The masters of the family: the four corners, and those that the sheet places.
abbrev pub masters : List ℕ → ℕ
masters bytes = 4 + count bytes Masters

-- The bytes of one record: a position, or the glyph numbers of a row and one figure for each master.
abbrev pub record_length : List ℕ → Section → ℕ
record_length bytes Masters = 4
record_length bytes Advances = 2 + 2 * masters bytes
record_length bytes Pairs = 4 + 4 * masters bytes

-- The bytes of all records of a section.
abbrev pub room : List ℕ → Section → ℕ
room bytes s = count bytes s * record_length bytes s

-- The one rule of the layout: from a place on, each section starts where the one before it ends, and the sheet ends with the last.
abbrev pub Consecutive : List ℕ → ℕ → List Section → Type 0
Consecutive bytes place [] = length bytes ≡ place
Consecutive bytes place (s ∷ later) = (stated_offset bytes s ≡ place) × Consecutive bytes (place + room bytes s) later

-- What a sheet must keep to be accepted.
pub record KeepsLayout (bytes : List ℕ) : Type 0 where
  pub header : 22 ≤ length bytes
  pub limit : length bytes ≤ 65535
  pub mark : (slice_index bytes 0 ≡ 70) × (slice_index bytes 1 ≡ 83)
  pub version : word bytes 2 ≡ 1
  pub few : count bytes Masters ≤ 124
  pub lengths : (s : Section) → stated_length bytes s ≡ record_length bytes s
  pub offsets : Consecutive bytes 22 sections

-- The version 1 sheet without records.
abbrev pub fresh_sheet : List ℕ
fresh_sheet =
    70 ∷ 83 ∷ 0 ∷ 1
    ∷ 0 ∷ 0 ∷ 0 ∷ 4 ∷ 0 ∷ 22
    ∷ 0 ∷ 0 ∷ 0 ∷ 10 ∷ 0 ∷ 22
    ∷ 0 ∷ 0 ∷ 0 ∷ 20 ∷ 0 ∷ 22
    ∷ []

-- The position in master record k, counted from 0.
abbrev pub master_record : List ℕ → ℕ → Position
master_record bytes k = record { u = word bytes (22 + 4 * k); v = word bytes (22 + 4 * k + 2) }
