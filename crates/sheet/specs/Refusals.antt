-- The refusals of sheets: the number and the named values of each case, and the rows that checking tries.
use Rattle.std.specs.Prelude.{ℕ, ◌+◌, Bool, not, ◌||◌, List, [], ◌∷◌, ◌++◌, map, length, Option, ◌==◌, nat_le, nat_lt, slice_index}
use Rattle.plane.specs.Refusal.{Refusal, Row, first}
use Rattle.sheet.specs.declared.section.Section.{Section}
use Rattle.sheet.specs.declared.section.Section.TheVariants.{Masters, Advances, Pairs}
use Rattle.sheet.specs.declared.fault.Boundary.{Boundary}
use Rattle.sheet.specs.declared.fault.Boundary.TheVariants.{Start, End}
use Rattle.sheet.specs.declared.fault.SheetFault.{SheetFault}
use Rattle.sheet.specs.declared.fault.SheetFault.TheVariants as fault
use Rattle.sheet.specs.declared.fault.RecordFault.{RecordFault}
use Rattle.sheet.specs.declared.fault.RecordFault.TheVariants.{NoSuchRecord}
use Rattle.sheet.specs.declared.fault.RowFault.{RowFault}
use Rattle.sheet.specs.declared.fault.RowFault.TheVariants.{NoSuchRow, ShortBuffer}
use Rattle.figures.specs.Bytes.{word}
use Rattle.sheet.specs.Layout.{sections, masters, count, stated_length, stated_offset, record_length, room}

-- The number by which a refusal names a section, and 4 for the end.
abbrev pub section_number : Section → ℕ
section_number Masters = 1
section_number Advances = 2
section_number Pairs = 3

abbrev pub boundary_number : Boundary → ℕ
boundary_number (Start s) = section_number s
boundary_number End = 4

-- What each case of SheetFault says.
abbrev pub sheet_refusal : SheetFault → Refusal
sheet_refusal fault.Size = record { number = 7; names = [] }
sheet_refusal fault.Mark = record { number = 8; names = [] }
sheet_refusal fault.Masters = record { number = 9; names = [] }
sheet_refusal (fault.RecordLength s) = record { number = 10; names = section_number s ∷ [] }
sheet_refusal (fault.Offset b) = record { number = 11; names = boundary_number b ∷ [] }

abbrev pub row : Bool → SheetFault → Row
row when f = record { applies = when; answer = sheet_refusal f }

abbrev pub differs : ℕ → ℕ → Bool
differs m n = not (m == n)

abbrev pub length_row : List ℕ → Section → Row
length_row bytes s = row (differs (stated_length bytes s) (record_length bytes s)) (fault.RecordLength s)

-- The rows of sections that are to follow each other from a place on, and of the sheet's end.
abbrev pub offset_rows : List ℕ → ℕ → List Section → List Row
offset_rows bytes place [] = row (differs (length bytes) place) (fault.Offset End) ∷ []
offset_rows bytes place (s ∷ later) =
    row (differs (stated_offset bytes s) place) (fault.Offset (Start s)) ∷ offset_rows bytes (place + room bytes s) later

-- The rows of checking, in the order in which they are tried.
abbrev pub rows : List ℕ → List Row
rows bytes =
    row (nat_lt (length bytes) 22 || nat_lt 65535 (length bytes)) fault.Size
    ∷ row (differs (slice_index bytes 0) 70 || differs (slice_index bytes 1) 83 || differs (word bytes 2) 1) fault.Mark
    ∷ row (nat_lt 124 (count bytes Masters)) fault.Masters
    ∷ map (length_row bytes) sections
    ++ offset_rows bytes 22 sections

-- Why a sheet is refused: the first row that applies, if one does.
unfoldable pub sheet_refused : List ℕ → Option Refusal
sheet_refused bytes = first (rows bytes)

-- What each case of RecordFault says, and the row of taking master record k.
abbrev pub record_refusal : RecordFault → Refusal
record_refusal NoSuchRecord = record { number = 14; names = [] }

abbrev pub record_rows : List ℕ → ℕ → List Row
record_rows bytes k = record { applies = nat_le (count bytes Masters) k; answer = record_refusal NoSuchRecord } ∷ []

-- What each case of RowFault says, and the rows of taking row k of a section into a buffer of some places.
abbrev pub row_refusal : RowFault → Refusal
row_refusal NoSuchRow = record { number = 14; names = [] }
row_refusal ShortBuffer = record { number = 15; names = [] }

abbrev pub taking_rows : List ℕ → Section → ℕ → ℕ → List Row
taking_rows bytes s k places =
    record { applies = nat_le (count bytes s) k; answer = row_refusal NoSuchRow }
    ∷ record { applies = nat_lt places (masters bytes); answer = row_refusal ShortBuffer }
    ∷ []
