-- The rows of a sheet lie within its bytes.
use Rattle.std.proofs.Common.{ℕ, ◌+◌, ◌*◌, ◌<◌, ◌≤◌, List, length, mul-le-mul_right, arith}
use Rattle.sheet.specs.declared.section.Section.{Section}
use Rattle.sheet.specs.declared.section.Section.TheVariants.{Masters, Advances, Pairs}
use Rattle.sheet.specs.Layout.{KeepsLayout, count, stated_offset, record_length, room}
use Rattle.sheet.specs.Rows.{row_start}

-- The records of each section end within the bytes.
section_within : (bytes : List ℕ) → KeepsLayout bytes → (s : Section)
    → stated_offset bytes s + room bytes s ≤ length bytes
section_within bytes keeps Masters = omega arith
section_within bytes keeps Advances = omega arith
section_within bytes keeps Pairs = omega arith

-- The part of number k, of n parts of one size, ends within the whole.
part_within : (k n size : ℕ) → k < n → k * size + size ≤ n * size
part_within k n size below = let whole : (k + 1) * size ≤ n * size = mul-le-mul_right size (omega arith) in omega arith

-- A row that the count covers lies within the bytes.
pub row_within : (bytes : List ℕ) (s : Section) (k : ℕ) → KeepsLayout bytes → k < count bytes s
    → row_start bytes s k + record_length bytes s ≤ length bytes
row_within bytes s k keeps below =
    omega (arith, section_within bytes keeps s, part_within k (count bytes s) (record_length bytes s) below)
