use Rattle.std.proofs.Common.{◌≡◌, ◌+◌, ◌*◌, ◌^◌, ◌≤◌, drop}
use Rattle.plane.specs.Refusal.{first}
use Rattle.sheet.specs.Layout.{sections}
use Rattle.sheet.specs.Refusals.{offset_rows}
use Rattle.sheet.proofs.checking.check_offsets.Given as goal

-- the rows of the sections passed do not apply, and the next is to start at `place`
abbrev pub invariant-loop-section : goal.invariant-loop-section
invariant-loop-section l =
    (first (offset_rows l.header.bytes.now 22 sections)
    ≡ first (offset_rows l.header.bytes.now l.place (drop l.section-index sections)))
    × (l.place ≤ 22 + l.section-index * 2 ^ 40)
