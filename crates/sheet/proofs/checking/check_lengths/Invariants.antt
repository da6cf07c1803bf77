use Rattle.std.proofs.Common.{◌≡◌, map, drop}
use Rattle.sheet.specs.Layout.{sections}
use Rattle.plane.specs.Refusal.{first}
use Rattle.sheet.specs.Refusals.{length_row}
use Rattle.sheet.proofs.checking.check_lengths.Given as goal

-- the rows of the sections passed do not apply
abbrev pub invariant-loop-section : goal.invariant-loop-section
invariant-loop-section l =
    first (map (length_row l.header.bytes.now) sections) ≡ first (map (length_row l.header.bytes.now) (drop l.section-index sections))
