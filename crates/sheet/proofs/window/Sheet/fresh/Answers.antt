use Rattle.std.proofs.Common.{refl}
use Rattle.sheet.proofs.Accepted.{keeps_unrefused}
use Rattle.sheet.specs.Layout.{fresh_sheet, KeepsLayout}
use Rattle.sheet.specs.Refusals.{sheet_refused}
use Rattle.sheet.proofs.window.Sheet.fresh.Goals as goal

-- no row applies to these bytes, by computing
fresh_keeps : KeepsLayout fresh_sheet
unfolding sheet_refused
fresh_keeps = keeps_unrefused fresh_sheet refl

pub invariant_of-result : goal.invariant_of-result
invariant_of-result c = record { lawful = rw c.fresh_bytes.ensures (∣ fresh_keeps ∣₁) }
