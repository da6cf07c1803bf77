use Rattle.std.proofs.Common.{◌∙◌, arith, rules}
use Rattle.sheet.proofs.Rows.{offset_passed}
use Rattle.sheet.proofs.checking.check_offsets.Goals as goal

pub loop-section-preserved : goal.loop-section-preserved
loop-section-preserved c = (
  c.loop-section.invariant.0 ∙ offset_passed _ _ _ c.loop-section.section-index (omega arith) (search rules) (search rules),
  omega arith,
)
