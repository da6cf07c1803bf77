-- An accepted sheet has a header.
use Rattle.sheet.proofs.Accepted.{kept}
use Rattle.sheet.proofs.window.Sheet.header.Goals as goal

pub invariant_of-result : goal.invariant_of-result
invariant_of-result c = record { whole = (kept _ c.args.self.now.lawful).header }
