use Rattle.family.proofs.Making.{placing_steps}
use Rattle.family.proofs.drafting.Draft+M.place.Goals as goal

pub returns-clause-steps : goal.returns-clause-steps
returns-clause-steps g c =
    let placed = c.place.ensures in
    placing_steps _ _ _ _ c.place.result placed.refuses placed.places placed.keeps
