use Rattle.family.proofs.Runnings.{extended}
use Rattle.family.proofs.family.Family.perform.Goals as goal

pub returns-in-Open-clause-extends : goal.returns-in-Open-clause-extends
returns-in-Open-clause-extends g c =
    let law = g.met.M.Measure.supported c.in-Open.draft.measure in
    extended _ _ _ _ _ c.perform.result.1 c.in-Open.is law c.perform.ensures

pub returns-in-Shut-clause-extends : goal.returns-in-Shut-clause-extends
returns-in-Shut-clause-extends g c =
    let law = g.met.M.Measure.supported c.in-Shut.face.measure in
    extended _ _ _ _ _ c.perform-in-Shut.result.1 c.in-Shut.is law c.perform-in-Shut.ensures
