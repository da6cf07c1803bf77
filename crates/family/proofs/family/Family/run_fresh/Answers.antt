use Rattle.family.proofs.Runnings.{ran_fresh}
use Rattle.family.proofs.family.Family.run_fresh.Goals as goal

pub returns-clause-lived : goal.returns-clause-lived
returns-clause-lived g c =
    let fresh = c.fresh.ensures in
    ran_fresh _ _ _ _ _ _ _ _ fresh.measures fresh.lived c.run.ensures
