use Rattle.family.proofs.Histories.{lived_fresh}
use Rattle.family.proofs.family.Family.fresh.Goals as goal

pub returns-clause-lived : goal.returns-clause-lived
returns-clause-lived g c = lived_fresh (g.met.M.Measure.supported c.args.measure) c.new.ensures.fresh
