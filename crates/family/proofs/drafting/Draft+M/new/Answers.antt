use Rattle.family.proofs.Making.{made_fresh}
use Rattle.family.proofs.drafting.Draft+M.new.Goals as goal

pub returns-clause-fresh : goal.returns-clause-fresh
returns-clause-fresh g c = made_fresh _ _ c.fresh-tables.ensures
