use Rattle.std.proofs.Common.{rules}
use Rattle.plane.specs.Plane.{crossing}
use Rattle.plane.proofs.ownership.crossing.Goals as goal

pub returns-then-rises-clause-value : goal.returns-then-rises-clause-value
unfolding crossing
returns-then-rises-clause-value c = search rules

pub returns-then-falls-clause-value : goal.returns-then-falls-clause-value
unfolding crossing
returns-then-falls-clause-value c = search rules

pub returns-else-falls-clause-value : goal.returns-else-falls-clause-value
unfolding crossing
returns-else-falls-clause-value c = search rules
