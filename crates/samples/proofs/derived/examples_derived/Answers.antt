-- By computing: the definitions are opened, and nothing else is used.
use Rattle.std.proofs.Common.{refl}
use Rattle.plane.specs.Measures.{only_in_plane}
use Rattle.plane.specs.Plane.{turn}
use Rattle.plane.specs.Rings.{K}
use Rattle.mesh.specs.Placing.{placed, tree}
use Rattle.mesh.specs.Tree.{fresh, flat_diagonal}
use Rattle.samples.proofs.derived.examples_derived.Goals as goal

pub returns-clause-hold : goal.returns-clause-hold
unfolding tree placed fresh flat_diagonal turn K only_in_plane
returns-clause-hold c = refl
