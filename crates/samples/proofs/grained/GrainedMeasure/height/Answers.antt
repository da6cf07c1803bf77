use Rattle.std.proofs.Common.{arith, rules}
use Rattle.std.proofs.lemmas.Int.{ints}
use Rattle.plane.specs.InPlane.{height_inside, height_outside}
use Rattle.samples.specs.Grained.{grained}
use Rattle.samples.proofs.grained.GrainedMeasure.height.Goals as goal

pub returns-then-in_plane : goal.returns-then-in_plane
returns-then-in_plane c = omega (arith, ints, height_inside grained c.args.p (search rules))

pub returns-else-in_plane : goal.returns-else-in_plane
returns-else-in_plane c = omega (arith, ints, height_outside grained c.args.p (search rules))
