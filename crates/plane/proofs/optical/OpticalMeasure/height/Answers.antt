-- The height is the sum of two entries where the test of the plane passes, and 0 where it fails.
use Rattle.std.proofs.Common.{arith, rules}
use Rattle.std.proofs.lemmas.Int.{ints}
use Rattle.plane.specs.InPlane.{height_inside, height_outside}
use Rattle.plane.specs.OpticHeights.{sums}
use Rattle.plane.proofs.optical.OpticalMeasure.height.Goals as goal

pub returns-then-in_plane : goal.returns-then-in_plane
returns-then-in_plane c = omega (arith, ints, height_inside sums c.args.p (search rules))

pub returns-else-in_plane : goal.returns-else-in_plane
returns-else-in_plane c = omega (arith, ints, height_outside sums c.args.p (search rules))
