use Rattle.std.proofs.Common.{arith, eqb-true}
use Rattle.std.proofs.lemmas.Int.{ints}
use Rattle.std.proofs.lemmas.Bool.Decides.{nat_tests}
use Rattle.plane.proofs.triangle.Triangle.owns.Goals as goal

pub returns : goal.returns
returns c = (λ e. omega (arith, ints, eqb-true), λ e. grind (arith, ints, nat_tests))
