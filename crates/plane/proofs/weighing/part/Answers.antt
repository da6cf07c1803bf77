-- Two coordinates of the plane have a product of at most 2^24.
use Rattle.std.proofs.Common.{◌≤◌, mul-le-mul, arith}
use Rattle.std.proofs.lemmas.Int.{ints}
use Rattle.plane.proofs.Fitting.{sized}
use Rattle.plane.proofs.weighing.part.Goals as goal

pub returns-clause-bound : goal.returns-clause-bound
returns-clause-bound c =
    let x : c.from.result ≤ 4096 = omega arith in
    let y : c.from-2.result ≤ 4096 = omega arith in
    let most = mul-le-mul x y in
    sized c.product.type_inv
    (c.product.ensures.bound 64 16777216 (sized c.ranges.factor.sfits c.requires.factor)
    (record { size = omega (arith, ints) }))
