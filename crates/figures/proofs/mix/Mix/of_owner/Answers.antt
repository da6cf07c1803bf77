-- The sum that the iterator gives is that of the three weights.
use Rattle.std.proofs.Common.{◌≡◌, arith, rules}
use Rattle.std.proofs.iter.runs.Sources.{sums}
use Rattle.figures.proofs.Owners.{three_summed}
use Rattle.figures.specs.Weights.{sum}
use Rattle.figures.proofs.mix.Mix.of_owner.Goals as goal

pub sum-total-requires-clause-fits : goal.sum-total-requires-clause-fits
sum-total-requires-clause-fits c =
    let e = three_summed c.owner_weights-weights.result c.owner_weights-weights.ensures.weighed in search (rules, sums)

pub invariant_of-result : goal.invariant_of-result
invariant_of-result c =
    let e = three_summed c.owner_weights-weights.result c.owner_weights-weights.ensures.weighed in
    let summed : c.sum-total.result ≡ sum c.owner_weights-weights.result = search rules in
    record { known = search rules; summed = summed; some = omega arith; most = omega arith }
