use Rattle.std.proofs.Common.{◌∙◌, w16, SFits, rules}
use Rattle.std.proofs.lemmas.Int.{to_z-of_z}
use Rattle.samples.proofs.bearing.BearingFigure.unpack.Goals as goal

-- the first number of a pair
pub returns : goal.returns
returns c =
    let fits : SFits w16 c.unpack-pair.result.along = search rules in
    λ p. to_z-of_z w16 _ fits ∙ c.unpack-pair.ensures 0
