-- Coordinates stay below 2^16, so rectangles stay below 2^32 and their difference below 2^33.
use Rattle.std.proofs.Common.{◌-ℤ◌, ◌∙◌, lit<, rules}
use Rattle.plane.specs.Plane.{turn}
use Rattle.plane.proofs.Fitting.{known, sized, small_sum}
use Rattle.plane.proofs.orientation.turn.Goals as goal

pub difference-requires : goal.difference-requires
difference-requires c =
    small_sum
    (sized c.rectangle-rising.type_inv
    (c.rectangle-rising.ensures.bound 65535 (search rules) (search rules) (search rules) (search rules)))
    (sized c.rectangle-falling.type_inv
    (c.rectangle-falling.ensures.bound 65535 (search rules) (search rules) (search rules) (search rules)))
    (lit< tt)

pub returns-clause-value : goal.returns-clause-value
unfolding turn
returns-clause-value c =
    known c.difference.type_inv
    (c.difference.ensures.value
    ∙ (λ i.
    known c.rectangle-rising.type_inv c.rectangle-rising.ensures.value i
    -ℤ known c.rectangle-falling.type_inv c.rectangle-falling.ensures.value i))
