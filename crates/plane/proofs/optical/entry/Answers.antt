-- `entry` answers the rule's number: the search finds the table in the code, and the test of it computes to true.
use Rattle.std.proofs.Common.{◌≤◌, ap, ◌∙◌, arith}
use Rattle.plane.specs.Optical.{bend, optic}
use Rattle.plane.specs.OpticTable.{table_is}
use Rattle.plane.proofs.optical.entry.Goals as goal

pub returns : goal.returns
unfolding bend
returns c =
    let within : c.from.result ≤ 4096 = omega arith in
    (search table_is) ∙ ap optic c.from.ensures
