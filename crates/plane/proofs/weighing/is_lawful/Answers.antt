-- The four tests are the rule's, in its order.
use Rattle.std.proofs.Common.{rules}
use Rattle.plane.specs.Weighted.{keeps_rule}
use Rattle.plane.proofs.weighing.is_lawful.Goals as goal
use Rattle.plane.proofs.weighing.is_lawful.Goals.{then-contains, else-contains, then-contains-2, else-contains-2}

pub returns-then-contains-3 : goal.returns-then-contains-3
unfolding keeps_rule
returns-then-contains-3 c = search rules

pub returns-else-contains-3 : goal.returns-else-contains-3
unfolding keeps_rule
returns-else-contains-3 c =
    elim c.if-contains.branch [
      | then-contains w ↦
          elim c.if-contains-2.branch [
            | then-contains-2 v ↦ search rules
            | else-contains-2 v ↦ search rules
          ]
      | else-contains w ↦
          elim c.if-contains-2.branch [
            | then-contains-2 v ↦ search rules
            | else-contains-2 v ↦ search rules
          ]
    ]
