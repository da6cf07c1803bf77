use Rattle.std.proofs.Common.{◌+◌, List, length, set, sym, ap, ◌∙◌, subst, arith}
use Rattle.mesh.specs.declared.node.Node.{Node}
use Rattle.mesh.proofs.Grows.{Marking, mark_killed, mark_spared}
use Rattle.mesh.proofs.growing.mark.Goals as goal
use Rattle.mesh.proofs.growing.mark.Goals.{then-killed, else-killed}

pub loop-i-preserved : goal.loop-i-preserved
loop-i-preserved c =
    let p = c.args.killer in
    let doomed = c.args.doomed.now in
    let before = c.args.nodes.now in
    let ns = c.loop-i.nodes in
    let i = c.loop-i.i in
    let now : List Node → Type 0 = λ ms. Marking p doomed (length doomed) before ms (i + 1) in
    elim c.if-killed.branch [
      | then-killed w ↦
          let written = w.nodes-is ∙ ap (λ (n : Node). set ns i n) w.kill.ensures in
          subst now (sym written)
          (mark_killed p doomed (length doomed) before ns i (omega arith) (omega arith) w.if-killed.true c.loop-i.invariant)
      | else-killed w ↦
          subst now (sym w.nodes-is)
          (mark_spared p doomed (length doomed) before ns i (omega arith) (omega arith) w.if-killed.false c.loop-i.invariant)
    ]
