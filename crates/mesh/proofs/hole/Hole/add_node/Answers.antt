use Rattle.std.proofs.Common.{◌+◌, sym, subst, ◌∙◌}
use Rattle.mesh.specs.declared.hole.Hole.{Hole}
use Rattle.mesh.proofs.Holes.{Passing, with_side, without_side}
use Rattle.mesh.proofs.hole.Hole.add_node.Goals as goal
use Rattle.mesh.proofs.hole.Hole.add_node.Goals.{then-remains, else-remains}

pub loop-side-preserved : goal.loop-side-preserved
loop-side-preserved c =
    let doomed = c.args.doomed.now in
    let before = c.args.self.now in
    let now = c.loop-side.self in
    let n = c.args.node.now in
    let i = c.args.number in
    let k = c.loop-side.side in
    let after = λ (s : Hole). Passing before s doomed i n (k + 1) in
    elim c.if-remains.branch [
      | then-remains w ↦
          subst after (sym w.self-is)
          (with_side before now doomed i n k c.loop-side.invariant _ _ (sym c.remains.ensures ∙ w.if-remains.true) w.edge.ensures
          w.add.ensures.gathered w.add.ensures.more)
      | else-remains w ↦
          subst after (sym w.self-is) (without_side before now doomed i n k c.loop-side.invariant (sym c.remains.ensures ∙ w.if-remains.false))
    ]
