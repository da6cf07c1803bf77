use Rattle.mesh.proofs.Holes.{Passing}
use Rattle.mesh.proofs.hole.Hole.add_node.Given as goal

abbrev pub invariant-loop-side : goal.invariant-loop-side
invariant-loop-side l = Passing l.initial.self l.self l.doomed l.number l.node l.side
