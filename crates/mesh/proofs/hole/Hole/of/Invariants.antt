use Rattle.std.proofs.Common.{length}
use Rattle.mesh.proofs.Holes.{Underway}
use Rattle.mesh.proofs.hole.Hole.of.Given as goal

abbrev pub invariant-loop-i : goal.invariant-loop-i
invariant-loop-i l = Underway l.hole l.doomed l.nodes (length l.yielded)
