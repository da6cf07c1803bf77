use Rattle.std.proofs.Common.{length}
use Rattle.mesh.proofs.Grows.{Marking}
use Rattle.mesh.proofs.growing.mark.Given as goal

abbrev pub invariant-loop-i : goal.invariant-loop-i
invariant-loop-i l = Marking l.killer l.doomed (length l.doomed) l.initial.nodes l.nodes l.i
