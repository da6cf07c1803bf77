use Rattle.family.proofs.Runnings.{Running}
use Rattle.family.proofs.family.Family.run.Given as goal

abbrev pub invariant-loop-n : goal.invariant-loop-n
invariant-loop-n g l = Running g.M.Measure.heights l.initial.family l.calls l.initial.answers l.answers l.family l.n
