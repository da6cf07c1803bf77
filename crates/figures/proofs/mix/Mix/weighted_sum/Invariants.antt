-- The sum of the products so far.
use Rattle.std.proofs.Common.{get_or, pos, ◌*ℤ◌}
use Rattle.figures.proofs.Partial.{Summed}
use Rattle.figures.proofs.mix.Mix.weighted_sum.Given as goal

abbrev pub invariant-loop-i : goal.invariant-loop-i
invariant-loop-i l =
    Summed (λ i. pos (get_or l.self.weights i 0) *ℤ get_or l.fn.numbers i (pos 0)) l.i l.sum
