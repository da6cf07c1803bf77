use Rattle.std.proofs.Common.{◌≡◌, ℕ, ◌<◌, ◌≤◌, false, length, get_or}
use Rattle.mesh.specs.Placing.{Housed, kills, no_node}
use Rattle.mesh.proofs.killing.Newcomer.doomed.Given as goal

-- the places passed are written
abbrev pub invariant-loop-i : goal.invariant-loop-i
invariant-loop-i g l =
    (length l.killed ≡ 1024)
    × ((k : ℕ) → l.i ≤ k → get_or l.killed k false ≡ false)
    × (Housed l.self.masters.now → (k : ℕ) → k < l.i
    → get_or l.killed k false
    ≡ kills (g.M.Measure.heights l.self.measure.now) l.self.masters.now l.self.p (get_or l.nodes k no_node))
