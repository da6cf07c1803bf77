use Rattle.std.proofs.Common.{◌≡◌, ◌+◌, map, take, drop}
use Rattle.mesh.specs.Edges.{shown}
use Rattle.mesh.specs.Placing.{grown}
use Rattle.mesh.proofs.growing.Rim.grow.Given as goal

-- what is left makes the rest
abbrev pub invariant-loop-i : goal.invariant-loop-i
invariant-loop-i l =
    grown l.self.first l.self.master (map shown l.self.edges.now) (drop l.i (map shown l.self.edges.now))
    (take (l.self.first + l.i) l.nodes)
    ≡ grown l.self.first l.self.master (map shown l.self.edges.now) (map shown l.self.edges.now)
    (take l.self.first l.initial.nodes)
