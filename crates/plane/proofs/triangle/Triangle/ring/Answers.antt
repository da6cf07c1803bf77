-- The law of the measure gives what its rings hold.
use Rattle.plane.specs.Strict.{holds_around}
use Rattle.plane.proofs.triangle.Triangle.ring.Goals as goal

pub returns-then-all_in_plane-clause-around : goal.returns-then-all_in_plane-clause-around
returns-then-all_in_plane-clause-around g c = holds_around (g.met.M.Measure.supported c.args.measure.now)

pub returns-else-all_in_plane-clause-around : goal.returns-else-all_in_plane-clause-around
returns-else-all_in_plane-clause-around g c = holds_around (g.met.M.Measure.supported c.args.measure.now)
