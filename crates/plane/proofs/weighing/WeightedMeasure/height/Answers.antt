-- The height is the form where the test of the plane passes, and 0 where it fails.
use Rattle.std.proofs.Common.{sym, ◌∙◌, rules}
use Rattle.plane.proofs.Fitting.{known}
use Rattle.plane.specs.InPlane.{height_inside, height_outside}
use Rattle.plane.specs.WeightedHeights.{formed}
use Rattle.plane.proofs.weighing.WeightedMeasure.height.Goals as goal

pub returns-then-in_plane : goal.returns-then-in_plane
returns-then-in_plane c =
    let w = c.args.self.now in
    known c.form.type_inv c.form.ensures ∙ sym (height_inside (formed w.a w.b w.c) c.args.p (search rules))

pub returns-else-in_plane : goal.returns-else-in_plane
returns-else-in_plane c =
    let w = c.args.self.now in
    sym (height_outside (formed w.a w.b w.c) c.args.p (search rules))
