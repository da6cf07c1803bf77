use borrow.Author.Tests.{clash}
use Rattle.std.proofs.Common.{refl}
use Rattle.family.proofs.Asking.{outside_steps, found_steps, found_own}
use Rattle.family.proofs.facing.Face+M.question.Goals as goal

pub returns-then-not-is_inside-clause-steps : goal.returns-then-not-is_inside-clause-steps
returns-then-not-is_inside-clause-steps g c =
    let law = g.met.M.Measure.supported c.args.self.now.measure in
    outside_steps _ law _ _ (λ w. clash (c.if-not-is_inside.ensures.1 w))

pub returns : goal.returns
returns g c =
    let law = g.met.M.Measure.supported c.args.self.now.measure in
    let within = c.if-not-is_inside.ensures.0 refl in
    let found = c.find_mix.ensures in
    simp c.ok_or.ensures.value
    (record { steps = found_steps _ law _ _ within _ found; own = found_own _ law _ _ within _ found })
