use Rattle.std.proofs.Common.{◌<◌, ◌≤◌, List, length, ◌∙◌, subst}
use Rattle.plane.specs.declared.position.Position.{Position}
use Rattle.mesh.specs.Tree.{fresh}
use Rattle.family.proofs.Loads.{crowded_steps, loaded_steps, unloaded_steps}
use Rattle.family.proofs.loading.Draft+M.load.Goals as goal

pub returns-then-masters-gt-CORNERS-clause-steps : goal.returns-then-masters-gt-CORNERS-clause-steps
returns-then-masters-gt-CORNERS-clause-steps g c =
    let l = subst (λ (ms : List Position). 4 < length ms) c.masters.ensures.value c.if-masters-gt-CORNERS.true in
    crowded_steps _ _ _ c.args.sheet.now.lawful l

pub returns-clause-steps : goal.returns-clause-steps
returns-clause-steps g c =
    let few = subst (λ (ms : List Position). length ms ≤ 4) c.masters.ensures.value c.if-masters-gt-CORNERS.false in
    loaded_steps _ _ _ c.args.sheet.now.lawful few _ c.in_default.ensures.placed

pub returns-in-Err : goal.returns-in-Err
returns-in-Err g c =
    let few = subst (λ (ms : List Position). length ms ≤ 4) c.masters.ensures.value c.if-masters-gt-CORNERS.false in
    let took = c.in-Err.ensures in
    let same = took.measures in
    let renewed = c.fresh-self.ensures ∙ (λ i. fresh (g.M.Measure.heights (same i))) in
    let steps = unloaded_steps _ _ _ c.args.sheet.now.lawful few _ _ _ took.placed renewed in
    simp c.from.ensures (record { steps = steps; measures = same; leaves = renewed })
