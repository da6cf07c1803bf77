use Rattle.std.proofs.Common.{◌≡◌, ℕ, ◌<◌, get_or, Some, subst, arith, rules}
use Rattle.std.proofs.lemmas.List.{get_or-take, length-take}
use Rattle.family.specs.declared.call.Call.TheVariants.{Release}
use Rattle.family.specs.Performing.{Answered}
use Rattle.family.specs.Standing.{deed_of}
use Rattle.family.proofs.Runnings.{Running, running_more, ran_all}
use Rattle.family.proofs.family.Family.run.Goals as goal

pub loop-n-preserved : goal.loop-n-preserved
loop-n-preserved g c =
    let limit = c.min-limit.result in
    let early : c.loop-n.n < limit = omega (arith, length-take limit c.args.calls.now) in
    let call = get_or c.args.calls.now c.loop-n.n Release in
    let here = get_or-take limit c.args.calls.now c.loop-n.n Release early in
    let performed : Answered g.M.Measure.heights c.loop-n.family (deed_of call) (Some c.in-Some.answer) c.perform-next.result.0 = search rules in
    let law = g.met.M.Measure.supported _ in
    running_more _ _ _ _ c.loop-n.invariant law c.in-Some.answer _ (omega (arith, c.min-limit.ensures)) (omega (arith, c.min-limit.ensures)) performed

pub returns : goal.returns
returns g c =
    let end : c.loop-n.n ≡ c.min-limit.result = omega (arith, c.min-limit.ensures, length-take c.min-limit.result c.args.calls.now) in
    let run = λ (n : ℕ). Running g.M.Measure.heights c.args.self c.args.calls.now c.args.answers.now c.loop-n.answers c.loop-n.family n in
    ran_all _ _ _ _ (subst run end c.loop-n.invariant) (omega (arith, c.min-limit.ensures)) (omega (arith, c.min-limit.ensures))
    (λ k l. absurd (omega (arith, c.min-limit.ensures)))
