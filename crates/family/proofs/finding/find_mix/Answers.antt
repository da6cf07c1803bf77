use borrow.Author.Tests.{tests}
use denote.Ref.{Bor}
use Rattle.std.proofs.Common.{◌≡◌, List, rules, ◌∙◌, subst}
use Rattle.std.specs.Iterator.Runs.{ItemsMapTo}
use Rattle.mesh.specs.declared.node.Node.{Node}
use Rattle.mesh.specs.Lists.{in_use}
use Rattle.family.proofs.Findings.{found}
use Rattle.family.proofs.finding.find_mix.Goals as goal

pub returns : goal.returns
returns c =
    let run = c.find_map.ensures.runs in
    let all : run.0.from.rest.now ≡ (in_use c.args.tables.now).nodes = (λ i. (run.1 i).rest.now) ∙ c.iter.ensures.rest ∙ c.nodes.ensures.value in
    let items = subst (λ (ns : List Node). ItemsMapTo run.0 (λ (y : Bor Node). y.now) ns) all (c.iter.ensures.runs run.0 run.0.seen) in
    found run.0 _ _ (in_use c.args.tables.now) c.args.q items (λ a r f k. search rules) (λ y o k. search (rules, tests)) c.find_map.result run.2
