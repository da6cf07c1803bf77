use Rattle.std.proofs.Common.{ℕ, List, ◌++◌, length, sym, subst, ◌∙◌}
use Rattle.std.proofs.lemmas.List.{length_push}
use Rattle.mesh.specs.Edges.{node_edges}
use Rattle.mesh.specs.Gathering.{Gathered}
use Rattle.mesh.specs.Placing.{Edge}
use Rattle.mesh.proofs.Holes.{Underway, with_killed, without, this_pair}
use Rattle.mesh.proofs.hole.Hole.of.Goals as goal

pub loop-i-preserved-then-killed : goal.loop-i-preserved-then-killed
loop-i-preserved-then-killed c =
    let nodes = c.args.nodes.now in
    let doomed = c.args.doomed.now in
    let at =
    this_pair nodes doomed c.requires.1 c.into_iter-i-iterator.result c.loop-i.i-iterator c.next.new.self c.loop-i.yielded (cc) (cc) (cc) c.loop-i.yielded_by c.next.result
    (c.in-Some.i, (c.in-Some.node, c.in-Some.killed)) c.in-Some.is c.next.ensures.steps in
    let adds =
    λ (es : List Edge) (h : Gathered c.loop-i.hole es).
    subst (λ (more : List Edge). Gathered c.add_node.new.self (es ++ more)) (λ i. node_edges doomed (at.0 i) (at.2 i))
    (c.add_node.ensures.gathered es h) in
    subst (λ (n : ℕ). Underway c.add_node.new.self doomed nodes n) (sym (length_push c.loop-i.yielded _))
    (with_killed doomed nodes (length c.loop-i.yielded) (sym at.3 ∙ c.if-killed.true) at.1 adds c.add_node.ensures.most c.loop-i.invariant)

pub loop-i-preserved : goal.loop-i-preserved
loop-i-preserved c =
    let nodes = c.args.nodes.now in
    let doomed = c.args.doomed.now in
    let at =
    this_pair nodes doomed c.requires.1 c.into_iter-i-iterator.result c.loop-i.i-iterator c.next.new.self c.loop-i.yielded (cc) (cc) (cc) c.loop-i.yielded_by c.next.result
    (c.in-Some.i, (c.in-Some.node, c.in-Some.killed)) c.in-Some.is c.next.ensures.steps in
    subst (λ (n : ℕ). Underway c.loop-i.hole doomed nodes n) (sym (length_push c.loop-i.yielded _))
    (without doomed nodes (length c.loop-i.yielded) (sym at.3 ∙ c.if-killed.false) at.1 c.loop-i.invariant)
