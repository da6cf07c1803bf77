use Rattle.std.proofs.Common.{ℕ, take, Option, sym, ap, ◌∙◌, arith}
use Rattle.mesh.specs.Placing.{no_node, with_neighbour, changed_if}
use Rattle.mesh.proofs.Changes.{take_changed, changed_past}
use Rattle.mesh.proofs.growing.give_neighbour.Goals as goal

pub returns-then-beyond-nodes : goal.returns-then-beyond-nodes
returns-then-beyond-nodes c n =
    let edge = c.args.edge.now in
    let nodes = c.args.nodes.now in
    let f = with_neighbour edge.from edge.to c.args.neighbour in
    simp (c.set_neighbour.ensures, c.from-beyond.ensures)
    (take_changed f n c.in-Some.beyond nodes no_node (omega arith)
    ∙ ap (λ (o : Option ℕ). changed_if f o (take n nodes)) (sym c.in-Some.is))

pub returns-else-beyond-nodes : goal.returns-else-beyond-nodes
returns-else-beyond-nodes c n =
    let edge = c.args.edge.now in
    let nodes = c.args.nodes.now in
    let f = with_neighbour edge.from edge.to c.args.neighbour in
    sym
    (ap (λ (o : Option ℕ). changed_if f o (take n nodes)) c.in-Some.is
    ∙ changed_past f n c.in-Some.beyond nodes (omega arith))
