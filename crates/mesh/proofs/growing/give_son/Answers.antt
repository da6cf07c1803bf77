use Rattle.std.proofs.Common.{sym, arith}
use Rattle.mesh.specs.Placing.{no_node, with_son}
use Rattle.mesh.proofs.Changes.{take_changed, changed_past}
use Rattle.mesh.proofs.growing.give_son.Goals as goal

pub returns-then-father-nodes : goal.returns-then-father-nodes
returns-then-father-nodes c n =
    let edge = c.args.edge.now in
    simp (c.add_son.ensures, c.from-father.ensures)
    (take_changed (with_son edge.side c.args.son) n edge.father c.args.nodes.now no_node (omega arith))

pub returns-else-father-nodes : goal.returns-else-father-nodes
returns-else-father-nodes c n =
    let edge = c.args.edge.now in
    sym (changed_past (with_son edge.side c.args.son) n edge.father c.args.nodes.now (omega arith))
