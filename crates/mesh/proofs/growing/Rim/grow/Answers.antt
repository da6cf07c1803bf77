use Rattle.std.proofs.Common.{◌≡◌, ℕ, ◌+◌, ◌<◌, [], ◌∷◌, ◌++◌, length, map, get_or, take, None, sym, ap, ◌∙◌, arith}
use Rattle.std.proofs.lemmas.List.{length-take-le, length-map, get_or-map}
use Rattle.mesh.specs.declared.edge.Edge as code
use Rattle.mesh.specs.declared.node.Node.{Node}
use Rattle.mesh.specs.Edges.{no_edge, shown}
use Rattle.mesh.specs.Placing.{Edge, changed, changed_if, with_neighbour, with_son}
use Rattle.mesh.proofs.Grows.{one_more, grown_step}
use Rattle.mesh.proofs.growing.Rim.grow.Goals as goal

-- what is read past the last edge
abbrev none : code.Edge
none = record { father = 0; side = 0; from = 0; to = 0; beyond = None }

pub loop-i-preserved : goal.loop-i-preserved
loop-i-preserved c =
    let used = c.args.self.first in
    let i = c.loop-i.i in
    let edges = c.args.self.edges.now in
    let all = map shown edges in
    let within : i < length edges = omega arith in
    let e = shown (get_or edges i none) in
    let ns = take (used + i) c.loop-i.nodes in
    let further : used + (i + 1) ≡ used + i + 1 = omega arith in
    let size = length-take-le (used + i) c.loop-i.nodes (omega (arith, c.requires)) in
    let born = λ (n : Node).
    changed_if (with_neighbour e.from e.to (used + i)) e.beyond (changed (with_son e.side (used + i)) e.father ns) ++ n ∷ []
    in
    let written = ap (λ (k : ℕ). take k c.add_node.new.nodes) further ∙ c.add_node.ensures ∙ ap born c.over.ensures in
    let here = sym (get_or-map shown edges i none no_edge within) in
    grown_step used c.args.self.master all i ns _ (used + i) (omega (arith, length-map edges shown)) size
    (written ∙ ap (λ (x : Edge). one_more used c.args.self.master all x (used + i) ns) here)
    ∙ c.loop-i.invariant
