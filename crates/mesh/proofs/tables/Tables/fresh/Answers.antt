use Rattle.std.proofs.Common.{◌≡◌, Bool, true, false, List, [], ◌∷◌, get_or, refl, sym, subst}
use Rattle.mesh.specs.declared.node.Node.{Node}
use Rattle.mesh.specs.Tree.{Mesh, corners, first_nodes, flat_diagonal, fresh}
use Rattle.mesh.proofs.tables.Tables.fresh.Goals as goal

with_corners : (ns ms : List Node) → ns ≡ ms
    → ◌≡◌ {A = Mesh} (record { masters = corners; nodes = ns }) (record { masters = corners; nodes = ms })
with_corners ns ms e = λ i. record { masters = corners; nodes = e i }

-- The first nodes are two.
two : (flat : Bool) (x y : Node) → get_or (first_nodes flat) 0 x ∷ get_or (first_nodes flat) 1 y ∷ [] ≡ first_nodes flat
two true x y = refl
two false x y = refl

pub returns : goal.returns
unfolding fresh
returns g c =
    let flat = flat_diagonal (g.M.Measure.heights c.args.measure.now) in
    with_corners _ _
    (subst (λ (ns : List Node). get_or ns 0 _ ∷ get_or ns 1 _ ∷ [] ≡ first_nodes flat) (sym c.first_pair-pair.ensures) (two flat _ _))
