-- What the code reads of the edges that it keeps is what the definition reads of the edges that they show.
use Rattle.std.proofs.Common.{◌≡◌, ℕ, suc, Bool, cond, List, [], ◌∷◌, map, Some, Option, refl, ap}
use Rattle.mesh.specs.declared.edge.Edge.{Edge}
use Rattle.mesh.specs.Edges.{HoleEdge, shown}
use Rattle.mesh.specs.Placing.{first_edge}
use Rattle.mesh.specs.Search.{first_at}

pub first_shown : (test : HoleEdge → Bool) (k : ℕ) (es : List Edge) →
    first_at (λ e. test (shown e)) k es ≡ first_edge test k (map shown es)
first_shown test k [] = refl
first_shown test k (e ∷ es) = ap (λ (o : Option ℕ). cond (test (shown e)) (Some k) o) (first_shown test (suc k) es)
