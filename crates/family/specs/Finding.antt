-- Finding the owner of a position among the nodes.
use Rattle.std.specs.Prelude.{◌≡◌, ℕ, ◌<◌, true, List, length, slice_index_or}
use Rattle.plane.specs.declared.position.Position.{Position}
use Rattle.figures.specs.Mixes.{Owner as Mixable, MixAt}
use Rattle.figures.specs.declared.mix.Mix.{Mix}
use Rattle.mesh.specs.declared.node.Node.{Node}
use Rattle.mesh.specs.Owner.{node}
use Rattle.mesh.specs.Placing.{stand, start, live}
use Rattle.mesh.specs.Tree.{Mesh}

-- A node answers q: it is live, its masters are of the family and in the plane, and its triangle owns q.
pub record Answers (ms : List Position) (n : Node) (q : Position) : Type 0 where
  pub lives : live n ≡ true
  pub mixable : Mixable q (stand ms (start n 0)) (stand ms (start n 1)) (stand ms (start n 2)) n.masters (length ms)

-- The mix is that of the node at q.
abbrev pub MixOf : List Position → Node → Position → Mix → Type 0
MixOf ms n q x = MixAt q (stand ms (start n 0)) (stand ms (start n 1)) (stand ms (start n 2)) n.masters (length ms) x

-- Node i of the tree answers q with the mix.
pub record AnsweredBy (m : Mesh) (q : Position) (x : Mix) : Type 0 where
  pub number : ℕ
  pub used : number < length m.nodes
  pub answers : Answers m.masters (node m number) q
  pub mixes : MixOf m.masters (node m number) q x

-- No node of the tree answers q.
abbrev pub Unanswered : Mesh → Position → Type 0
Unanswered m q = (i : ℕ) → i < length m.nodes → Answers m.masters (node m i) q → ⊥

-- The master k has the whole weight of the mix, so each figure that it blends is that master's own.
pub record ShowsOnly (x : Mix) (k : ℕ) : Type 0 where
  pub side : ℕ
  pub side_in : side < 3
  pub is_master : slice_index_or x.masters side 0 ≡ k
  pub whole : slice_index_or x.weights side 0 ≡ x.total
