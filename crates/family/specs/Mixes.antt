-- The mix of a node at a position, as numbers.
use Rattle.std.specs.Prelude.{ℕ, List, map, length, ℤ, pos}
use Rattle.plane.specs.declared.position.Position.{Position}
use Rattle.figures.specs.declared.mix.Mix.{Mix}
use Rattle.mesh.specs.Owner.{node}
use Rattle.mesh.specs.Tree.{Mesh}
use Rattle.mesh_laws.specs.Laws.{weights_at, total_at}

-- Three masters, their weights, the total of these, and how many masters the family has.
pub record Mixture : Type 0 where
  pub masters : List ℕ
  pub weights : List ℤ
  pub total : ℤ
  pub count : ℕ

-- The mix at q of the masters of node i, in the order of the node.
abbrev pub mix_at : Mesh → ℕ → Position → Mixture
mix_at m i q = record {
  masters = (node m i).masters;
  weights = weights_at m i q;
  total = total_at m i;
  count = length m.masters;
}

-- What a mix of the code says.
abbrev pub mixture : Mix → Mixture
mixture x = record { masters = x.masters; weights = map pos x.weights; total = pos x.total; count = x.count }
