use Rattle.mesh_laws.proofs.Families.{placing_tree}
use Rattle.mesh_laws.proofs.laws.placing_laws.Goals as goal

pub returns : goal.returns
returns c = placing_tree
