use Rattle.std.proofs.Common.{refl}
use Rattle.mesh_laws.proofs.Families.{laws}
use Rattle.mesh_laws.proofs.Witness.{placeable_sample}
use Rattle.mesh_laws.proofs.laws.family_laws.Goals as goal

pub returns : goal.returns
returns c = record { count = refl; placeable = placeable_sample; hold = laws }
