use lib.Signed.{le_z}
use Rattle.plane.proofs.Fitting.{known}
use Rattle.mesh.specs.Tree.{flat_diagonal}
use Rattle.mesh.proofs.beginning.is_flat.Goals as goal

pub returns : goal.returns
unfolding flat_diagonal
returns g c = λ i. le_z (known c.together.type_inv c.together.ensures i) (known c.together-2.type_inv c.together-2.ensures i)
