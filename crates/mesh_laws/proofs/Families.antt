-- The tree of every family is sound, by induction over its masters, and so it keeps the laws.
use Rattle.std.proofs.Common.{List}
use Rattle.plane.specs.declared.position.Position.{Position}
use Rattle.plane.specs.Measures.{Heights, Supported}
use Rattle.plane.specs.Plane.{Within}
use Rattle.mesh.specs.Placing.{placed, tree}
use Rattle.mesh.specs.Tree.{Mesh}
use Rattle.mesh_laws.specs.Laws.{Placeable, Laws, PlacingLaws}
use Rattle.mesh_laws.specs.Places.{table}
use Rattle.mesh_laws.specs.Sound.{Sound}
use Rattle.mesh_laws.specs.Steps.{Step}
use Rattle.mesh_laws.proofs.FreshSound.{sound_fresh}
use Rattle.mesh_laws.proofs.KeptSound.{sound_step}
use Rattle.mesh_laws.proofs.Lawfulness.{lawful}
use Rattle.mesh_laws.proofs.Opening.{opening}
use Rattle.mesh_laws.proofs.Owners.{owner}
use Rattle.mesh_laws.proofs.Rims.{starts_once}
use Rattle.mesh_laws.proofs.Steps.{steps}
use Rattle.mesh_laws.proofs.Trees.{by_last, tree_more, placeable_front, last_within, last_free}

-- Placing p into a sound tree, entry by entry.
pub placing : (h : Heights) → Supported h → (m : Mesh) → Sound h m → (p : Position) → Within p → Step h m p (placed h m p)
unfolding table
placing h law m s p w = steps h m p s.formed s.twinned (starts_once s p law w)

pub sound_tree : (h : Heights) → Supported h → (ps : List Position) → Placeable ps → Sound h (tree h ps)
unfolding tree
sound_tree h law =
    by_last (λ ps. Placeable ps → Sound h (tree h ps)) (λ g. sound_fresh h)
    (λ ps p known g.
    let s = known (placeable_front ps p g) in
    let w = last_within ps p g in
    rw tree_more (sound_step law s w (last_free ps p g h) (placing h law (tree h ps) s p w)))

pub placing_tree : PlacingLaws
placing_tree h law ps g p w = placing h law (tree h ps) (sound_tree h law ps g) p w

pub laws : Laws
laws h law ps g =
    let s = sound_tree h law ps g in
    lawful h law (tree h ps) s (λ p w f. opening law s (λ q i. owner s i) w f (placing h law (tree h ps) s p w))
