-- A sound tree is lawful, if there is always a hole.
use Rattle.std.proofs.Common.{refl}
use Rattle.plane.specs.declared.position.Position.{Position}
use Rattle.plane.specs.Plane.{Within}
use Rattle.plane.specs.Measures.{Heights, Supported}
use Rattle.mesh.specs.Placing.{placed}
use Rattle.mesh.specs.Tree.{Mesh}
use Rattle.mesh_laws.specs.Laws.{Lawful, Free, Opens}
use Rattle.mesh_laws.specs.Sound.{Sound}
use Rattle.mesh_laws.proofs.AreaSum.{area_sum}
use Rattle.mesh_laws.proofs.LeastSpread.{least_spread}
use Rattle.mesh_laws.proofs.Masters.{holds_inside}
use Rattle.mesh_laws.proofs.Neighbours.{right_entry}
use Rattle.mesh_laws.proofs.Owners.{owner}
use Rattle.mesh_laws.proofs.OwnPlace.{own_place}
use Rattle.mesh_laws.proofs.Walks.{reached}

pub lawful : (h : Heights) → Supported h → (m : Mesh) → Sound h m →
    ((p : Position) → Within p → Free m p → Opens h m p (placed h m p)) → Lawful h m
lawful h law m s opens = record {
  owned = λ q w. owner s w;
  least = λ q i w o x y z lx ly lz r.
      least_spread s o.owner.is_live (x, lx, refl) (y, ly, refl) (z, lz, refl) r;
  empty = s.empty;
  walk = λ q iq i o e. reached s iq i o.used (holds_inside h m q i e);
  own_place = λ k l w i o. own_place law s l o.owner;
  neighbours = λ i o e b. right_entry s o b;
  opens = opens;
  areas = area_sum s;
  apart = s.apart;
}
