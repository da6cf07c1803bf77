-- The tree of a family grows by its last master; what is known of that master.
use Rattle.std.proofs.Common.{◌≡◌, ℕ, zero, suc, ◌<◌, ◌≢◌, List, [], ◌∷◌, ◌++◌, length, get_or, sym, refl, ap, ◌∙◌, append_assoc, arith}
use Rattle.std.proofs.lemmas.List.{append-nil, length_push, get_or_push, get_or_append_left}
use Rattle.plane.specs.declared.position.Position.{Position}
use Rattle.plane.specs.Measures.{Heights}
use Rattle.plane.specs.Plane.{Within}
use Rattle.mesh.specs.Placing.{stand, placed, placed_all, tree}
use Rattle.mesh.specs.Tree.{Mesh, corner, corners, fresh}
use Rattle.mesh_laws.specs.Laws.{Placeable, Free}

-- Induction over a list by its last element.
pub by_last : {X : Type 0} (P : List X → Type 0) → P [] → ((xs : List X) (x : X) → P xs → P (xs ++ x ∷ [])) →
    (xs : List X) → P xs
by_last {X} P none more xs = onward [] xs none
  where
    onward : (front rest : List X) → P front → P (front ++ rest)
    onward front [] known = rw append-nil known
    onward front (x ∷ rest) known = rw append_assoc at (onward (front ++ x ∷ []) rest (more front x known))

pub tree_more : (h : Heights) (ps : List Position) (p : Position) → tree h (ps ++ p ∷ []) ≡ placed h (tree h ps) p
unfolding tree
tree_more h ps p = later (fresh h) ps
  where
    later : (m : Mesh) (ps : List Position) → placed_all h m (ps ++ p ∷ []) ≡ placed h (placed_all h m ps) p
    later m [] = refl
    later m (q ∷ ps) = later (placed h m q) ps

pub tree_masters : (h : Heights) (ps : List Position) → (tree h ps).masters ≡ corners ++ ps
unfolding tree fresh placed
tree_masters h ps = later (fresh h) ps
  where
    later : (m : Mesh) (ps : List Position) → (placed_all h m ps).masters ≡ m.masters ++ ps
    later m [] = sym (append-nil m.masters)
    later m (p ∷ ps) = later (placed h m p) ps ∙ append_assoc m.masters (p ∷ []) ps

-- The last of several masters to place, and those before it.
module _ (ps : List Position) (p : Position) (g : Placeable (ps ++ p ∷ [])) where
  abbrev early : (k : ℕ) → k < length ps → get_or (ps ++ p ∷ []) k (corner 0 0) ≡ get_or ps k (corner 0 0)
  early = get_or_append_left ps (p ∷ []) (corner 0 0)

  abbrev last : get_or (ps ++ p ∷ []) (length ps) (corner 0 0) ≡ p
  last = get_or_push ps p (corner 0 0) (length ps) refl

  pub placeable_front : Placeable ps
  placeable_front = record {
    inside = λ k l. rw (early k l) at (g.inside k (rw length_push (omega arith)));
    apart = λ j k i l e.
        g.apart j k i (rw length_push (omega arith)) (early j (omega arith) ∙ e ∙ sym (early k l));
  }

  pub last_within : Within p
  last_within = rw last at (g.inside (length ps) (rw length_push (omega arith)))

  -- A corner is not inside the plane.
  not_before : (k : ℕ) → k < length (corners ++ ps) → stand (corners ++ ps) k ≢ p
  not_before zero l e = omega (arith, last_within, ap (λ q. q.u) e)
  not_before (suc zero) l e = omega (arith, last_within, ap (λ q. q.u) e)
  not_before (suc (suc zero)) l e = omega (arith, last_within, ap (λ q. q.u) e)
  not_before (suc (suc (suc zero))) l e = omega (arith, last_within, ap (λ q. q.u) e)
  not_before (suc (suc (suc (suc k)))) l e =
      let m : k < length ps = omega arith in
      g.apart k (length ps) m (rw length_push (omega arith)) (early k m ∙ e ∙ sym last)

  pub last_free : (h : Heights) → Free (tree h ps) p
  last_free h = record { free = rw (tree_masters h ps) not_before }
