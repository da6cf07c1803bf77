-- Placing keeps a tree sound.
use Rattle.std.proofs.Common.{◌≡◌, ℕ, zero, suc, ◌+◌, ◌-◌, ◌*◌, ◌/◌, ◌%◌, ◌<◌, ◌≤◌, true, false, ◌≢◌, ◌⊎◌, [], ◌∷◌, ◌++◌, length, sym, refl, ap, ◌∙◌, inl, inr, append_assoc, add-zero, arith}
use Rattle.std.proofs.lemmas.Bool.{cases_lt, both_ways, false≢true}
use Rattle.plane.specs.declared.position.Position.{Position}
use Rattle.plane.specs.Plane.{InPlane, Within, Left}
use Rattle.plane.specs.Measures.{Heights, Supported}
use Rattle.plane.specs.Holes.{also, Live, Border}
use Rattle.plane.specs.LiveTriangles.{live_stays}
use Rattle.plane.proofs.Holes.{rim_live}
use Rattle.algebra.specs.Tables.{Edge, OnLive, Twinned}
use Rattle.algebra.specs.Placing.{OnSpared}
use Rattle.algebra.proofs.Passing.{among}
use Rattle.algebra.proofs.Balance.{next, previous}
use Rattle.algebra.proofs.Tables.{spared_live, cut}
use Rattle.algebra.proofs.KeptSums.{sums_kept}
use Rattle.algebra.proofs.KeptTwins.{twins_kept}
use Rattle.mesh.specs.Owner.{LiveNode}
use Rattle.mesh.specs.Placing.{stand, placed}
use Rattle.mesh.specs.Tree.{Mesh, corners}
use Rattle.mesh_laws.specs.Places.{table, killed}
use Rattle.mesh_laws.specs.Steps.{made, Step}
use Rattle.mesh_laws.specs.Sound.{MissesAt, Sound}
use Rattle.mesh_laws.specs.Laws.{Free}
use Rattle.mesh_laws.proofs.Masters.{IsMaster, masters_housed, live_triangle}
use Rattle.mesh_laws.proofs.LivePlaces.{from_at, to_at, OfNode, from_in, to_in}
use Rattle.mesh_laws.proofs.Rims.{spared_misses, rim_on_live, rim_place, left_of_rim, starts_once}
use Rattle.mesh_laws.proofs.StepNodes.{foot_rim, old_stand, each_master, nodes_grown, each_node, spared_node}
use Rattle.mesh_laws.proofs.StepNodes.{to_old, to_new}
use Rattle.mesh_laws.proofs.KeptDescent.{kept_descent}

-- An inside position is in the plane.
pub in_plane : {p : Position} → Within p → InPlane p
in_plane w = record { u_in = omega arith; v_in = omega arith }

module _ {h : Heights} {m m' : Mesh} {p : Position} (s : Sound h m) (w : Within p) (g : Step h m p m') where
  -- Masters stand in the plane, and apart.
  kept_housed : (k : ℕ) → k < length m'.masters → InPlane (stand m'.masters k)
  kept_housed = each_master g (λ k q. InPlane q) s.housed (in_plane w)

  kept_apart : Free m p → (j k : ℕ) → j < k → k < length m'.masters → stand m'.masters j ≢ stand m'.masters k
  kept_apart free j k r l =
      each_master g (λ k q. j < k → stand m'.masters j ≢ q)
      (λ k l r. rw (old_stand g j (omega arith)) (s.apart j k r l)) (λ r. rw (old_stand g j r) (free.free j r)) k l r

  -- Nodes turn left.
  kept_turns : (i : ℕ) → i < length m'.nodes → OfNode Left m' i
  kept_turns =
      each_node g (OfNode Left m') (λ i l. to_old g s Left i l (s.turns i l))
      (λ k l. to_new g s Left k l (left_of_rim s p w (foot_rim h m p k l)))

  -- Live nodes are live triangles of the old masters and the new one.
  kept_live : (i : ℕ) → LiveNode m' i → OfNode (Live h (also (IsMaster m) p)) m' i
  kept_live i o = each_node g (λ i. LiveNode m' i → OfNode (Live h (also (IsMaster m) p)) m' i) old new i o.used o
    where
      old : (i : ℕ) → i < length m.nodes → LiveNode m' i → OfNode (Live h (also (IsMaster m) p)) m' i
      old i l o =
          let (was, stays) = spared_node g i l o in
          to_old g s (Live h (also (IsMaster m) p)) i l
          (live_stays (live_triangle s was) (spared_misses h m p i was stays))

      new : (k : ℕ) → k < made h m p → LiveNode m' (length m.nodes + k) →
          OfNode (Live h (also (IsMaster m) p)) m' (length m.nodes + k)
      new k l o =
          let a = foot_rim h m p k l in
          to_new g s (Live h (also (IsMaster m) p)) k l
          (rim_live (rim_place s p a).edge (masters_housed s) (left_of_rim s p w a))

  -- So their rings are empty.
  kept_empty : (i : ℕ) → LiveNode m' i → (k : ℕ) → k < length m'.masters → MissesAt h m' (stand m'.masters k) i
  kept_empty i o k l =
      let is_master = each_master g (λ k q. also (IsMaster m) p q) (λ k l. inl (k, l, refl)) (inr refl) k l in
      (kept_live i o).empty (stand m'.masters k) is_master

  kept_twinned : Supported h → Twinned (table m')
  kept_twinned law =
      twins_kept s.twinned g.kills g.placed g.linked g.fresh (starts_once s p law w)
      (λ x a e. absurd (false≢true e))

  -- A place that runs as one of the border did is on the border.
  border_as : {x z : ℕ} → OnLive (table m) z → Edge (table m') x ((table m).from z) ((table m).to z) →
      (table m).border z ≡ true → Border (from_at m' x) (to_at m' x)
  border_as {x} {z} a e f =
      rw (e.starts, e.ends, old_stand g ((table m).from z) (from_in s a), old_stand g ((table m).to z) (to_in s a))
      (s.border a f)

  -- The spokes of a new node are not on the border, since a place of the rim comes after its foot, and one before.
  inward : (k : ℕ) → k < made h m p → (table m').border (3 * ((table m).size + k) + 1) ≡ false
  inward k l =
      let (y, a, e) = next (cut s.twinned g.kills) (foot_rim h m p k l) in
      g.linked.in_border k l a e

  outward : (k : ℕ) → k < made h m p → (table m').border (3 * ((table m).size + k) + 2) ≡ false
  outward k l =
      let (y, a, e) = previous (cut s.twinned g.kills) (foot_rim h m p k l) in
      g.linked.out_border k l a e

  new_border : (k e : ℕ) → k < made h m p → e < 3 → (table m').border (3 * ((table m).size + k) + e) ≡ true →
      Border (from_at m' (3 * ((table m).size + k) + e)) (to_at m' (3 * ((table m).size + k) + e))
  new_border k zero l b f =
      let same = sym (g.linked.outer_border k l) ∙ (rw add-zero at f) in
      rw add-zero (border_as (rim_on_live s p (foot_rim h m p k l)) (g.placed.outer k l) same)
  new_border k (suc zero) l b f = absurd (both_ways _ (inward k l) f)
  new_border k (suc (suc zero)) l b f = absurd (both_ways _ (outward k l) f)
  new_border k (suc (suc (suc e))) l b f = absurd (omega arith)

  kept_border : {x : ℕ} → OnLive (table m') x → (table m').border x ≡ true → Border (from_at m' x) (to_at m' x)
  kept_border {x} a f = at (cases_lt x (3 * (table m).size))
    where
      at : (x < 3 * (table m).size) ⊎ (3 * (table m).size ≤ x) → Border (from_at m' x) (to_at m' x)
      at (inl l) =
          let lives = sym (g.placed.kept_live (x / 3) (omega arith)) ∙ a.passes in
          let old : OnSpared (table m) (killed h m p) x = among l lives in
          let same = sym (g.linked.kept_border old) ∙ f in
          border_as (spared_live s.twinned g.kills old) (g.placed.kept x l) same
      at (inr l) =
          let k = x / 3 - (table m).size in
          let b = a.below in
          let r = g.placed.grown in
          let e : x ≡ 3 * ((table m).size + k) + x % 3 = omega arith in
          rw e (new_border k (x % 3) (omega arith) (omega arith) (rw e at f))

-- Placing an inside position at which no master stands.
pub sound_step : {h : Heights} {m m' : Mesh} {p : Position} → Supported h → Sound h m → Within p → Free m p →
    Step h m p m' → Sound h m'
sound_step {h} {m} {m'} {p} law s w free g = record {
  placed_after = s.placed_after ++ p ∷ [];
  begins = g.masters ∙ ap (λ ms. ms ++ p ∷ []) s.begins ∙ append_assoc corners s.placed_after (p ∷ []);
  housed = kept_housed s w g;
  apart = kept_apart s w g free;
  two = let o = s.two in omega (arith, nodes_grown g);
  formed = g.formed;
  turns = kept_turns s w g;
  twinned = kept_twinned s w g law;
  border = λ a f. kept_border s w g a f;
  empty = kept_empty s w g;
  sums = λ φ anti.
      sums_kept s.twinned g.kills g.placed φ anti (λ x a e. absurd (false≢true e)) ∙ s.sums φ anti;
  descent = kept_descent s g w;
}

pub sound_placed : (h : Heights) → Supported h → (m : Mesh) → Sound h m → (p : Position) → Within p → Free m p →
    Step h m p (placed h m p) → Sound h (placed h m p)
sound_placed h law m s p w free g = sound_step law s w free g
