-- The rim of a tree around a new master: its places are the edges of the hole, and no two start at one master.
use Rattle.std.proofs.Common.{◌≡◌, ℕ, ◌*◌, ◌/◌, ◌<◌, true, false, ◌⊎◌, length, Some, None, Option, sym, refl, ap, ◌∙◌, inl, inr, arith}
use Rattle.std.proofs.lemmas.List.{get_or-map}
use Rattle.std.proofs.lemmas.Int.{ints}
use Rattle.std.proofs.lemmas.Bool.{cases_Bool, and_parts}
use Rattle.plane.specs.declared.position.Position.{Position}
use Rattle.plane.specs.Plane.{Within, Left}
use Rattle.plane.specs.Measures.{Heights, Supported}
use Rattle.plane.specs.Rings.{Inside, NotIn}
use Rattle.plane.specs.Holes.{Rim}
use Rattle.plane.specs.LiveTriangles.{inside_turned, not_in_turned}
use Rattle.plane.proofs.Holes.{Beyond, one_start, rim_left}
use Rattle.algebra.specs.Cuts.{rim}
use Rattle.algebra.specs.Passing.{Once}
use Rattle.algebra.specs.Tables.{OnLive}
use Rattle.algebra.specs.Placing.{inner, OnRim}
use Rattle.mesh.specs.Owner.{node, LiveNode}
use Rattle.mesh.specs.Placing.{kills, holds, no_node}
use Rattle.mesh.specs.Tree.{Mesh}
use Rattle.mesh_laws.specs.Places.{table, killed, entry_at, number}
use Rattle.mesh_laws.specs.Sound.{Sound, HoldsAt, MissesAt, OfStepfather}
use Rattle.mesh_laws.proofs.Masters.{IsMaster, holds_inside, masters_housed, stands_once}
use Rattle.mesh_laws.proofs.LivePlaces.{
  from_at,
  to_at,
  apex_at,
  OfNode,
  Turns,
  from_node,
  from_place,
  node_of,
  place_of,
  to_in,
  live_place,
}

-- A node is killed where it is live and its ring holds p.
module _ (h : Heights) (m : Mesh) (p : Position) where
  pub killed_is : (i : ℕ) → i < length m.nodes → killed h m p i ≡ kills h m.masters p (node m i)
  unfolding killed
  killed_is i l = get_or-map (kills h m.masters p) m.nodes i no_node false l

  pub killed_live : (i : ℕ) → i < length m.nodes → killed h m p i ≡ true → LiveNode m i
  killed_live i l e = record { used = l; lives = (and_parts _ _ (sym (killed_is i l) ∙ e)).0 }

  pub killed_holds : (i : ℕ) → i < length m.nodes → killed h m p i ≡ true → HoldsAt h m p i
  killed_holds i l e = holds_inside h m p i (and_parts _ _ (sym (killed_is i l) ∙ e)).1

  pub spared_misses : (i : ℕ) → LiveNode m i → killed h m p i ≡ false → MissesAt h m p i
  spared_misses i o e =
      let k = killed_is i o.used in
      let l = o.lives in
      let f : holds h m.masters p (node m i) ≡ false = grind arith in
      record { not_in = grind (arith, ints) }

-- Where a place is not on the border, its entry is the node across it.
entry_is : (m : Mesh) (x : ℕ) → (table m).border x ≡ false → entry_at m x ≡ Some ((table m).across x)
unfolding table
entry_is m x e = by (entry_at m x) refl
  where
    by : (o : Option ℕ) → entry_at m x ≡ o → entry_at m x ≡ Some (number (entry_at m x))
    by None f = absurd (grind arith)
    by (Some j) f = cc

-- A place as an edge of the hole: the triangle on its left is its node, and the one across it is that of its entry.
pub record RimPlace (h : Heights) (m : Mesh) (p : Position) (x : ℕ) : Type 1 where
  pub edge : Rim h (IsMaster m) p (from_at m x) (to_at m x)
  pub father : (P : Position → Position → Position → Type 0) → Turns P →
      P (from_at m x) (to_at m x) edge.c → OfNode P m (x / 3)
  pub stepfather : (P : Position → Position → Position → Type 0) → Turns P →
      Beyond (λ d. P (to_at m x) (from_at m x) d) edge.across → OfStepfather (entry_at m x) (OfNode P m)

-- x is a place of the rim around p.
abbrev pub AtRim : Heights → Mesh → Position → ℕ → Type 0
AtRim h m p x = OnRim (table m) (killed h m p) x

module _ {h : Heights} {m : Mesh} (s : Sound h m) (p : Position) where
  -- Its node is killed, and was live.
  pub rim_killed : {x : ℕ} → AtRim h m p x → (x / 3 < length m.nodes) × (killed h m p (x / 3) ≡ true)
  unfolding table
  rim_killed a = let l = a.below in (omega arith, (and_parts _ _ a.passes).0)

  pub rim_on_live : {x : ℕ} → AtRim h m p x → OnLive (table m) x
  rim_on_live {x} a = let (l, e) = rim_killed a in place_of x (killed_live h m p (x / 3) l e)

  rim_inside : {x : ℕ} → AtRim h m p x → Inside h (from_at m x) (to_at m x) (apex_at m x) p
  rim_inside {x} a =
      let (l, e) = rim_killed a in
      from_node (λ a b c. Inside h a b c p) (λ a b c i. inside_turned i) m x (killed_holds h m p (x / 3) l e)

  -- On the border there is no stepfather,
  outer_place : {x : ℕ} → AtRim h m p x → (table m).border x ≡ true → RimPlace h m p x
  outer_place {x} a e = record {
    edge = record {
      c = apex_at m x;
      father = live_place s (rim_on_live a);
      killed = rim_inside a;
      across = inl (s.border (rim_on_live a) e);
    };
    father = λ P turned i. from_place P turned m x i;
    stepfather = λ P turned i. absurd i;
  }

  -- and elsewhere it is the node of the twin, which is not killed.
  inner_place : {x : ℕ} → AtRim h m p x → (table m).border x ≡ false → RimPlace h m p x
  inner_place {x} a e =
      let z = s.twinned.twin (rim_on_live a) e in
      let y = z.place in
      let b = z.back in
      let n = z.node in
      let r = a.passes in
      let stays : killed h m p (y / 3) ≡ false = ap (killed h m p) n ∙ grind arith in
      let misses = spared_misses h m p (y / 3) (node_of z.lives) stays in
      record {
        edge = record {
          c = apex_at m x;
          father = live_place s (rim_on_live a);
          killed = rim_inside a;
          across = inr (record {
            d = apex_at m y;
            live = rw (b.starts, b.ends) at (live_place s z.lives);
            spared = rw (b.starts, b.ends) at
                (from_node (λ a b c. NotIn h a b c p) (λ a b c i. not_in_turned i) m y misses);
          });
        };
        father = λ P turned i. from_place P turned m x i;
        stepfather = λ P turned i. rw (entry_is m x e, ← n) (from_place P turned m y (rw (b.starts, b.ends) i));
      }

  pub rim_place : {x : ℕ} → AtRim h m p x → RimPlace h m p x
  rim_place {x} a = at (cases_Bool ((table m).border x))
    where
      at : ((table m).border x ≡ true) ⊎ ((table m).border x ≡ false) → RimPlace h m p x
      at (inl e) = outer_place a e
      at (inr e) = inner_place a e

  -- The new master is on its left.
  pub left_of_rim : Within p → {x : ℕ} → AtRim h m p x → Left (from_at m x) (to_at m x) p
  left_of_rim w a = rim_left (rim_place a).edge w

  -- No two places of the rim start at one master: they would end at one position, so at one master, and so be the same.
  pub starts_once : Supported h → Within p →
      Once (3 * (table m).size) (rim (killed h m p) (inner (table m) (killed h m p))) (table m).from
  starts_once law w x y a b e =
      let ends : to_at m x ≡ to_at m y = one_start law (masters_housed s) (rim_place a).edge
      (rw e (rim_place b).edge) (left_of_rim w a) (rw e (left_of_rim w b)) in
      s.twinned.once (rim_on_live a) (rim_on_live b)
      (record { starts = e; ends = stands_once s _ _ (to_in s (rim_on_live a)) (to_in s (rim_on_live b)) ends })
