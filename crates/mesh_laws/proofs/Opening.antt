-- There is always a hole: placing kills a live triangle, and the new nodes go round.
use Rattle.std.proofs.Common.{◌≡◌, ℕ, ◌+◌, ◌*◌, ◌<◌, ◌≤◌, ◌≢◌, length, sym, refl, ap, ◌∙◌, arith}
use Rattle.plane.specs.declared.position.Position.{Position}
use Rattle.plane.specs.Plane.{Within, Left}
use Rattle.plane.specs.Measures.{Heights, Supported}
use Rattle.plane.proofs.Crossings.{owned}
use Rattle.plane.specs.LiveTriangles.{holds}
use Rattle.plane.specs.Strict.{apart}
use Rattle.algebra.specs.Cuts.{rim}
use Rattle.algebra.specs.Passing.{Once}
use Rattle.algebra.specs.Placing.{inner}
use Rattle.algebra.proofs.Balance.{next, previous, ends_once}
use Rattle.algebra.proofs.Bearers.{base_at, base_once}
use Rattle.algebra.proofs.Tables.{cut}
use Rattle.mesh.specs.Owner.{node, vertex, OwnsAt, Owner}
use Rattle.mesh.specs.Placing.{start}
use Rattle.mesh.specs.Tree.{Mesh}
use Rattle.mesh_laws.specs.Places.{table, killed, flat}
use Rattle.mesh_laws.specs.Steps.{made, foot, Step}
use Rattle.mesh_laws.specs.Sound.{HoldsAt, Sound}
use Rattle.mesh_laws.specs.Laws.{NewNode, OnlyOne, Opens, Free}
use Rattle.mesh_laws.proofs.Masters.{inside_holds, masters_housed, live_triangle}
use Rattle.mesh_laws.proofs.Rims.{AtRim, left_of_rim, starts_once}
use Rattle.mesh_laws.proofs.StepNodes.{foot_rim, nodes_grown, each_node, to_new}
use Rattle.mesh_laws.proofs.KeptSound.{in_plane}

-- A triangle that owns p is killed: p is no master, so the triangle's ring holds it.
owner_holds : {h : Heights} {m : Mesh} {p : Position} {i : ℕ} → Supported h → Sound h m → Within p → Free m p →
    OwnsAt m p i → HoldsAt h m p i
owner_holds law s w free o =
    holds law (masters_housed s) (live_triangle s o.is_live) (owned _ _ _ _ o.owns) (in_plane w)
    (λ (k, l, e). free.free k l e)

module _ {h : Heights} {m m' : Mesh} {p : Position} (g : Step h m p m') where
  -- The new nodes by their numbers from 0.
  new_node : (k : ℕ) → k < made h m p → NewNode m m' (length m.nodes + k)
  new_node k l = record { behind = omega arith; used = omega (arith, nodes_grown g) }

  new_number : {i : ℕ} → NewNode m m' i → (k : ℕ) × (k < made h m p) × (i ≡ length m.nodes + k)
  new_number {i} o =
      each_node g (λ i. length m.nodes ≤ i → (k : ℕ) × (k < made h m p) × (i ≡ length m.nodes + k))
      (λ i l b. absurd (omega arith)) (λ k l b. (k, l, refl)) i o.used o.behind

  -- Places of the rim have different labels, and the new nodes have those of their feet at e. Then just one new node
  -- has there the label of a given place; and that is not the k-th if its foot has another label.
  only_one : (e : ℕ) (label : ℕ → ℕ) →
      ((k : ℕ) → k < made h m p → start (node m' (length m.nodes + k)) e ≡ label (foot h m p k)) →
      Once (3 * (table m).size) (rim (killed h m p) (inner (table m) (killed h m p))) label →
      (y : ℕ) → AtRim h m p y → (k : ℕ) → (label (foot h m p k) ≡ label y → ⊥) →
      (j : ℕ) × (j ≢ length m.nodes + k) × OnlyOne m m' e (label y) j
  only_one e label at once y a k other =
      let (j, l, d) = base_at (table m) (killed h m p) flat a refl in (
        length m.nodes + j,
        (λ q. not_other j d (omega arith)),
        record {
          is_new = new_node j l;
          meets = at j l ∙ ap label d;
          only = λ i o b.
              let (n, r, f) = new_number o in
              let same = once (foot h m p n) (foot h m p j) (foot_rim h m p n r) (foot_rim h m p j l)
              (sym (at n r) ∙ ap (λ i. start (node m' i) e) (sym f) ∙ b ∙ ap label (sym d)) in
              f ∙ ap (λ i. length m.nodes + i) (base_once (table m) (killed h m p) flat n j r l same);
        },
      )
    where
      not_other : (j : ℕ) → foot h m p j ≡ y → j ≡ k → ⊥
      not_other j d q = other (ap (λ i. label (foot h m p i)) (sym q) ∙ ap label d)

  -- Where the first edges of the new nodes start and end.
  starts_at : (k : ℕ) → k < made h m p → start (node m' (length m.nodes + k)) 0 ≡ (table m).from (foot h m p k)
  starts_at k l = rw (g.new_masters k l)

  ends_at : (k : ℕ) → k < made h m p → start (node m' (length m.nodes + k)) 1 ≡ (table m).to (foot h m p k)
  ends_at k l = rw (g.new_masters k l)

  module _ (law : Supported h) (s : Sound h m) (w : Within p) where
    new_turns : (k : ℕ) → k < made h m p →
        Left (vertex m' (length m.nodes + k) 0) (vertex m' (length m.nodes + k) 1) p
        × (start (node m' (length m.nodes + k)) 2 ≡ length m.masters)
    new_turns k l =
        (to_new g s (λ a b c. Left a b p) k l (left_of_rim s p w (foot_rim h m p k l)), rw (g.new_masters k l))

    -- No edge of the hole starts where it ends.
    not_round : (k : ℕ) → k < made h m p → (table m).from (foot h m p k) ≡ (table m).to (foot h m p k) → ⊥
    not_round k l e = apart (left_of_rim s p w (foot_rim h m p k l)) (rw e)

    new_next : (k : ℕ) → k < made h m p →
        (j : ℕ) × (j ≢ length m.nodes + k) × OnlyOne m m' 0 (start (node m' (length m.nodes + k)) 1) j
    new_next k l =
        let (y, a, e) = next (cut s.twinned g.kills) (foot_rim h m p k l) in
        rw (ends_at k l, ← e)
        (only_one 0 (table m).from starts_at (starts_once s p law w) y a k (λ d. not_round k l (d ∙ e)))

    new_previous : (k : ℕ) → k < made h m p →
        (j : ℕ) × (j ≢ length m.nodes + k) × OnlyOne m m' 1 (start (node m' (length m.nodes + k)) 0) j
    new_previous k l =
        let (y, a, e) = previous (cut s.twinned g.kills) (foot_rim h m p k l) in
        let once = ends_once (cut s.twinned g.kills) (starts_once s p law w) in
        rw (starts_at k l, ← e)
        (only_one 1 (table m).to ends_at once y a k (λ d. not_round k l (sym (d ∙ e))))

-- So placing an inside position at which no master stands opens a hole.
pub opening : {h : Heights} {m m' : Mesh} {p : Position} → Supported h → Sound h m →
    ((q : Position) → Within q → (i : ℕ) × Owner m q i) → Within p → Free m p → Step h m p m' → Opens h m p m'
opening {h} {m} {m'} {p} law s owners w free g =
    let (v, o) = owners p w in
    record {
      victim = v;
      was_live = o.owner.is_live;
      held = inside_holds h m p v (owner_holds law s w free o.owner);
      turns = λ i n. let (k, l, e) = new_number g n in rw e (new_turns g law s w k l);
      next = λ i n. let (k, l, e) = new_number g n in rw e (new_next g law s w k l);
      previous = λ i n. let (k, l, e) = new_number g n in rw e (new_previous g law s w k l);
    }
