-- Placing keeps descent: the old nodes descend as they did, and a new one from the nodes on both sides of its foot.
use Rattle.std.proofs.Common.{◌≡◌, ℕ, ◌+◌, ◌/◌, ◌%◌, ◌<◌, ◌≤◌, true, false, ◌⊎◌, length, get_or, Some, None, Option, sym, refl, ap, ◌∙◌, inl, inr, arith}
use Rattle.std.proofs.lemmas.Int.{ints}
use Rattle.std.proofs.lemmas.Bool.{cases_Bool}
use Rattle.plane.specs.declared.position.Position.{Position}
use Rattle.plane.specs.Plane.{Within}
use Rattle.plane.specs.Measures.{Heights}
use Rattle.plane.specs.Rings.{Inside, NotOut}
use Rattle.plane.specs.Turns.{K_cycle}
use Rattle.plane.specs.LiveTriangles.{inside_turned}
use Rattle.plane.proofs.Holes.{Beyond, rim_holds, rim_reaches}
use Rattle.mesh.specs.Owner.{node}
use Rattle.mesh.specs.Reached.{Son}
use Rattle.mesh.specs.Tree.{Mesh}
use Rattle.mesh_laws.specs.Places.{killed, entry_at}
use Rattle.mesh_laws.specs.Steps.{made, foot, Step}
use Rattle.mesh_laws.specs.Sound.{OfStepfather, Descends, Sound}
use Rattle.mesh_laws.proofs.LivePlaces.{from_at, to_at, OfNode, Turns}
use Rattle.mesh_laws.proofs.Rims.{killed_live, AtRim, rim_killed, rim_place, left_of_rim}
use Rattle.mesh_laws.proofs.StepNodes.{foot_rim, each_node, to_old, from_old, from_new}

-- The ring of a, b, c holds q, and reaches q.
abbrev holding : Heights → Position → Position → Position → Position → Type 0
holding h q a b c = Inside h a b c q

abbrev reaching : Heights → Position → Position → Position → Position → Type 0
reaching h q a b c = NotOut h a b c q

not_out_turned : {h : Heights} {a b c q : Position} → NotOut h a b c q → NotOut h b c a q
not_out_turned {h} {a} {b} {c} {q} n = omega (arith, ints, K_cycle h a b c q)

module _ {h : Heights} {m m' : Mesh} {p : Position} (s : Sound h m) (g : Step h m p m') where
  -- What holds of one of two old nodes still holds of it.
  still : (P : Position → Position → Position → Type 0) (f : ℕ) (o : Option ℕ) → f < length m.nodes →
      ((j : ℕ) → o ≡ Some j → j < length m.nodes) → OfNode P m f ⊎ OfStepfather o (OfNode P m) →
      OfNode P m' f ⊎ OfStepfather o (OfNode P m')
  still P f o l n (inl i) = inl (to_old g s P f l i)
  still P f None l n (inr i) = absurd i
  still P f (Some j) l n (inr i) = inr (to_old g s P j (n j refl) i)

  -- The father of an old node has a son, so it is dead and is not killed: its sons stay.
  same_son : (i f : ℕ) → f < length m.nodes → Son m f i → Son m' f i
  same_son i f l o = record {
    side = o.side;
    through = ap (λ sons. get_or sons o.side None) (g.old_sons f l (at (cases_Bool (killed h m p f)))) ∙ o.through;
  }
    where
      at : (killed h m p f ≡ true) ⊎ (killed h m p f ≡ false) → killed h m p f ≡ false
      at (inl e) =
          let none = (s.formed f l).childless (killed_live h m p f l e).lives o.side in
          let some = o.through in
          let z : ◌≡◌ {A = ℕ} 0 1 = cc in
          absurd (omega arith)
      at (inr e) = e

  old_descends : (i : ℕ) → i < length m.nodes → Descends h m i → Descends h m' i
  old_descends i l d = record {
    father = d.father;
    names = g.old_father i l ∙ d.names;
    older = d.older;
    son = same_son i d.father below d.son;
    step_older = λ j e. d.step_older j (sym same ∙ e);
    holds = λ q iq o. carried (holding h q) (d.holds q iq (from_old g s (holding h q) i l o));
    reaches = λ q iq o. carried (reaching h q) (d.reaches q iq (from_old g s (reaching h q) i l o));
  }
    where
      same : (node m' i).stepfather ≡ (node m i).stepfather
      same = g.old_stepfather i l

      below : d.father < length m.nodes
      below = let o = d.older in omega arith

      carried : (P : Position → Position → Position → Type 0) →
          OfNode P m d.father ⊎ OfStepfather (node m i).stepfather (OfNode P m) →
          OfNode P m' d.father ⊎ OfStepfather (node m' i).stepfather (OfNode P m')
      carried P o =
          rw same (still P d.father (node m i).stepfather below (λ j e. let r = d.step_older j e in omega arith) o)

  -- A new node is younger than the nodes on both sides of its foot,
  entry_below : {x : ℕ} → AtRim h m p x → (j : ℕ) → entry_at m x ≡ Some j → j < length m.nodes
  entry_below {x} a j e = (s.formed (x / 3) (rim_killed s p a).0).neighbours_in (x % 3) j e

  -- of which still holds what held of the two triangles there.
  still_beside : (P : Position → Position → Position → Type 0) → Turns P → {x : ℕ} → (a : AtRim h m p x) →
      P (from_at m x) (to_at m x) (rim_place s p a).edge.c
      ⊎ Beyond (λ d. P (to_at m x) (from_at m x) d) (rim_place s p a).edge.across →
      OfNode P m' (x / 3) ⊎ OfStepfather (entry_at m x) (OfNode P m')
  still_beside P turned {x} a o =
      let r = rim_place s p a in
      still P (x / 3) (entry_at m x) (rim_killed s p a).0 (entry_below a)
      (elim o [
        | inl i ↦ inl (r.father P turned i)
        | inr i ↦ inr (r.stepfather P turned i)
      ])

  new_descends : Within p → (k : ℕ) → k < made h m p → Descends h m' (length m.nodes + k)
  new_descends w k l =
      let a = foot_rim h m p k l in
      let edge = (rim_place s p a).edge in
      let left = left_of_rim s p w a in
      let same = g.new_stepfather k l in
      record {
        father = foot h m p k / 3;
        names = g.new_father k l;
        older = omega (arith, (rim_killed s p a).0);
        son = record { side = foot h m p k % 3; through = g.new_sons k l };
        step_older = λ j e. omega (arith, entry_below a j (sym same ∙ e));
        holds = λ q iq o.
            rw same (still_beside (holding h q) (λ a b c i. inside_turned i) a
            (rim_holds edge left iq (from_new g s (holding h q) k l o)));
        reaches = λ q iq o.
            rw same (still_beside (reaching h q) (λ a b c i. not_out_turned i) a
            (rim_reaches edge left iq (from_new g s (reaching h q) k l o)));
      }

  pub kept_descent : Within p → (i : ℕ) → 2 ≤ i → i < length m'.nodes → Descends h m' i
  kept_descent w i two l =
      each_node g (λ i. 2 ≤ i → Descends h m' i) (λ i l two. old_descends i l (s.descent i two l))
      (λ k l two. new_descends w k l) i l two
