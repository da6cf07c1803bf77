-- The entries of the live nodes of a sound tree for their neighbours are right.
use Rattle.std.proofs.Common.{◌≡◌, ℕ, zero, suc, ◌%◌, ◌<◌, false, not, is_some, Some, None, Option, sym, refl, ap, ◌∙◌, subst, arith}
use Rattle.std.proofs.lemmas.Int.{ints}
use Rattle.plane.specs.declared.position.Position.{Position}
use Rattle.plane.specs.Plane.{Left}
use Rattle.plane.specs.Measures.{Heights}
use Rattle.plane.specs.Holes.{Border}
use Rattle.plane.specs.Strict.{turned}
use Rattle.plane.specs.Turns.{turn_swap}
use Rattle.algebra.specs.Tables.{Table, Edge}
use Rattle.algebra.proofs.Tables.{twin_back}
use Rattle.mesh.specs.Owner.{node, vertex, LiveNode}
use Rattle.mesh.specs.Placing.{next, stand, across}
use Rattle.mesh.specs.Tree.{Mesh}
use Rattle.mesh_laws.specs.Laws.{RunsBack, RightEntry}
use Rattle.mesh_laws.specs.Places.{number, entry_at, table}
use Rattle.mesh_laws.specs.Sound.{Sound}
use Rattle.mesh_laws.proofs.Masters.{masters_housed, vertex_master}
use Rattle.mesh_laws.proofs.Entries.{from_at, to_at, border_at, across_at, on_live, live_node, place_node}

-- An entry that is not none is the number that it names.
named : (o : Option ℕ) (i : ℕ) → not (is_some o) ≡ false → number o ≡ i → o ≡ Some i
named None i e f = absurd (let z : ◌≡◌ {A = ℕ} 0 1 = cc in omega arith)
named (Some j) i e f = ap Some f

-- Where y runs back along x, x runs back along y.
backward : (t : Table) (x y : ℕ) → Edge t y (t.to x) (t.from x) → Edge t x (t.to y) (t.from y)
backward t x y r = record { starts = sym r.ends; ends = sym r.starts }

-- A triangle that turns left does so from each edge.
pub left_from : (m : Mesh) (i e : ℕ) → e < 3 → Left (vertex m i 0) (vertex m i 1) (vertex m i 2) →
    Left (vertex m i e) (vertex m i (next e)) (vertex m i (next (next e)))
left_from m i zero b l = l
left_from m i (suc zero) b l = turned l
left_from m i (suc (suc zero)) b l = turned (turned l)
left_from m i (suc (suc (suc e))) b l = absurd (omega arith)

module _ {h : Heights} {m : Mesh} (s : Sound h m) {i : ℕ} (o : LiveNode m i) {e : ℕ} (b : e < 3) where
  on_border : across (node m i) e ≡ None → Border (vertex m i e) (vertex m i (next e))
  on_border n =
      rw (ap (stand m.masters) (from_at m i e b), ap (stand m.masters) (to_at m i e b)) at
      (s.border (on_live m i e b o) (border_at m i e b ∙ ap (λ x. not (is_some x)) n))

  -- The twin of the edge is a place of the node across, and what is across the twin is node i.
  runs_back : (j : ℕ) → across (node m i) e ≡ Some j → RunsBack m i e j
  unfolding table
  runs_back j n =
      let a = on_live m i e b o in
      let w = s.twinned.twin a (border_at m i e b ∙ ap (λ x. not (is_some x)) n) in
      let y = w.place in
      let back = twin_back s.twinned a w.lives (backward (table m) _ y w.back) in
      subst (λ k. RunsBack m i e k) (w.node ∙ across_at m i e b ∙ ap number n) (record {
        is_live = live_node w.lives;
        side = y % 3;
        side_in = omega arith;
        starts = w.back.starts ∙ to_at m i e b;
        ends = w.back.ends ∙ from_at m i e b;
        names = named (entry_at m y) i back.0 (back.1 ∙ place_node i e b);
      })

  -- It lies on the left of its own edge there, and so on the right of this one: then this one is not on the border.
  not_border : Border (vertex m i e) (vertex m i (next e)) → (j : ℕ) → RunsBack m i e j → ⊥
  not_border all j r =
      let is_master = vertex_master s j r.is_live.used (next (next r.side)) in
      let right = all.all third (masters_housed s third is_master) in
      omega (arith, ints, left, turn_swap (vertex m i e) (vertex m i (next e)) third)
    where
      third : Position
      third = vertex m j (next (next r.side))

      left : Left (vertex m i (next e)) (vertex m i e) third
      left =
          rw (ap (stand m.masters) r.starts, ap (stand m.masters) r.ends) at
          (left_from m j r.side r.side_in (s.turns j r.is_live.used))

  pub right_entry : RightEntry m i e
  right_entry = record { none = on_border; border = λ all. at all (across (node m i) e) refl; some = runs_back }
    where
      at : Border (vertex m i e) (vertex m i (next e)) → (x : Option ℕ) → across (node m i) e ≡ x →
          across (node m i) e ≡ None
      at all None n = n
      at all (Some j) n = absurd (not_border all j (runs_back j n))
