-- The tree of a family without placed masters is sound.
use Rattle.std.proofs.Common.{◌≡◌, ℕ, ◌+◌, ◌%◌, ◌<◌, ◌≤◌, Bool, true, false, cond, ltb, ◌≢◌, [], length, sym, refl, ap, ◌∙◌, subst, arith, lit≤}
use Rattle.std.proofs.lemmas.Int.{ints}
use Rattle.algebra.specs.Tables.{OnLive}
use Rattle.plane.specs.declared.position.Position.{Position}
use Rattle.plane.specs.Plane.{InPlane, turn, Left}
use Rattle.plane.specs.Measures.{Heights}
use Rattle.plane.specs.Rings.{K, NotIn}
use Rattle.plane.specs.Holes.{Border}
use Rattle.plane.specs.LiveTriangles.{not_in_turned}
use Rattle.plane.specs.Turns.{K_same}
use Rattle.mesh.specs.Owner.{vertex}
use Rattle.mesh.specs.Placing.{stand}
use Rattle.mesh.specs.Tree.{corner, corners, flat_diagonal, fresh}
use Rattle.mesh_laws.specs.Places.{table}
use Rattle.mesh_laws.specs.Sound.{MissesAt, Sound}
use Rattle.mesh_laws.proofs.FreshTable.{each_two, each_four, first, first_two, first_formed, first_twinned}
use Rattle.mesh_laws.proofs.FreshTable.{first_side, first_sums}

corners_housed : (k : ℕ) → k < 4 → InPlane (stand corners k)
corners_housed =
    each_four (λ k. InPlane (stand corners k)) (in_plane (lit≤ tt) (lit≤ tt)) (in_plane (lit≤ tt) (lit≤ tt))
    (in_plane (lit≤ tt) (lit≤ tt)) (in_plane (lit≤ tt) (lit≤ tt))
  where
    in_plane : {u v : ℕ} → u ≤ 4096 → v ≤ 4096 → InPlane (corner u v)
    in_plane a b = record { u_in = a; v_in = b }

-- The number of a corner can be read off its position.
corner_number : Position → ℕ
corner_number q = cond (ltb 0 q.v) (cond (ltb 0 q.u) 2 3) (cond (ltb 0 q.u) 1 0)

number_is : (k : ℕ) → k < 4 → corner_number (stand corners k) ≡ k
unfolding corner_number
number_is = each_four (λ k. corner_number (stand corners k) ≡ k) refl refl refl refl

corners_apart : (j k : ℕ) → j < k → k < 4 → stand corners j ≢ stand corners k
corners_apart j k l b e =
    let f = sym (number_is j (omega arith)) ∙ ap corner_number e ∙ number_is k b in omega arith

-- The plane lies on the left of its sides.
corners_border : (k : ℕ) → k < 4 → Border (stand corners k) (stand corners ((k + 1) % 4))
unfolding turn
corners_border =
    each_four (λ k. Border (stand corners k) (stand corners ((k + 1) % 4)))
    (record { all = λ q i. record { not_right = omega (arith, ints) } })
    (record { all = λ q i. record { not_right = omega (arith, ints) } })
    (record { all = λ q i. record { not_right = omega (arith, ints) } })
    (record { all = λ q i. record { not_right = omega (arith, ints) } })

first_border : (flat : Bool) {x : ℕ} → OnLive (table (first flat)) x → (table (first flat)).border x ≡ true →
    Border (stand corners ((table (first flat)).from x)) (stand corners ((table (first flat)).to x))
first_border flat {x} a e =
    let (l, d) = first_side flat a e in
    subst (λ k. Border (stand corners ((table (first flat)).from x)) (stand corners k)) (sym d) (corners_border _ l)

first_turns : (flat : Bool) (i : ℕ) → i < length (first flat).nodes →
    Left (vertex (first flat) i 0) (vertex (first flat) i 1) (vertex (first flat) i 2)
unfolding turn
first_turns true =
    each_two (λ i. Left (vertex (first true) i 0) (vertex (first true) i 1) (vertex (first true) i 2))
    (record { left = omega (arith, ints) }) (record { left = omega (arith, ints) })
first_turns false =
    each_two (λ i. Left (vertex (first false) i 0) (vertex (first false) i 1) (vertex (first false) i 2))
    (record { left = omega (arith, ints) }) (record { left = omega (arith, ints) })

-- No ring holds its own three masters,
own_last : {h : Heights} {a b c : Position} → NotIn h a b c c
own_last {h} {a} {b} {c} = omega (arith, ints, K_same h a b c)

own_mid : {h : Heights} {a b c : Position} → NotIn h a b c b
own_mid = not_in_turned own_last

own_first : {h : Heights} {a b c : Position} → NotIn h a b c a
own_first = not_in_turned own_mid

-- and the fourth corner is not in one either, by the choice of the diagonal.
first_empty : (h : Heights) (flat : Bool) → flat_diagonal h ≡ flat → (i : ℕ) → i < length (first flat).nodes →
    (k : ℕ) → k < 4 → MissesAt h (first flat) (stand corners k) i
unfolding flat_diagonal K turn
first_empty h true e =
    let at : ℕ → ℕ → Type 0 = λ k i. MissesAt h (first true) (stand corners k) i in
    each_two (λ i. (k : ℕ) → k < 4 → at k i)
    (each_four (λ k. at k 0) own_first own_mid own_last (record { not_in = grind (arith, ints) }))
    (each_four (λ k. at k 1) own_first (record { not_in = grind (arith, ints) }) own_mid own_last)
first_empty h false e =
    let at : ℕ → ℕ → Type 0 = λ k i. MissesAt h (first false) (stand corners k) i in
    each_two (λ i. (k : ℕ) → k < 4 → at k i)
    (each_four (λ k. at k 0) own_first own_mid (record { not_in = grind (arith, ints) }) own_last)
    (each_four (λ k. at k 1) (record { not_in = grind (arith, ints) }) own_first own_mid own_last)

first_sound : (h : Heights) (flat : Bool) → flat_diagonal h ≡ flat → Sound h (first flat)
first_sound h flat e = record {
  placed_after = [];
  begins = refl;
  housed = corners_housed;
  apart = corners_apart;
  two = let t = first_two flat in omega arith;
  formed = first_formed flat;
  turns = first_turns flat;
  twinned = first_twinned flat;
  border = first_border flat;
  empty = λ i o. first_empty h flat e i o.used;
  sums = first_sums flat;
  descent = λ i b l. absurd (let t = first_two flat in omega arith);
}

pub sound_fresh : (h : Heights) → Sound h (fresh h)
unfolding fresh
sound_fresh h = first_sound h (flat_diagonal h) refl
