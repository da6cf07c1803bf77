-- Heights that are 0 outside the plane keep the laws of a measure where they keep them inside.
use Rattle.std.specs.Prelude.{◌≡◌, ◌<◌, ◌≤◌, ◌⊎◌, ℤ, pos}
use Rattle.std.proofs.Common.{sym, subst, inl, inr, ⊎_elim, arith}
use Rattle.std.proofs.lemmas.Int.{ints}
use Rattle.std.proofs.lemmas.Bool.{cases_lt}
use Rattle.std.proofs.lemmas.Bool.Decides.{nat_tests}
use Rattle.plane.specs.Measures.{Heights, Height, Bounded, Support, only_in_plane}
use Rattle.plane.specs.Plane.{Position, InPlane}

pub height_inside : (h : Heights) (p : Position) → InPlane p → only_in_plane h p ≡ h p
unfolding only_in_plane
height_inside h p i = grind (arith, nat_tests)

pub height_outside : (h : Heights) (p : Position) → (InPlane p → ⊥) → only_in_plane h p ≡ pos 0
unfolding only_in_plane
height_outside h p o = grind (arith, nat_tests)

pub decide_plane : (p : Position) → InPlane p ⊎ (InPlane p → ⊥)
decide_plane p = by (cases_lt 4096 p.u) (cases_lt 4096 p.v)
  where
    by : (4096 < p.u) ⊎ (p.u ≤ 4096) → (4096 < p.v) ⊎ (p.v ≤ 4096) → InPlane p ⊎ (InPlane p → ⊥)
    by (inl h) k = inr (λ i. omega arith)
    by (inr h) (inl k) = inr (λ i. omega arith)
    by (inr h) (inr k) = inl (record { u_in = h; v_in = k })

pub bounded_in_plane : (h : Heights) → ((p : Position) → InPlane p → Height (h p)) → Bounded (only_in_plane h)
bounded_in_plane h inside = record {
  height = λ p. ⊎_elim
      (λ i. subst (λ (z : ℤ). Height z) (sym (height_inside h p i)) (inside p i))
      (λ o. subst (λ (z : ℤ). Height z) (sym (height_outside h p o)) (omega (arith, ints)))
      (decide_plane p);
  outside = height_outside h;
}

pub support_in_plane : (h : Heights) (p : Position) → InPlane p → Support h p → Support (only_in_plane h) p
support_in_plane h p i o = record {
  s = o.s;
  t = o.t;
  above = λ q j n. rw (height_inside h p i, height_inside h q j) (o.above q j n);
}
