-- In a sound tree each inside position has exactly one owner.
use Rattle.std.proofs.Common.{◌≡◌, ℕ, ◌<◌, Bool, true, false, ◌⊎◌, length, ℤ, pos, sym, refl, ap, ◌∙◌, inl, inr, arith}
use lib.Signed.{lt_z}
use Rattle.std.proofs.lemmas.Int.{ints}
use Rattle.std.proofs.lemmas.Bool.{cases_Bool}
use Rattle.std.proofs.lemmas.Bool.Decides.{nat_tests}
use Rattle.algebra.specs.Sums.{sum, only, count}
use Rattle.algebra.proofs.Counts.{sum_count, count_find, once_count}
use Rattle.algebra.proofs.Passing.{among}
use Rattle.algebra.proofs.Sums.{sum_cong, only_true, only_false}
use Rattle.plane.specs.declared.position.Position.{Position}
use Rattle.plane.specs.Plane.{Within, turn, crossing, crossings}
use Rattle.plane.specs.Measures.{Heights}
use Rattle.plane.proofs.Crossings.{crossing_anti, crossings_left}
use Rattle.mesh.specs.Owner.{node, vertex, OwnsAt, Owner}
use Rattle.mesh.specs.Placing.{live}
use Rattle.mesh.specs.Tree.{Mesh, corner}
use Rattle.mesh_laws.specs.Sound.{Sound}
use Rattle.mesh_laws.proofs.EdgeSums.{round_plane, sum_round}

-- Terms that are 0 or 1 and sum to 1: exactly one of them is 1.
module _ (n : ℕ) (f : ℕ → ℤ) (small : (i : ℕ) → i < n → (f i ≡ pos 0) ⊎ (f i ≡ pos 1)) (one : sum n f ≡ pos 1) where
  abbrev is_one : ℕ → Bool
  is_one i = lt_z (pos 0) (f i)

  as_test : (i : ℕ) → i < n → f i ≡ only (is_one i) (pos 1)
  unfolding only
  as_test i l = at (f i) (small i l)
    where
      at : (z : ℤ) → (z ≡ pos 0) ⊎ (z ≡ pos 1) → z ≡ only (lt_z (pos 0) z) (pos 1)
      at z (inl e) = rw e
      at z (inr e) = rw e

  counts_one : count n is_one ≡ 1
  counts_one = let e = sym (sum_count n is_one) ∙ sym (sum_cong n as_test) ∙ one in omega (arith, ints)

  pub one_term : (i : ℕ) × (i < n) × (f i ≡ pos 1) × ((j : ℕ) → j < n → f j ≡ pos 1 → j ≡ i)
  one_term =
      let c = counts_one in
      let (i, a) = count_find n is_one (omega arith) in (
        i,
        a.below,
        as_test i a.below ∙ only_true (pos 1) a.passes,
        λ j l e. once_count n (omega arith) (among l (ap (lt_z (pos 0)) e)) a,
      )

-- Round the plane, only the side on the right of an inside position counts.
module _ {q : Position} (w : Within q) where
  bottom : crossing q (corner 0 0) (corner 4096 0) ≡ pos 0
  unfolding crossing
  bottom = grind (arith, nat_tests)

  right : crossing q (corner 4096 0) (corner 4096 4096) ≡ pos 1
  unfolding crossing turn
  right = grind (arith, nat_tests, ints)

  top : crossing q (corner 4096 4096) (corner 0 4096) ≡ pos 0
  unfolding crossing
  top = grind (arith, nat_tests)

  left : crossing q (corner 0 4096) (corner 0 0) ≡ pos 0
  unfolding crossing turn
  left = grind (arith, nat_tests, ints)

  border_crossings : round_plane (crossing q) ≡ pos 1
  border_crossings = let a = bottom in let b = right in let c = top in let d = left in cc

-- So the live triangles' crossings at it sum to 1, and each triangle's are 0 or 1.
module _ {h : Heights} {m : Mesh} (s : Sound h m) {q : Position} (w : Within q) where
  abbrev crossings_at : ℕ → ℤ
  crossings_at i = only (live (node m i)) (crossings q (vertex m i 0) (vertex m i 1) (vertex m i 2))

  zero_or_one : (i : ℕ) → i < length m.nodes → (crossings_at i ≡ pos 0) ⊎ (crossings_at i ≡ pos 1)
  zero_or_one i l = at (live (node m i)) (crossings_left (s.turns i l) q)
    where
      at : (b : Bool) {z : ℤ} → (z ≡ pos 0) ⊎ (z ≡ pos 1) → (only b z ≡ pos 0) ⊎ (only b z ≡ pos 1)
      at true (inl e) = inl (only_true _ refl ∙ e)
      at true (inr e) = inr (only_true _ refl ∙ e)
      at false e = inl (only_false _ refl)

  -- A node owns q where its term is 1.
  owns_at : {i : ℕ} → i < length m.nodes → crossings_at i ≡ pos 1 → OwnsAt m q i
  owns_at {i} l e = at (cases_Bool (live (node m i)))
    where
      at : (live (node m i) ≡ true) ⊎ (live (node m i) ≡ false) → OwnsAt m q i
      at (inl t) = record { is_live = record { used = l; lives = t }; owns = sym (only_true _ t) ∙ e }
      at (inr t) = absurd (let z = sym (only_false _ t) ∙ e in omega (arith, ints))

  pub owner : (i : ℕ) × Owner m q i
  owner =
      let (i, l, e, once) =
      one_term (length m.nodes) crossings_at zero_or_one
      (sum_round s (crossing q) (λ a b. crossing_anti q b a) ∙ border_crossings w) in (
        i,
        record {
          owner = owns_at l e;
          only = λ j o. once j o.is_live.used (only_true _ o.is_live.lives ∙ o.owns);
        },
      )
