-- The walk by sons and stepsons reaches each node of a sound tree whose ring holds the position.
use Rattle.std.proofs.Common.{◌≡◌, ℕ, zero, suc, ◌<◌, ◌≤◌, ◌⊎◌, length, Some, None, Option, refl, inl, inr, arith}
use Rattle.std.proofs.lemmas.Bool.{cases_lt}
use Rattle.plane.specs.declared.position.Position.{Position}
use Rattle.plane.specs.Plane.{InPlane}
use Rattle.plane.specs.Measures.{Heights}
use Rattle.mesh.specs.Owner.{node}
use Rattle.mesh.specs.Reached.{Reached, first, by_son, by_stepson}
use Rattle.mesh.specs.Tree.{Mesh}
use Rattle.mesh_laws.specs.Sound.{HoldsAt, OfStepfather, Descends, Sound}
use Rattle.mesh_laws.proofs.Masters.{inside_holds}

module _ {h : Heights} {m : Mesh} (s : Sound h m) {q : Position} (iq : InPlane q) where
  -- The nodes below n are reached, so what descends from them is.
  descended : {i : ℕ} → i < length m.nodes → Descends h m i → HoldsAt h m q i →
      ((j : ℕ) → j < i → HoldsAt h m q j → Reached h m q j) → Reached h m q i
  descended {i} l d o below = at (node m i).stepfather refl (d.holds q iq o)
    where
      at : (k : Option ℕ) → (node m i).stepfather ≡ k → HoldsAt h m q d.father ⊎ OfStepfather k (HoldsAt h m q) →
          Reached h m q i
      at k e (inl f) = by_son (below d.father d.older f) d.son (inside_holds h m q i o)
      at None e (inr f) = absurd f
      at (Some j) e (inr f) =
          by_stepson (below j (d.step_older j e) f) (record { used = l; beside = e }) (inside_holds h m q i o)

  pub reached_below : (n i : ℕ) → i < n → i < length m.nodes → HoldsAt h m q i → Reached h m q i
  reached_below zero i b l o = absurd (omega arith)
  reached_below (suc n) i b l o = at (cases_lt i 2) (λ j c. reached_below n j (omega arith) (omega arith))
    where
      at : (i < 2) ⊎ (2 ≤ i) → ((j : ℕ) → j < i → HoldsAt h m q j → Reached h m q j) → Reached h m q i
      at (inl c) below = first c (inside_holds h m q i o)
      at (inr c) below = descended l (s.descent i c l) o below

  pub reached : (i : ℕ) → i < length m.nodes → HoldsAt h m q i → Reached h m q i
  reached i = reached_below (suc i) i (omega arith)
