-- One node of a list is changed: the same as writing it into the table, whatever part of the table is looked at.
use Rattle.std.proofs.Common.{◌≡◌, ℕ, zero, suc, ◌<◌, ◌≤◌, List, [], ◌∷◌, length, get_or, take, set, refl, ap, arith}
use Rattle.mesh.specs.declared.node.Node.{Node}
use Rattle.mesh.specs.Placing.{changed}

module _ (f : Node → Node) where
  pub take_changed : (n i : ℕ) (ns : List Node) (d : Node) → i < length ns → take n (set ns i (f (get_or ns i d))) ≡ changed f i (take n ns)
  take_changed n i [] d l = absurd (omega arith)
  take_changed zero zero (x ∷ ns) d l = refl
  take_changed zero (suc i) (x ∷ ns) d l = refl
  take_changed (suc n) zero (x ∷ ns) d l = refl
  take_changed (suc n) (suc i) (x ∷ ns) d l = ap (λ xs. x ∷ xs) (take_changed n i ns d (omega arith))

  -- past the end nothing is
  pub changed_past : (n i : ℕ) (ns : List Node) → length ns ≤ i → changed f i (take n ns) ≡ take n ns
  changed_past zero i ns l = refl
  changed_past (suc n) i [] l = refl
  changed_past (suc n) zero (x ∷ ns) l = absurd (omega arith)
  changed_past (suc n) (suc i) (x ∷ ns) l = ap (λ xs. x ∷ xs) (changed_past n i ns (omega arith))
