-- Which positions placing accepts: where no row applies, the position is inside and no master stands there.
use Rattle.std.proofs.Common.{◌≡◌, ℕ, zero, suc, ◌+◌, ◌<◌, ◌≤◌, Bool, true, false, cond, ltb, ◌≢◌, ◌⊎◌, List, [], ◌∷◌, ◌++◌, length, get_or, is_some, Some, None, Option, sym, refl, ◌∙◌, inl, inr, arith, ltb-true, eq-eqb}
use borrow.Author.Tests.{both_ways, clash, not-false}
use Rattle.std.proofs.lemmas.List.{get_or_append_left, get_or_push, length_push}
use Rattle.std.proofs.lemmas.Bool.{and_parts, cases_lt}
use Rattle.plane.specs.declared.position.Position.{Position}
use Rattle.plane.specs.Measures.{Heights}
use Rattle.plane.specs.Plane.{Within}
use Rattle.plane.specs.Refusal.{Refusal, first}
use Rattle.mesh.specs.Refusals.{inside, same_position, place_rows}
use Rattle.mesh.specs.Search.{first_at}
use Rattle.mesh.specs.Tree.{Mesh, corner}
use Rattle.mesh_laws.specs.Laws.{Placeable}

-- Where no row applies, the first does not, nor do the others.
no_row : (b : Bool) (r : Refusal) (o : Option Refusal) → cond b (Some r) o ≡ None → (b ≡ false) × (o ≡ None)
no_row true r o e = let z : ◌≡◌ {A = ℕ} 0 1 = cc in absurd (omega arith)
no_row false r o e = (refl, e)

pub inside_within : (p : Position) → inside p ≡ true → Within p
inside_within p e =
    let u = and_parts (ltb 0 p.u) _ e in
    let u' = and_parts (ltb p.u 4096) _ u.1 in
    let v = and_parts (ltb 0 p.v) (ltb p.v 4096) u'.1 in
    record {
      u_above = ltb-true _ _ u.0;
      u_below = ltb-true _ _ u'.0;
      v_above = ltb-true _ _ v.0;
      v_below = ltb-true _ _ v.1;
    }

-- A search that finds nothing has tried all.
none_passes : {X : Type 0} (d : X) (test : X → Bool) (k : ℕ) (xs : List X) → is_some (first_at test k xs) ≡ false →
    (i : ℕ) → i < length xs → test (get_or xs i d) ≡ false
none_passes d test k [] e i l = absurd (omega arith)
none_passes d test k (x ∷ xs) e i l = at (test x) refl e (none_passes d test (suc k) xs) i l
  where
    at : (b : Bool) → test x ≡ b → is_some (cond b (Some k) (first_at test (suc k) xs)) ≡ false →
        (is_some (first_at test (suc k) xs) ≡ false → (i : ℕ) → i < length xs → test (get_or xs i d) ≡ false) → (i : ℕ) →
        i < suc (length xs) → test (get_or (x ∷ xs) i d) ≡ false
    at true f g ih i l = absurd (clash (sym g))
    at false f g ih zero l = f
    at false f g ih (suc i) l = ih g i (omega arith)

same_itself : (p : Position) → same_position p p ≡ true
same_itself p = rw (eq-eqb p.u p.u refl, eq-eqb p.v p.v refl)

-- What an accepted placing shows.
module _ (h : Heights) (m : Mesh) (p : Position) (accepted : first (place_rows h m p) ≡ None) where
  pub accepted_within : Within p
  accepted_within = inside_within p (not-false _ (no_row _ _ _ accepted).0)

  pub accepted_free : (k : ℕ) → k < length m.masters → get_or m.masters k (corner 0 0) ≢ p
  accepted_free k l e =
      let others = (no_row _ _ _ (no_row _ _ _ accepted).1).0 in
      let here = none_passes (corner 0 0) (λ q. same_position q p) 0 m.masters others k l in
      both_ways _ here (rw e (same_itself p))

-- One more placed master.
pub placeable_more : (ps : List Position) (p : Position) → Placeable ps → Within p →
    ((k : ℕ) → k < length ps → get_or ps k (corner 0 0) ≢ p) → Placeable (ps ++ p ∷ [])
placeable_more ps p g w free = record { inside = inside_more; apart = apart_more }
  where
    size : length (ps ++ p ∷ []) ≡ length ps + 1
    size = length_push ps p

    old : (k : ℕ) → k < length ps → get_or (ps ++ p ∷ []) k (corner 0 0) ≡ get_or ps k (corner 0 0)
    old k l = get_or_append_left ps (p ∷ []) (corner 0 0) k l

    last : (k : ℕ) → length ps ≤ k → k < length (ps ++ p ∷ []) → get_or (ps ++ p ∷ []) k (corner 0 0) ≡ p
    last k i l = get_or_push ps p (corner 0 0) k (omega (arith, size))

    inside_more : (k : ℕ) → k < length (ps ++ p ∷ []) → Within (get_or (ps ++ p ∷ []) k (corner 0 0))
    inside_more k l = by (cases_lt k (length ps))
      where
        by : (k < length ps) ⊎ (length ps ≤ k) → Within (get_or (ps ++ p ∷ []) k (corner 0 0))
        by (inl i) = rw (old k i) (g.inside k i)
        by (inr i) = rw (last k i l) w

    apart_more : (j k : ℕ) → j < k → k < length (ps ++ p ∷ []) →
        get_or (ps ++ p ∷ []) j (corner 0 0) ≢ get_or (ps ++ p ∷ []) k (corner 0 0)
    apart_more j k i l e = by (cases_lt k (length ps))
      where
        by : (k < length ps) ⊎ (length ps ≤ k) → ⊥
        by (inl f) = g.apart j k i f (sym (old j (omega arith)) ∙ e ∙ old k f)
        by (inr f) = free j (omega (arith, size)) (sym (old j (omega (arith, size))) ∙ e ∙ last k f l)
