-- Tables that hold a family: fresh ones do, and placing is a step.
use Rattle.std.proofs.Common.{◌≡◌, ℕ, zero, suc, ◌+◌, ◌<◌, ◌≤◌, false, ◌⊎◌, List, [], ◌∷◌, ◌++◌, length, get_or, is_ok, IfOk, None, Ok, Err, Result, sym, refl, ap, ◌∙◌, inl, inr, arith}
use Rattle.std.proofs.lemmas.List.{append-nil, length-append, get_or-append-add, get_or_past}
use Rattle.std.proofs.lemmas.Bool.{cases_lt}
use Rattle.plane.specs.declared.position.Position.{Position}
use Rattle.plane.specs.Measures.{Heights}
use Rattle.plane.specs.Plane.{InPlane, Within}
use Rattle.plane.specs.Refusal.{first, refused}
use Rattle.mesh.specs.Lists.{in_use}
use Rattle.mesh.specs.Opened.{Placed}
use Rattle.mesh.specs.Placing.{Housed, placed, tree}
use Rattle.mesh.specs.Refusals.{place_refusal, place_rows}
use Rattle.mesh.specs.Tree.{corner, corners, fresh}
use Rattle.mesh.specs.declared.fault.PlaceFault.{PlaceFault}
use Rattle.mesh.specs.declared.tables.Tables.{Tables}
use Rattle.mesh_laws.specs.Laws.{Placeable}
use Rattle.mesh_laws.proofs.Trees.{tree_more, tree_masters}
use Rattle.family.specs.Calls as call
use Rattle.family.specs.Calls.{Made, Stepped, Outcome, Replies, gains, unless_refused}
use Rattle.family.specs.Loading.{place_refused}
use Rattle.family.specs.Outcomes.{place_outcome}
use Rattle.family.proofs.Placeables.{accepted_within, accepted_free, placeable_more}

pub made_fresh : (h : Heights) (t : Tables) → in_use t ≡ fresh h → Made h [] t
unfolding tree
made_fresh h t e =
    record { placeable = record { inside = λ k l. absurd (omega arith); apart = λ j k i l. absurd (omega arith) }; tree_is = e }

module _ {h : Heights} {ps : List Position} {t : Tables} (made_t : Made h ps t) where
  pub made_masters : (in_use t).masters ≡ corners ++ ps
  made_masters = ap (λ m. m.masters) made_t.tree_is ∙ tree_masters h ps

  pub made_count : length (in_use t).masters ≡ 4 + length ps
  made_count = ap length made_masters ∙ length-append corners ps

  -- All masters stand in the plane.
  pub made_housed : Housed (in_use t).masters
  made_housed = rw made_masters each
    where
      corner_in : (k : ℕ) → InPlane (get_or corners k (corner 0 0))
      corner_in zero = record { u_in = omega arith; v_in = omega arith }
      corner_in (suc zero) = record { u_in = omega arith; v_in = omega arith }
      corner_in (suc (suc zero)) = record { u_in = omega arith; v_in = omega arith }
      corner_in (suc (suc (suc zero))) = record { u_in = omega arith; v_in = omega arith }
      corner_in (suc (suc (suc (suc k)))) = record { u_in = omega arith; v_in = omega arith }

      within_in : {q : Position} → Within q → InPlane q
      within_in w = omega arith

      placed_in : (k : ℕ) → InPlane (get_or ps k (corner 0 0))
      placed_in k = by (cases_lt k (length ps))
        where
          by : (k < length ps) ⊎ (length ps ≤ k) → InPlane (get_or ps k (corner 0 0))
          by (inl l) = within_in (made_t.placeable.inside k l)
          by (inr l) = rw (get_or_past ps k (corner 0 0) l) (corner_in 0)

      each : Housed (corners ++ ps)
      each zero = corner_in 0
      each (suc zero) = corner_in 1
      each (suc (suc zero)) = corner_in 2
      each (suc (suc (suc zero))) = corner_in 3
      each (suc (suc (suc (suc k)))) = placed_in k

-- An accepted placing.
module _ {h : Heights} {ps : List Position} {t : Tables} (made_t : Made h ps t) (p : Position)
    (accepted : place_refused h ps p ≡ None) where
  placeable_then : Placeable (ps ++ p ∷ [])
  placeable_then =
      placeable_more ps p made_t.placeable (accepted_within h (tree h ps) p accepted)
      (λ k l e.
      let masters = tree_masters h ps in
      let further : 4 + k < length (tree h ps).masters = omega (arith, ap length masters ∙ length-append corners ps) in
      accepted_free h (tree h ps) p accepted (4 + k) further
      (ap (λ ms. get_or ms (4 + k) (corner 0 0)) masters ∙ get_or-append-add corners ps k (corner 0 0) ∙ e))

  pub made_placed : (t' : Tables) → in_use t' ≡ placed h (in_use t) p → Made h (ps ++ p ∷ []) t'
  made_placed t' e =
      record {
        placeable = placeable_then;
        tree_is = e ∙ ap (λ m. placed h m p) made_t.tree_is ∙ sym (tree_more h ps p);
      }

-- Placing is a step. Its answer speaks of the lists in use, and what it refuses leaves the tables.
module _ (h : Heights) (t : Tables) (p : Position) (t' : Tables) where
  pub placing_steps : (r : Result ℕ PlaceFault) →
      (Housed (in_use t).masters → refused place_refusal r ≡ first (place_rows h (in_use t) p)) →
      IfOk r (λ n. Housed (in_use t).masters → Placed h (in_use t) p n (in_use t')) → (is_ok r ≡ false → t' ≡ t) →
      Stepped h t (call.place p) (place_outcome r) t'
  placing_steps (Ok n) refuses places keeps = record { replied = replied; kept = kept }
    where
      accepted : (ps : List Position) → Made h ps t → place_refused h ps p ≡ None
      accepted ps g = sym (refuses (made_housed g) ∙ ap (λ m. first (place_rows h m p)) g.tree_is)

      replied : (ps : List Position) → Made h ps t → Replies h ps (call.place p) (call.placed n)
      replied ps g =
          let number = (places (made_housed g)).number ∙ made_count g in
          rw (accepted ps g) (ap call.placed number)

      kept : (ps : List Position) → Made h ps t → Made h (ps ++ p ∷ []) t'
      kept ps g = made_placed g p (accepted ps g) t' (places (made_housed g)).tree
  placing_steps (Err e) refuses places keeps = record { replied = replied; kept = kept }
    where
      replied : (ps : List Position) → Made h ps t → Replies h ps (call.place p) (call.refused (place_refusal e))
      replied ps g =
          let why = refuses (made_housed g) ∙ ap (λ m. first (place_rows h m p)) g.tree_is in
          rw (← why) refl

      kept : (ps : List Position) → Made h ps t → Made h (ps ++ []) t'
      kept ps g = rw (append-nil ps, keeps refl) g
