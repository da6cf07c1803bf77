-- A history goes on: where the law held before an allowed call, it holds after it.
use Rattle.std.proofs.Common.{◌≡◌, true, List, [], ◌∷◌, ◌++◌, length, sym, refl, ap, ◌∙◌, subst, append_assoc, arith}
use Rattle.std.proofs.lemmas.List.{append-nil, length-append, same_from_push}
use Rattle.plane.specs.Measures.{Heights, Supported}
use Rattle.mesh.specs.declared.tables.Tables.{Tables}
use Rattle.mesh_laws.proofs.Families.{laws}
use Rattle.mesh_laws.proofs.Trees.{by_last, tree_masters}
use Rattle.family.specs.Calls.{Deed, Outcome, Made, Stepped, gains}
use Rattle.family.specs.Runs.{Event, Stage, draft, allows, next_stage, stage_from, masters_after, Follows, Lived}

pub masters_append : (es fs : List Event) → masters_after (es ++ fs) ≡ masters_after es ++ masters_after fs
masters_append [] fs = refl
masters_append (e ∷ es) fs =
    ap (λ ps. gains e.deed e.outcome ++ ps) (masters_append es fs) ∙ sym (append_assoc (gains e.deed e.outcome) _ _)

masters_more : (es : List Event) (e : Event) → masters_after (es ++ e ∷ []) ≡ masters_after es ++ gains e.deed e.outcome
masters_more es e =
    masters_append es (e ∷ []) ∙ ap (λ ps. masters_after es ++ ps) (append-nil (gains e.deed e.outcome))

stage_more : (s : Stage) (es : List Event) (e : Event) → stage_from s (es ++ e ∷ []) ≡ next_stage e.deed (stage_from s es)
stage_more s [] e = refl
stage_more s (f ∷ es) e = stage_more (next_stage f.deed s) es e

-- The tables of a history hold its family,
pub lived_made : {h : Heights} {es : List Event} {s : Stage} {t : Tables} → Lived h es s t → Made h (masters_after es) t
lived_made {h} {es} l =
    record {
      placeable = l.placeable;
      tree_is = λ i. record { masters = (l.masters ∙ sym (tree_masters h (masters_after es))) i; nodes = l.nodes i };
    }

-- and tables that hold the family of its masters keep the law.
made_lived : {h : Heights} → Supported h → {es : List Event} {s : Stage} {t : Tables} → Made h (masters_after es) t →
    s ≡ stage_from draft es →
    ((before : List Event) (e : Event) (after : List Event) → es ≡ before ++ e ∷ after → Follows h before e) → Lived h es s t
made_lived {h} law {es} g stage each =
    record {
      each = each;
      stage = stage;
      masters = ap (λ m. m.masters) g.tree_is ∙ tree_masters h (masters_after es);
      placeable = g.placeable;
      nodes = ap (λ m. m.nodes) g.tree_is;
      laws = rw g.tree_is (laws h law (masters_after es) g.placeable);
    }

-- A fresh draft has lived through nothing.
pub lived_fresh : {h : Heights} → Supported h → {t : Tables} → Made h [] t → Lived h [] draft t
lived_fresh law g = made_lived law g refl (λ before e after eq. absurd (never before e after eq))
  where
    never : (before : List Event) (e : Event) (after : List Event) → [] ≡ before ++ e ∷ after → ⊥
    never before e after eq = omega (arith, ap length eq, length-append before (e ∷ after))

-- In a history with one event more, an event is that one, or one of those before.
module _ {h : Heights} (es : List Event) (new : Event) (each : (before : List Event) (e : Event) (after : List Event) →
    es ≡ before ++ e ∷ after → Follows h before e) (newest : Follows h es new) where
  pub each_more : (before : List Event) (e : Event) (after : List Event) → es ++ new ∷ [] ≡ before ++ e ∷ after →
      Follows h before e
  each_more before e =
      by_last (λ after. es ++ new ∷ [] ≡ before ++ e ∷ after → Follows h before e)
      (λ eq.
      let same = same_from_push es before new e eq in
      rw (← same.0, ← same.1) newest)
      (λ after last ih eq.
      let same = same_from_push es (before ++ e ∷ after) new last (eq ∙ sym (append_assoc before (e ∷ after) (last ∷ []))) in
      each before e after same.0)

pub lived_more : {h : Heights} → Supported h → {es : List Event} {s s' : Stage} {t t' : Tables} {d : Deed} {o : Outcome} → Lived h es s t →
    allows s d ≡ true → s' ≡ next_stage d s → Stepped h t d o t' →
    Lived h (es ++ record { deed = d; outcome = o } ∷ []) s' t'
lived_more {h} law {es} {s} {s'} {t} {t'} {d} {o} l allowed stage step =
    let e : Event = record { deed = d; outcome = o } in
    let made_t = lived_made l in
    made_lived law (rw (masters_more es e) (step.kept (masters_after es) made_t))
    (stage ∙ ap (next_stage d) l.stage ∙ sym (stage_more draft es e))
    (each_more es e l.each
    (record { allowed = subst (λ x. allows x d ≡ true) l.stage allowed; replied = step.replied (masters_after es) made_t }))
