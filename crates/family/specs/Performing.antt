-- What performing one call of the code promises.
use Rattle.std.specs.Prelude.{◌≡◌, true, false, List, [], ◌∷◌, ◌++◌, Some, None, Option}
use Rattle.plane.specs.Measures.{Heights}
use Rattle.family.specs.declared.family.Family.{Family}
use Rattle.family.specs.Calls.{Deed, Stepped}
use Rattle.family.specs.Outcomes.{CallAnswer, answer_outcome}
use Rattle.family.specs.Runs.{Event, allows, next_stage, Lived}
use Rattle.family.specs.Standing.{stage_of, measure_of, tables_of}

-- The call was allowed: it is a step of the family, and its measure is kept.
pub record Performed {M : Type 0} (heights : M → Heights) (before : Family M) (deed : Deed) (a : CallAnswer) (after : Family M) : Type 0 where
  pub allowed : allows (stage_of before) deed ≡ true
  pub stage : stage_of after ≡ next_stage deed (stage_of before)
  pub measure : measure_of after ≡ measure_of before
  pub steps : Stepped (heights (measure_of before)) (tables_of before) deed (answer_outcome a) (tables_of after)

-- The call is not allowed: nothing changed.
pub record Barred {M : Type 0} (before : Family M) (deed : Deed) (after : Family M) : Type 0 where
  pub not_allowed : allows (stage_of before) deed ≡ false
  pub same : after ≡ before

abbrev pub Answered : {M : Type 0} → (M → Heights) → Family M → Deed → Option CallAnswer → Family M → Type 0
Answered heights before deed None after = Barred before deed after
Answered heights before deed (Some a) after = Performed heights before deed a after

-- An allowed call extends every history that the family had.
abbrev pub Extends : {M : Type 0} → (M → Heights) → Family M → Deed → Option CallAnswer → Family M → Type 0
Extends heights before deed None after = Unit {0}
Extends heights before deed (Some a) after =
    (history : List Event) → Lived (heights (measure_of before)) history (stage_of before) (tables_of before) →
    Lived (heights (measure_of before)) (history ++ record { deed = deed; outcome = answer_outcome a } ∷ []) (stage_of after)
    (tables_of after)
