-- A run after n calls: their answers stand in the buffer, and every history is extended by them.
use Rattle.std.proofs.Common.{◌≡◌, ℕ, ◌+◌, ◌<◌, ◌≤◌, List, [], ◌∷◌, ◌++◌, length, get_or, take, drop, set, Some, None, Option, sym, refl, ap, ◌∙◌, subst, append_assoc, arith, length-set}
use Rattle.std.proofs.lemmas.List.{take_more, take_more_set, drop-set-lt, drop-drop, length-take-le}
use Rattle.plane.specs.Measures.{Heights, Supported}
use Rattle.family.specs.declared.call.Call.{Call}
use Rattle.family.specs.declared.call.Call.TheVariants.{Release}
use Rattle.family.specs.declared.family.Family.{Family}
use Rattle.family.specs.Calls.{Deed, Stepped}
use Rattle.family.specs.Outcomes.{CallAnswer, answer_outcome}
use Rattle.family.specs.Performing.{Performed, Answered, Extends}
use Rattle.family.specs.Running.{events, Ran}
use Rattle.family.specs.Runs.{Event, Lived}
use Rattle.family.specs.Standing.{stage_of, measure_of, tables_of, deed_of}
use Rattle.family.proofs.Histories.{lived_more}

-- One call and its answer more.
events_more : (calls : List Call) (answers : List CallAnswer) (c : Call) (a : CallAnswer) → length calls ≡ length answers →
    events (calls ++ c ∷ []) (answers ++ a ∷ []) ≡ events calls answers ++ record { deed = deed_of c; outcome = answer_outcome a } ∷ []
events_more [] [] c a e = refl
events_more [] (b ∷ answers) c a e = absurd (omega arith)
events_more (d ∷ calls) [] c a e = absurd (omega arith)
events_more (d ∷ calls) (b ∷ answers) c a e =
    ap (λ es. record { deed = deed_of d; outcome = answer_outcome b } ∷ es) (events_more calls answers c a (omega arith))

-- One performed call, on a family that is known as `same`.
module _ {M : Type 0} (heights : M → Heights) (deed : Deed) (after : Family M) where
  pub extended : (before same : Family M) (o : Option CallAnswer) → before ≡ same → Supported (heights (measure_of same)) →
      Answered heights same deed o after → Extends heights before deed o after
  extended before same o e law p = rw e (of_same o p)
    where
      of_same : (o : Option CallAnswer) → Answered heights same deed o after → Extends heights same deed o after
      of_same None b = tt
      of_same (Some a) p = λ history l. lived_more law l p.allowed p.stage p.steps

module _ {M : Type 0} (heights : M → Heights) (before : Family M) (calls : List Call) (places : List CallAnswer) where
  -- The first n calls are performed.
  pub record Running (answers : List CallAnswer) (now : Family M) (n : ℕ) : Type 0 where
    pub size : length answers ≡ length places
    pub rest : drop n answers ≡ drop n places
    pub measure : measure_of now ≡ measure_of before
    pub extends : (history : List Event) → Lived (heights (measure_of before)) history (stage_of before) (tables_of before) →
        Lived (heights (measure_of before)) (history ++ events (take n calls) (take n answers)) (stage_of now) (tables_of now)

  module _ {answers : List CallAnswer} {now : Family M} {n : ℕ} (r : Running answers now n) where
    module _ (law : Supported (heights (measure_of before))) (a : CallAnswer) (next : Family M) (in_calls : n < length calls)
        (in_buffer : n < length answers) (p : Performed heights now (deed_of (get_or calls n Release)) a next) where
      event : Event
      event = record { deed = deed_of (get_or calls n Release); outcome = answer_outcome a }

      more : events (take (n + 1) calls) (take (n + 1) (set answers n a)) ≡ events (take n calls) (take n answers) ++ event ∷ []
      unfolding event
      more =
          let asked = take_more calls n Release in_calls in
          let written = take_more_set answers n a in_buffer in
          let same = length-take-le n calls (omega arith) ∙ sym (length-take-le n answers (omega arith)) in
          rw (asked, written) (events_more (take n calls) (take n answers) (get_or calls n Release) a same)

      pub running_more : Running (set answers n a) next (n + 1)
      unfolding event
      running_more =
          record {
            size = simp length-set r.size;
            rest = drop-set-lt (n + 1) answers n a (omega arith) ∙ sym (drop-drop 1 n answers) ∙ ap (drop 1) r.rest ∙ drop-drop 1 n places;
            measure = p.measure ∙ r.measure;
            extends = λ history l.
                let step = subst (λ m. Stepped (heights m) (tables_of now) event.deed event.outcome (tables_of next)) r.measure p.steps in
                let then = lived_more law (r.extends history l) p.allowed p.stage step in
                rw (more, ← append_assoc history (events (take n calls) (take n answers)) (event ∷ [])) then;
          }

    -- It stops at the end.
    pub ran_all : n ≤ length calls → n ≤ length places → (n < length calls → n < length places → ⊥) → Ran heights before calls places answers now n
    ran_all i j end =
        record {
          stopped = record { in_calls = i; in_buffer = j; stops = λ k l. absurd (end k l); rest = r.rest };
          measure = r.measure;
          extends = r.extends;
        }

-- A run on a fresh draft has the law without a premise.
pub ran_fresh : {M : Type 0} (heights : M → Heights) (measure : M) (before : Family M) (calls : List Call) (places answers : List CallAnswer)
    (after : Family M) (n : ℕ) → measure_of before ≡ measure → Lived (heights measure) [] (stage_of before) (tables_of before) →
    Ran heights before calls places answers after n →
    Lived (heights measure) (events (take n calls) (take n answers)) (stage_of after) (tables_of after)
ran_fresh heights measure before calls places answers after n same fresh ran =
    subst (λ m. Lived (heights m) (events (take n calls) (take n answers)) (stage_of after) (tables_of after)) same
    (ran.extends [] (subst (λ m. Lived (heights m) [] (stage_of before) (tables_of before)) (sym same) fresh))
