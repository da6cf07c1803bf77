-- What a run of calls of the code promises.
use Rattle.std.specs.Prelude.{◌≡◌, ℕ, ◌<◌, ◌≤◌, false, List, [], ◌∷◌, ◌++◌, length, take, drop, slice_index_or}
use Rattle.plane.specs.Measures.{Heights}
use Rattle.family.specs.declared.call.Call.{Call}
use Rattle.family.specs.declared.call.Call.TheVariants.{Release}
use Rattle.family.specs.declared.family.Family.{Family}
use Rattle.family.specs.Outcomes.{CallAnswer, answer_outcome}
use Rattle.family.specs.Runs.{Event, Stage, allows, Lived}
use Rattle.family.specs.Standing.{stage_of, measure_of, tables_of, deed_of}

-- Calls and their answers as events, as far as both go.
abbrev pub events : List Call → List CallAnswer → List Event
events [] answers = []
events (c ∷ calls) [] = []
events (c ∷ calls) (a ∷ answers) = record { deed = deed_of c; outcome = answer_outcome a } ∷ events calls answers

-- The answers of n calls stand in the first places of a buffer, which held `places` before; the family is now at the stage s.
pub record Stopped (calls : List Call) (places answers : List CallAnswer) (s : Stage) (n : ℕ) : Type 0 where
  -- it stopped at the end of the calls, at the end of the buffer, or at a call that is not allowed
  pub in_calls : n ≤ length calls
  pub in_buffer : n ≤ length places
  pub stops : n < length calls → n < length places → allows s (deed_of (slice_index_or calls n Release)) ≡ false
  -- later places are left alone
  pub rest : drop n answers ≡ drop n places

-- The first n of the calls were performed.
pub record Ran {M : Type 0} (heights : M → Heights) (before : Family M) (calls : List Call) (places answers : List CallAnswer)
    (after : Family M) (n : ℕ) : Type 0 where
  pub stopped : Stopped calls places answers (stage_of after) n
  pub measure : measure_of after ≡ measure_of before
  -- it extends every history that the family had
  pub extends : (history : List Event) → Lived (heights (measure_of before)) history (stage_of before) (tables_of before) →
      Lived (heights (measure_of before)) (history ++ events (take n calls) (take n answers)) (stage_of after) (tables_of after)
