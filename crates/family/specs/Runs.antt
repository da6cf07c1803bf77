-- Runs of calls: the history of a family, and the law that spans it.
use Rattle.std.specs.Prelude.{◌≡◌, Bool, true, false, List, [], ◌∷◌, ◌++◌}
use Rattle.plane.specs.declared.position.Position.{Position}
use Rattle.plane.specs.Measures.{Heights}
use Rattle.mesh.specs.Lists.{in_use}
use Rattle.mesh.specs.Placing.{tree}
use Rattle.mesh.specs.Tree.{corners}
use Rattle.mesh.specs.declared.tables.Tables.{Tables}
use Rattle.mesh_laws.specs.Laws.{Placeable, Lawful}
use Rattle.family.specs.Calls.{Deed, Outcome, release, reopen, place, load, ask, Replies, gains}

-- A call and what it answered.
pub record Event : Type 0 where
  pub deed : Deed
  pub outcome : Outcome

-- A family is a draft or a face.
pub data Stage : Type 0 where
  draft : Stage
  face : Stage

-- A draft allows placing, loading and releasing; a face allows questions and reopening.
abbrev pub allows : Stage → Deed → Bool
allows draft release = true
allows draft reopen = false
allows draft (place p) = true
allows draft (load bytes) = true
allows draft (ask q) = false
allows face release = false
allows face reopen = true
allows face (place p) = false
allows face (load bytes) = false
allows face (ask q) = true

-- A release makes it a face, a reopening a draft; other calls leave it what it is.
abbrev pub next_stage : Deed → Stage → Stage
next_stage release s = face
next_stage reopen s = draft
next_stage (place p) s = s
next_stage (load bytes) s = s
next_stage (ask q) s = s

-- What it is after a history that began with a draft, the newest event last.
abbrev pub stage_from : Stage → List Event → Stage
stage_from s [] = s
stage_from s (e ∷ es) = stage_from (next_stage e.deed s) es

-- The placed masters after a history: the position of each accepted placing and those in the records of each accepted load, in
-- the order of the calls.
abbrev pub masters_after : List Event → List Position
masters_after [] = []
masters_after (e ∷ es) = gains e.deed e.outcome ++ masters_after es

-- An event after a history: the call was allowed, and answered by the rules for the family that the history left.
pub record Follows (h : Heights) (before : List Event) (e : Event) : Type 0 where
  pub allowed : allows (stage_from draft before) e.deed ≡ true
  pub replied : Replies h (masters_after before) e.deed e.outcome

-- The law of a family with the heights h: what holds after a history of calls on a fresh draft, when it is at the stage s with the tables t.
pub record Lived (h : Heights) (history : List Event) (s : Stage) (t : Tables) : Type 0 where
  -- each call found what those before it left, and was answered or refused by the rules for that
  pub each : (before : List Event) (e : Event) (after : List Event) → history ≡ before ++ e ∷ after → Follows h before e
  pub stage : s ≡ stage_from draft history
  -- the masters are the corners and those that the calls added, in their order; they could be placed one after the other
  pub masters : (in_use t).masters ≡ corners ++ masters_after history
  pub placeable : Placeable (masters_after history)
  -- the nodes, with all their entries, are those that placing these masters makes of a fresh tree
  pub nodes : (in_use t).nodes ≡ (tree h (masters_after history)).nodes
  -- owners, least spreads, empty rings, the walk, own places and the rest
  pub laws : Lawful h (in_use t)
