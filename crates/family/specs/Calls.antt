-- Calls of a family, and what the rules answer to them. A family is known by its measure's heights and the positions of its placed
-- masters, in their order; its tree is what placing these makes of a fresh one.
use Rattle.std.specs.Prelude.{◌≡◌, ℕ, ◌+◌, List, [], ◌∷◌, ◌++◌, length, Some, None, Option}
use Rattle.plane.specs.declared.position.Position.{Position}
use Rattle.plane.specs.Measures.{Heights}
use Rattle.plane.specs.Plane.{Within}
use Rattle.plane.specs.Refusal.{Refusal}
use Rattle.mesh.specs.Lists.{in_use}
use Rattle.mesh.specs.Owner.{Owner}
use Rattle.mesh.specs.Placing.{tree}
use Rattle.mesh.specs.declared.tables.Tables.{Tables}
use Rattle.mesh_laws.specs.Laws.{Placeable}
use Rattle.family.specs.Loading.{records, place_refused, load_refused}
use Rattle.family.specs.Mixes.{Mixture, mix_at}
use Rattle.family.specs.Refusals.{question_refusal}
use Rattle.family.specs.declared.fault.QuestionFault.TheVariants.{NotInside}

-- A call: a draft is released, a face reopened, a master placed, a sheet loaded by its bytes, a position asked for.
pub data Deed : Type 0 where
  release : Deed
  reopen : Deed
  place : Position → Deed
  load : List ℕ → Deed
  ask : Position → Deed

-- What a call answers.
pub data Outcome : Type 0 where
  done : Outcome
  placed : ℕ → Outcome
  mixed : Mixture → Outcome
  refused : Refusal → Outcome

-- The answer where a refusal may apply.
abbrev pub unless_refused : Option Refusal → Outcome → Outcome
unless_refused (Some r) o = refused r
unless_refused None o = o

-- The answer to a question: a position that is not inside is refused, any other gets the mix of its owner.
pub data Asked (h : Heights) (ps : List Position) (q : Position) : Outcome → Type 0 where
  outside : (Within q → ⊥) → Asked h ps q (refused (question_refusal NotInside))
  owned : Within q → (i : ℕ) → Owner (tree h ps) q i → Asked h ps q (mixed (mix_at (tree h ps) i q))

-- What the rules answer to a call in the family of ps. A placed master gets the next number, after the four corners and ps.
abbrev pub Replies : Heights → List Position → Deed → Outcome → Type 0
Replies h ps release o = o ≡ done
Replies h ps reopen o = o ≡ done
Replies h ps (place p) o = o ≡ unless_refused (place_refused h ps p) (placed (4 + length ps))
Replies h ps (load bytes) o = o ≡ unless_refused (load_refused h ps bytes) done
Replies h ps (ask q) o = Asked h ps q o

-- The masters that a call adds to the family: the position of an accepted placing, those in the records of an accepted load.
abbrev pub gains : Deed → Outcome → List Position
gains release o = []
gains reopen o = []
gains (place p) done = []
gains (place p) (placed n) = p ∷ []
gains (place p) (mixed x) = []
gains (place p) (refused r) = []
gains (load bytes) done = records bytes
gains (load bytes) (placed n) = []
gains (load bytes) (mixed x) = []
gains (load bytes) (refused r) = []
gains (ask q) o = []

-- The tables hold the family of ps: these could be placed one after the other, and the tree is what that makes.
pub record Made (h : Heights) (ps : List Position) (t : Tables) : Type 0 where
  pub placeable : Placeable ps
  pub tree_is : in_use t ≡ tree h ps

-- A step of a family: whatever masters it had, the call was answered by the rules for these, and its masters are now these and those
-- that the call adds.
pub record Stepped (h : Heights) (before : Tables) (deed : Deed) (o : Outcome) (after : Tables) : Type 0 where
  pub replied : (ps : List Position) → Made h ps before → Replies h ps deed o
  pub kept : (ps : List Position) → Made h ps before → Made h (ps ++ gains deed o) after
