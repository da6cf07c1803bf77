-- Placing the records of a sheet one by one.
use Rattle.std.specs.Prelude.{◌≡◌, ℕ, List, ◌++◌, None, Option}
use Rattle.plane.specs.declared.position.Position.{Position}
use Rattle.plane.specs.Measures.{Heights}
use Rattle.plane.specs.Refusal.{Refusal}
use Rattle.mesh.specs.declared.tables.Tables.{Tables}
use Rattle.family.specs.declared.fault.LoadFault.{LoadFault}
use Rattle.family.specs.declared.fault.LoadFault.TheVariants.{HasMasters, Record}
use Rattle.family.specs.Calls.{Made}
use Rattle.family.specs.Loading.{records, records_refused}

-- All records were placed, or one was refused so.
pub record TookAll (h : Heights) (before : Tables) (bytes : List ℕ) (o : Option Refusal) (after : Tables) : Type 0 where
  pub answered : (ps : List Position) → Made h ps before → records_refused h ps 0 (records bytes) ≡ o
  pub all : o ≡ None → (ps : List Position) → Made h ps before → Made h (ps ++ records bytes) after

-- What a refused load leaves: a draft with placed masters is untouched, and after a bad record the draft is fresh again.
abbrev pub Leaves : LoadFault → Type 0 → Type 0 → Type 0
Leaves HasMasters untouched renewed = untouched
Leaves (Record r) untouched renewed = renewed
