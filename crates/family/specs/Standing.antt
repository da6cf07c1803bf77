-- A family of the code: its stage, its measure and its tables; and a call of the code.
use Rattle.mesh.specs.declared.tables.Tables.{Tables}
use Rattle.family.specs.declared.call.Call.{Call}
use Rattle.family.specs.declared.call.Call.TheVariants as code
use Rattle.family.specs.declared.family.Family.{Family}
use Rattle.family.specs.declared.family.Family.TheVariants.{Open, Shut}
use Rattle.family.specs.Calls.{Deed, release, reopen, place, load, ask}
use Rattle.family.specs.Runs.{Stage, draft, face}

abbrev pub stage_of : {M : Type 0} → Family M → Stage
stage_of (Open d) = draft
stage_of (Shut f) = face

abbrev pub measure_of : {M : Type 0} → Family M → M
measure_of (Open d) = d.measure
measure_of (Shut f) = f.measure

abbrev pub tables_of : {M : Type 0} → Family M → Tables
tables_of (Open d) = d.tables
tables_of (Shut f) = f.tables

abbrev pub deed_of : Call → Deed
deed_of code.Release = release
deed_of code.Reopen = reopen
deed_of (code.Place p) = place p
deed_of (code.Load bytes) = load bytes.now
deed_of (code.Ask q) = ask q
