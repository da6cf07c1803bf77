-- Loading a sheet: its masters are placed in order, until one is refused.
use Rattle.std.specs.Prelude.{ℕ, suc, cond, List, [], ◌∷◌, ◌++◌, map, length, Some, None, Option, ◌==◌}
use Rattle.std.specs.List.{range_with_len}
use Rattle.plane.specs.declared.position.Position.{Position}
use Rattle.plane.specs.Measures.{Heights}
use Rattle.plane.specs.Refusal.{Refusal, first}
use Rattle.sheet.specs.Layout.{count, master_record}
use Rattle.sheet.specs.Refusals.{sheet_refused}
use Rattle.sheet.specs.declared.section.Section.TheVariants.{Masters}
use Rattle.mesh.specs.Placing.{tree}
use Rattle.mesh.specs.Refusals.{place_rows}
use Rattle.family.specs.declared.fault.LoadFault.TheVariants.{HasMasters}
use Rattle.family.specs.Refusals.{record_byte, bad_record, load_refusal}

-- The positions in the master records of a sheet, in order.
abbrev pub records : List ℕ → List Position
records bytes = map (master_record bytes) (range_with_len 0 (count bytes Masters))

-- Why placing p in the family of ps is refused, if it is.
abbrev pub place_refused : Heights → List Position → Position → Option Refusal
place_refused h ps p = first (place_rows h (tree h ps) p)

-- The first of two refusals, where there is one.
abbrev pub or_else : Option Refusal → Option Refusal → Option Refusal
or_else (Some r) o = Some r
or_else None o = o

-- The refusal of master record k, whose placing was refused.
abbrev pub at_record : ℕ → Option Refusal → Option Refusal
at_record k None = None
at_record k (Some inner) = Some (bad_record k (record_byte k) inner)

-- Placing the records from number k on, after the masters ps: the refusal of the first that is refused.
abbrev pub records_refused : Heights → List Position → ℕ → List Position → Option Refusal
records_refused h ps k [] = None
records_refused h ps k (q ∷ qs) = or_else (at_record k (place_refused h ps q)) (records_refused h (ps ++ q ∷ []) (suc k) qs)

-- Why a sheet is not loaded into the family of ps, if it is not: the bytes are no sheet, the family has placed masters, or a record is
-- refused.
abbrev pub load_refused : Heights → List Position → List ℕ → Option Refusal
load_refused h ps bytes =
    or_else (sheet_refused bytes)
    (cond (length ps == 0) (records_refused h [] 0 (records bytes)) (Some (load_refusal HasMasters)))
