-- The refusals of drafts and faces, and of calls: the number and the named values of each case.
use Rattle.std.specs.Prelude.{ℕ, ◌+◌, ◌*◌, [], ◌∷◌}
use Rattle.plane.specs.Refusal.{Refusal}
use Rattle.sheet.specs.Refusals.{sheet_refusal}
use Rattle.mesh.specs.Refusals.{place_refusal}
use Rattle.family.specs.declared.fault.CallFault.{CallFault}
use Rattle.family.specs.declared.fault.CallFault.TheVariants.{Place, Sheet, Load, Question}
use Rattle.family.specs.declared.fault.LoadFault.{LoadFault}
use Rattle.family.specs.declared.fault.LoadFault.TheVariants.{HasMasters, Record}
use Rattle.family.specs.declared.fault.QuestionFault.{QuestionFault}
use Rattle.family.specs.declared.fault.QuestionFault.TheVariants.{NotInside}

-- The master record k starts at this byte of the sheet.
abbrev pub record_byte : ℕ → ℕ
record_byte k = 22 + 4 * k

-- Refusal 13 names the record, its first byte, and the number of the placing's refusal with all that it names.
abbrev pub bad_record : ℕ → ℕ → Refusal → Refusal
bad_record k byte inner = record { number = 13; names = k ∷ byte ∷ inner.number ∷ inner.names }

-- What each case of LoadFault says, and of QuestionFault.
abbrev pub load_refusal : LoadFault → Refusal
load_refusal HasMasters = record { number = 12; names = [] }
load_refusal (Record r) = bad_record r.number r.byte (place_refusal r.fault)

abbrev pub question_refusal : QuestionFault → Refusal
question_refusal NotInside = record { number = 2; names = [] }

-- A call is refused with the refusal of what it asked for.
abbrev pub call_refusal : CallFault → Refusal
call_refusal (Place e) = place_refusal e
call_refusal (Sheet e) = sheet_refusal e
call_refusal (Load e) = load_refusal e
call_refusal (Question e) = question_refusal e
