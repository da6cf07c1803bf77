-- The fault of a placing, carried into that of a load.
use Rattle.plane.specs.Refusal.{Refusal}
use Rattle.family.specs.declared.fault.BadRecord.{BadRecord}
use Rattle.family.specs.declared.fault.LoadFault.{LoadFault}
use Rattle.family.specs.declared.fault.LoadFault.TheVariants.{Record}
use Rattle.family.specs.Refusals.{record_byte, load_refusal}

abbrev pub carried : BadRecord → LoadFault
carried bad = Record (record { number = bad.number; byte = record_byte bad.number; fault = bad.fault })

-- What a refused record says.
abbrev pub record_refusal : BadRecord → Refusal
record_refusal bad = load_refusal (carried bad)
