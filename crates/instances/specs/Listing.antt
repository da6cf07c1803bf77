-- The text that the program prints.
use Rattle.std.specs.Prelude.{ℕ, List, [], ◌++◌, Some, None, codes, decimal, Option}
use Rattle.plane.specs.Refusal.{Refusal}

-- What is said of a sheet: nothing where it is accepted, else one line with the refusal's number.
abbrev pub report_text : Option Refusal → List ℕ
report_text None = []
report_text (Some refusal) = codes "sheet refused " ++ (decimal refusal.number ++ codes "\n")
