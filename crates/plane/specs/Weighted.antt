-- The weighted measure: a quadratic form in u and v with three whole numbers.
use Rattle.std.specs.Prelude.{Bool, not, ◌&&◌, List, [], ◌∷◌, ℤ, pos, negsuc, ◌+ℤ◌, ◌*ℤ◌, int_le, int_lt}
use Rattle.plane.specs.declared.measure.MeasureFault.{MeasureFault}
use Rattle.plane.specs.declared.measure.MeasureFault.TheVariants.{Weights}
use Rattle.plane.specs.Measures.{Heights, only_in_plane}
use Rattle.plane.specs.Refusal.{Refusal, Row}

-- The rule of its numbers: A and B from 1 to 64, C from −63 to 63, and C·C less than A·B.
abbrev pub from_to : ℤ → ℤ → ℤ → Bool
from_to low high z = int_le low z && int_le z high

unfoldable pub keeps_rule : ℤ → ℤ → ℤ → Bool
keeps_rule a b c =
    from_to (pos 1) (pos 64) a && (from_to (pos 1) (pos 64) b && (from_to (negsuc 62) (pos 63) c && int_lt (c *ℤ c) (a *ℤ b)))

-- A·u² + B·v² + 2C·u·v
abbrev pub form : ℤ → ℤ → ℤ → ℤ → ℤ → ℤ
form a b c u v = a *ℤ (u *ℤ u) +ℤ b *ℤ (v *ℤ v) +ℤ pos 2 *ℤ (c *ℤ (u *ℤ v))

-- Its height.
abbrev pub weighted_height : ℤ → ℤ → ℤ → Heights
weighted_height a b c = only_in_plane (λ p. form a b c (pos p.u) (pos p.v))

-- What the case of MeasureFault says, and the row of making a weighted measure.
abbrev pub measure_refusal : MeasureFault → Refusal
measure_refusal Weights = record { number = 1; names = [] }

abbrev pub weighted_rows : ℤ → ℤ → ℤ → List Row
weighted_rows a b c = record { applies = not (keeps_rule a b c); answer = measure_refusal Weights } ∷ []
