-- Numbers that are passed on by their bits. Each is far below 2^63, so its bits mean it.
use Rattle.std.proofs.Common.{◌≡◌, ℕ, ◌^◌, ◌<◌, ℤ, sym, subst, arith, w64, SFits, to_z, of_z}
use Rattle.std.proofs.lemmas.Int.{ints}
use Rattle.plane.specs.Plane.{Size}
use Rattle.figures.specs.Figures.{Range, InRange, Narrow}

abbrev pub passed : ℤ → ℤ
passed z = to_z w64 (of_z w64 z)

pub fits : {z : ℤ} {m : ℕ} → Size z m → m < 2 ^ 63 → SFits w64 z
fits s l = omega (arith, ints)

pub same_number : {z : ℤ} → Size z 65535 → passed z ≡ z
same_number s = omega (arith, ints)

-- A number of a kind of figure.
pub narrow_size : {range : Range} {z : ℤ} → Narrow range → InRange range z → Size z 65535
narrow_size n i = omega (arith, ints)

pub passed_in_range : {range : Range} {z : ℤ} → Narrow range → InRange range z → InRange range (passed z)
passed_in_range {range} n i = subst (λ (x : ℤ). InRange range x) (sym (same_number (narrow_size n i))) i
