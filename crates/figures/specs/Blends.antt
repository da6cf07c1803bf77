-- Blending: the mean of three masters' numbers by their weights, rounded to the nearest whole number, a half upward.
use Rattle.std.specs.Prelude.{◌≡◌, ℕ, ◌*◌, ◌/◌, ◌<◌, not, List, [], ◌∷◌, length, ℤ, pos, negsuc, ◌+ℤ◌, ◌*ℤ◌, ◌≤ℤ◌, ◌==◌, slice_index, slice_index_or}
use Rattle.std.specs.Int.{int_min, int_max}
use Rattle.plane.specs.Plane.{Size}
use Rattle.plane.specs.Refusal.{Refusal, Row}
use Rattle.figures.specs.declared.fault.BlendFault.{BlendFault}
use Rattle.figures.specs.declared.fault.BlendFault.TheVariants.{Figures}
use Rattle.figures.specs.declared.mix.Mix.{Mix}

-- The greatest whole number that is not above z / d: of −1 to −d it is −1, of the next d numbers down it is −2, and so on.
abbrev pub floor : ℤ → ℕ → ℤ
floor (pos n) d = pos (n / d)
floor (negsuc n) d = negsuc (n / d)

-- Three numbers, none further than 65,535 from 0.
abbrev pub Small : List ℤ → Type 0
Small numbers = (i : ℕ) → i < 3 → Size (slice_index_or numbers i (pos 0)) 65535

-- N: each of three numbers times the weight of its master.
abbrev pub weighted_sum : Mix → (ℕ → ℤ) → ℤ
weighted_sum mix number = weighted 0 +ℤ weighted 1 +ℤ weighted 2
  where
    weighted : ℕ → ℤ
    weighted i = pos (slice_index mix.weights i) *ℤ number i

-- The floor of (2N + T) / (2T), where T is the total.
unfoldable pub blended_number : Mix → (ℕ → ℤ) → ℤ
blended_number mix number = floor (pos 2 *ℤ weighted_sum mix number +ℤ pos mix.total) (2 * mix.total)

-- Not below the least of three numbers, nor above the greatest.
pub record Between (number : ℕ → ℤ) (z : ℤ) : Type 0 where
  pub not_below : int_min (number 0) (int_min (number 1) (number 2)) ≤ℤ z
  pub not_above : z ≤ℤ int_max (number 0) (int_max (number 1) (number 2))

-- The number that the mix's master i has in a row of figures, one for each master of the family. No master of a mix is
-- past the end of such a row, so what would be read there does not count.
abbrev pub mixed : {F : Type 0} → (F → ℤ) → List F → F → Mix → ℕ → ℤ
mixed number row past mix i = number (slice_index_or row (slice_index mix.masters i) past)

-- What is promised of a blend's number z. A row is read with a default for what is past its end: each promise holds for
-- every default.
module _ {F : Type 0} (number : F → ℤ) (row : List F) (mix : Mix) (z : ℤ) where
  -- It is the blended number of the three masters.
  abbrev pub IsBlend : Type 0
  IsBlend = (past : F) → z ≡ blended_number mix (mixed number row past mix)

  -- It lies between theirs.
  abbrev pub LiesBetween : Type 0
  LiesBetween = (past : F) → Between (mixed number row past mix) z

  -- Where one master has the whole weight, it is that master's.
  abbrev pub IsTheOne : Type 0
  IsTheOne =
      (past : F) (i : ℕ) → i < 3 → slice_index mix.weights i ≡ mix.total → z ≡ mixed number row past mix i

  -- Where all figures of the row have the same number, it is that number.
  abbrev pub IsTheSame : Type 0
  IsTheSame = (past : F) (n : ℤ) → ((k : ℕ) → k < length row → number (slice_index_or row k past) ≡ n) → z ≡ n

-- What the case of BlendFault says, and the row of blending.
abbrev pub blend_refusal : BlendFault → Refusal
blend_refusal Figures = record { number = 16; names = [] }

abbrev pub blend_rows : ℕ → ℕ → List Row
blend_rows figures masters = record { applies = not (figures == masters); answer = blend_refusal Figures } ∷ []
