-- The laws of a measure for the optical heights.
use Rattle.std.specs.Prelude.{◌≡◌, ◌+◌, ◌<◌, ◌≢◌, pos}
use Rattle.std.proofs.Common.{⊎_elim, arith}
use Rattle.std.proofs.lemmas.Int.{ints}
use Rattle.std.proofs.lemmas.Bool.{cases_lt}
use Rattle.plane.specs.Plane.{Position}
use Rattle.plane.specs.Measures.{Heights, Bounded, Support, Supported}
use Rattle.plane.specs.Optical.{rise, optic, optical_height}
use Rattle.plane.specs.InPlane.{bounded_in_plane, support_in_plane}
use Rattle.plane.specs.Convexity.{apart, slope, gap, lifted}
use Rattle.plane.specs.OpticTable.{optic_sums, optic_below, rise_rises}

abbrev pub sums : Heights
sums p = pos (optic p.u + optic p.v)

-- Positions that differ do so along u or along v.
differ : (p q : Position) → q ≢ p → 0 < apart q.u p.u + apart q.v p.v
differ p q n = ⊎_elim (λ h. h) (λ h. absurd (n (same (omega arith) (omega arith)))) (cases_lt 0 _)
  where
    same : q.u ≡ p.u → q.v ≡ p.v → q ≡ p
    same e f = λ i. record { u = e i; v = f i }

-- The excess is the sum of the gaps along u and along v, and one of these is positive.
sums_supported : (p : Position) → Support sums p
unfolding gap
sums_supported p = record {
  s = slope (rise p.u);
  t = slope (rise p.v);
  above = λ q j n.
      let a = lifted optic rise optic_sums rise_rises p.u q.u in
      let b = lifted optic rise optic_sums rise_rises p.v q.v in
      omega (arith, ints, differ p q n);
}

pub optical_supported : Supported optical_height
optical_supported p i = support_in_plane sums p i (sums_supported p)

pub optical_bounded : Bounded optical_height
optical_bounded =
    bounded_in_plane sums (λ p i. omega (arith, ints, optic_below p.u i.u_in, optic_below p.v i.v_in))
