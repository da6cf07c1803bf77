-- A family of two placed masters, of which the laws speak.
use Rattle.std.proofs.Common.{◌≡◌, ℕ, zero, suc, ◌<◌, length, get_or, ap, arith}
use Rattle.plane.specs.Plane.{Within}
use Rattle.mesh.specs.Tree.{corner}
use Rattle.mesh_laws.specs.Laws.{Placeable, sample}

inside_sample : (k : ℕ) → k < length sample → Within (get_or sample k (corner 0 0))
inside_sample zero l = omega arith
inside_sample (suc zero) l = omega arith
inside_sample (suc (suc k)) l = absurd (omega arith)

pub placeable_sample : Placeable sample
placeable_sample = record {
  inside = inside_sample;
  apart = λ j k i l e.
      let first : j ≡ 0 = omega arith in
      let second : k ≡ 1 = omega arith in
      omega (arith, ap (λ q. q.u) (rw (first, second) at e));
}
