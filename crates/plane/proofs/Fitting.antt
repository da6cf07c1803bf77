-- A signed result is passed on by its bits. These read it back: what it equals, and how large it is.
use Rattle.std.proofs.Common.{◌≡◌, ℕ, ◌+◌, ◌*◌, ◌^◌, ◌<◌, ℤ, pos, negsuc, nat_abs, sym, ◌∙◌, subst, mul-le-mul, arith, w64, SFits, to_z, of_z}
use lib.Signed.{mag}
use Rattle.std.proofs.lemmas.Int.{to_z-of_z}
use Rattle.plane.specs.Plane.{Position, InPlane, Size, Spans}

pub read : {z : ℤ} → SFits w64 z → to_z w64 (of_z w64 z) ≡ z
read {z} f = to_z-of_z w64 z f

pub known : {z w : ℤ} → mag z < 2 ^ 63 → z ≡ w → to_z w64 (of_z w64 z) ≡ w
known {z} f e = to_z-of_z w64 z (record { sfits = f }) ∙ e

pub sized : {z : ℤ} {m : ℕ} → mag z < 2 ^ 63 → Size z m → Size (to_z w64 (of_z w64 z)) m
sized {z} {m} f h = subst (λ (x : ℤ). Size x m) (sym (to_z-of_z w64 z (record { sfits = f }))) h

pub small_product : {x y : ℤ} {m n : ℕ} → Size x m → Size y n → m * n < 2 ^ 62 → nat_abs x * nat_abs y < 2 ^ 62
small_product h k l = omega (arith, mul-le-mul h.size k.size)

pub small_sum : {x y : ℤ} {m n : ℕ} → Size x m → Size y n → m + n < 2 ^ 62 → nat_abs x + nat_abs y < 2 ^ 62
small_sum h k l = omega arith

pub spans : {q : Position} → InPlane q → Spans 4096 q
spans i = record { u_most = i.u_in; v_most = i.v_in }

pub fits_small : (z : ℤ) → Size z 64 → SFits w64 z
fits_small (pos n) h = record { sfits = omega arith }
fits_small (negsuc n) h = record { sfits = omega arith }
