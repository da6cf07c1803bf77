-- Cuts: of many triangles some are killed. Triangles are given by places: the place 3 i + e is the edge e of the
-- triangle i, and runs from one master to another. A master is known by its number.
use Rattle.std.specs.Prelude.{◌≡◌, ℕ, ◌+◌, ◌*◌, ◌/◌, ◌<◌, Bool, true, false, not, ◌&&◌}
use Rattle.algebra.specs.Passing.{Among}

-- The triangle of the place passes the test.
abbrev pub on : (ℕ → Bool) → ℕ → Bool
on test x = test (x / 3)

-- The place x runs from a to b. So y runs back along x if it runs from `to x` to `from x`.
pub record Runs (from to : ℕ → ℕ) (x a b : ℕ) : Type 0 where
  pub starts : from x ≡ a
  pub ends : to x ≡ b

-- The three places of each triangle go round it.
pub record Rounds (m : ℕ) (from to : ℕ → ℕ) : Type 0 where
  pub first : (i : ℕ) → i < m → to (3 * i) ≡ from (3 * i + 1)
  pub second : (i : ℕ) → i < m → to (3 * i + 1) ≡ from (3 * i + 2)
  pub third : (i : ℕ) → i < m → to (3 * i + 2) ≡ from (3 * i)

-- m triangles, some of them killed. No two killed places run alike. Along a killed place that is inner a killed place
-- runs back, and along any other none does.
pub record Cut (m : ℕ) (from to : ℕ → ℕ) (killed inner : ℕ → Bool) : Type 0 where
  pub rounds : Rounds m from to
  pub once : {x y : ℕ} → Among (3 * m) (on killed) x → Among (3 * m) (on killed) y → Runs from to x (from y) (to y) →
      x ≡ y
  pub paired : {x : ℕ} → Among (3 * m) (on killed) x → inner x ≡ true →
      (y : ℕ) × Among (3 * m) (on killed) y × Runs from to y (to x) (from x)
  pub alone : {x y : ℕ} → Among (3 * m) (on killed) x → inner x ≡ false → Among (3 * m) (on killed) y →
      Runs from to y (to x) (from x) → ⊥

-- The rim of the cut: the killed places that are not inner.
abbrev pub rim : (killed inner : ℕ → Bool) → ℕ → Bool
rim killed inner x = on killed x && not (inner x)
