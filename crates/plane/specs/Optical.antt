-- The optical measure: one table of numbers, taken along u and along v.
use Rattle.std.specs.Prelude.{ℕ, zero, suc, ◌+◌, cond, pos, nat_lt}
use Rattle.plane.specs.Measures.{Heights, only_in_plane}

-- The second difference of the table at k: 4 below 1,024, 2 below 2,048, then 1.
unfoldable pub bend : ℕ → ℕ
bend k = cond (nat_lt k 1024) 4 (cond (nat_lt k 2048) 2 1)

-- What the table gains from k to k + 1: 2 at first, and then as much more at each step as it bends there.
unfoldable pub rise : ℕ → ℕ
rise zero = 2
rise (suc k) = rise k + bend (suc k)

-- The table, from 0.
unfoldable pub optic : ℕ → ℕ
optic zero = 0
optic (suc k) = optic k + rise k

-- The height: the sum of the table's numbers at u and at v.
abbrev pub optical_height : Heights
optical_height = only_in_plane (λ p. pos (optic p.u + optic p.v))
