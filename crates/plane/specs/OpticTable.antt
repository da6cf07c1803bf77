-- The numbers of the optical measure: the rule that its table is written by, and one test of the whole table.
use Rattle.std.specs.Prelude.{◌≡◌, ℕ, zero, suc, ◌+◌, ◌*◌, ◌<◌, ◌≤◌, Bool, true, ◌&&◌, List, [], ◌∷◌, length, ◌==◌, slice_index, refl}
use Rattle.std.proofs.Common.{sym, ap, ◌∙◌, add-zero, zero-add, mul-le-mul, arith}
use Rattle.std.proofs.lemmas.Bool.{and_parts, eqb-true}
use Rattle.std.proofs.lemmas.Bool.Decides.{nat_tests}
use Rattle.plane.specs.Optical.{bend, rise, optic}

-- The rule as it is written: the first two numbers, and the second difference at each place between two others.
pub optic_first : (optic 0 ≡ 0) × (optic 1 ≡ 2)
unfolding optic rise
optic_first = (refl, refl)

pub optic_bends : (k : ℕ) → optic (suc (suc k)) + optic k ≡ 2 * optic (suc k) + bend (suc k)
unfolding optic rise
optic_bends k = omega arith

-- The test: the entries from place k on begin at a, gain r at first, and bend by the rule.
abbrev pub bends : ℕ → ℕ → ℕ → List ℕ → Bool
bends k a r [] = true
bends k a r (x ∷ xs) = x == a && bends (suc k) (a + r) (r + bend (suc k)) xs

from : (xs : List ℕ) (k : ℕ) → bends k (optic k) (rise k) xs ≡ true → (j : ℕ) → j < length xs
    → slice_index xs j ≡ optic (k + j)
unfolding optic rise
from [] k t j h = absurd (omega arith)
from (x ∷ xs) k t zero h = eqb-true x (optic k) (and_parts _ _ t).0 ∙ ap optic (sym (add-zero k))
from (x ∷ xs) k t (suc j) h = from xs (suc k) (and_parts _ _ t).1 j (omega arith) ∙ ap optic (omega arith)

-- A table that passes the test has the rule's number at each place.
pub table_is : (xs : List ℕ) (k : ℕ) → bends 0 0 2 xs ≡ true → length xs ≡ 4097 → k ≤ 4096 → slice_index xs k ≡ optic k
unfolding optic rise
table_is xs k t l h = from xs 0 t k (omega arith) ∙ ap optic (zero-add k)

-- It bends everywhere, and by at most 4.
bend_within : (k : ℕ) → (1 ≤ bend k) × (bend k ≤ 4)
unfolding bend
bend_within k = (grind (arith, nat_tests), grind (arith, nat_tests))

-- The two facts that make it convex.
pub optic_sums : (k : ℕ) → optic (suc k) ≡ optic k + rise k
unfolding optic
optic_sums k = refl

pub rise_rises : (k : ℕ) → rise k < rise (suc k)
unfolding rise
rise_rises k = omega (arith, bend_within (suc k))

rise_below : (k : ℕ) → rise k ≤ 2 + 4 * k
unfolding rise
rise_below zero = omega arith
rise_below (suc k) = omega (arith, rise_below k, bend_within (suc k))

-- Since it bends by at most 4, k has at most 2 k².
below_square : (k : ℕ) → optic k ≤ 2 * (k * k)
unfolding optic
below_square zero = omega arith
below_square (suc k) = omega (arith, below_square k, rise_below k)

pub optic_below : (k : ℕ) → k ≤ 4096 → optic k ≤ 33554432
optic_below k h = omega (arith, below_square k, mul-le-mul h h)
