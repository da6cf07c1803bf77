-- Finite sums of signed integers, and how many numbers pass a test.
use Rattle.std.specs.Prelude.{◌≡◌, ℕ, zero, suc, ◌+◌, Bool, true, false, cond, List, [], ◌∷◌, ℤ, pos, ◌+ℤ◌, neg_ℤ}

-- The sum of f at all numbers below n.
unfoldable pub sum : ℕ → (ℕ → ℤ) → ℤ
sum zero f = pos 0
sum (suc n) f = sum n f +ℤ f n

-- z where the test passes, else 0: a sum of such terms is the sum over what passes.
unfoldable pub only : Bool → ℤ → ℤ
only true z = z
only false z = pos 0

-- How many numbers below n pass.
unfoldable pub count : ℕ → (ℕ → Bool) → ℕ
count zero test = 0
count (suc n) test = count n test + cond (test n) 1 0

-- The sum of f over a list.
unfoldable pub sum_over : {X : Type 0} → (X → ℤ) → List X → ℤ
sum_over f [] = pos 0
sum_over f (x ∷ xs) = f x +ℤ sum_over f xs

-- A function of two numbers that changes its sign when they change places.
abbrev pub Antisymmetric : (ℕ → ℕ → ℤ) → Type 0
Antisymmetric φ = (a b : ℕ) → φ a b ≡ neg_ℤ (φ b a)
