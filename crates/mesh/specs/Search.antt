-- Searching a list from its front.
use Rattle.std.specs.Prelude.{ℕ, suc, Bool, cond, List, [], ◌∷◌, Some, None, Option}

-- The number of the first that passes a test, where the list is numbered from k.
abbrev pub first_at : {X : Type 0} → (X → Bool) → ℕ → List X → Option ℕ
first_at test k [] = None
first_at test k (x ∷ xs) = cond (test x) (Some k) (first_at test (suc k) xs)
