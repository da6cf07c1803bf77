-- The numbers below a bound that pass a test, and the list of them in ascending order.
use Rattle.std.specs.Prelude.{◌≡◌, ℕ, ◌<◌, Bool, true, ◌&&◌, List, length, filter, ◌==◌, slice_index}
use Rattle.std.specs.List.{range_with_len}

-- x is below n and passes.
pub record Among (n : ℕ) (test : ℕ → Bool) (x : ℕ) : Type 0 where
  pub below : x < n
  pub passes : test x ≡ true

-- xs has all that pass, each once, in ascending order.
pub record Passing (n : ℕ) (test : ℕ → Bool) (xs : List ℕ) : Type 0 where
  pub each : (k : ℕ) → k < length xs → Among n test (slice_index xs k)
  pub rising : (j k : ℕ) → j < k → k < length xs → slice_index xs j < slice_index xs k
  pub all : {x : ℕ} → Among n test x → (k : ℕ) × (k < length xs) × (slice_index xs k ≡ x)

-- The list of all that pass.
abbrev pub passers : ℕ → (ℕ → Bool) → List ℕ
passers n test = filter test (range_with_len 0 n)

-- Those that pass have different labels.
abbrev pub Once : ℕ → (ℕ → Bool) → (ℕ → ℕ) → Type 0
Once n test label = (x y : ℕ) → Among n test x → Among n test y → label x ≡ label y → x ≡ y

-- x passes and has the label b.
unfoldable pub labelled : (ℕ → Bool) → (ℕ → ℕ) → ℕ → ℕ → Bool
labelled test label b x = test x && label x == b
