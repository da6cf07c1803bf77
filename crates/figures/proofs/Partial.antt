-- Sums of the first terms of a sequence, each term of at most 2^40.
use Rattle.std.proofs.Common.{◌≡◌, ℕ, zero, suc, ◌+◌, ◌*◌, ◌<◌, ℤ, pos, ◌+ℤ◌, add-one, arith, w64, SFits}
use Rattle.std.proofs.lemmas.Int.{ints}
use Rattle.plane.specs.Plane.{Size}
use Rattle.plane.proofs.Fitting.{known, sized}
use Rattle.figures.proofs.Passing.{passed, fits}

abbrev pub partial : (ℕ → ℤ) → ℕ → ℤ
partial term zero = pos 0
partial term (suc n) = partial term n +ℤ term n

pub partial_three : (term : ℕ → ℤ) → partial term 3 ≡ term 0 +ℤ term 1 +ℤ term 2
partial_three term = omega (arith, ints)

pub record Summed (term : ℕ → ℤ) (n : ℕ) (sum : ℤ) : Type 0 where
  pub value : sum ≡ partial term n
  pub bound : Size sum (n * 1099511627776)

within : (s p : ℤ) (n : ℕ) → Size s (n * 1099511627776) → Size p 1099511627776 → Size (s +ℤ p) (suc n * 1099511627776)
within s p n hs hp = omega (arith, ints)

-- With one term more a sum fits still,
pub sum_fits : {term : ℕ → ℤ} {n : ℕ} {s p : ℤ} → n < 3 → Summed term n s → Size p 1099511627776 → SFits w64 (s +ℤ p)
sum_fits {term} {n} {s} {p} l h small = fits (within s p n h.bound small) (omega arith)

-- and is that of the terms so far.
pub summed_more : {term : ℕ → ℤ} {n m : ℕ} {s p : ℤ} → n < 3 → m ≡ n + 1 → Summed term n s → p ≡ term n
    → Size p 1099511627776 → Summed term m (passed (s +ℤ p))
summed_more {term} {n} {m} {s} {p} l e h at_n small =
    let f = (sum_fits l h small).sfits in
    rw (e, add-one) (record {
      value = known f (λ i. h.value i +ℤ at_n i);
      bound = sized {z = s +ℤ p} f (within s p n h.bound small);
    })
