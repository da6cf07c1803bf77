-- Laws of finite sums.
use Rattle.std.proofs.Common.{◌≡◌, ℕ, zero, suc, ◌+◌, ◌*◌, ◌<◌, Bool, true, false, not, ◌&&◌, ◌⊎◌, ℤ, pos, ◌+ℤ◌, ◌-ℤ◌, neg_ℤ, sym, refl, ap, ◌∙◌, inl, inr, add-zero, add-suc, mul-suc, arith}
use Rattle.std.proofs.lemmas.Int.{ints}
use Rattle.std.proofs.lemmas.Bool.{cases_eq, false≢true}
use Rattle.algebra.specs.Sums.{sum, only}
use Rattle.algebra.specs.Passing.{Among}
use Rattle.algebra.proofs.Passing.{among}

pub sum_cong : (n : ℕ) {f g : ℕ → ℤ} → ((i : ℕ) → i < n → f i ≡ g i) → sum n f ≡ sum n g
unfolding sum
sum_cong zero h = refl
sum_cong (suc n) {f} {g} h =
    let ih : sum n f ≡ sum n g = sum_cong n (λ i l. h i (omega arith)) in
    let e : f n ≡ g n = h n (omega arith) in
    cc

pub sum_add : (n : ℕ) (f g : ℕ → ℤ) → sum n (λ i. f i +ℤ g i) ≡ sum n f +ℤ sum n g
unfolding sum
sum_add zero f g = refl
sum_add (suc n) f g = let ih = sum_add n f g in omega (arith, ints)

pub sum_neg : (n : ℕ) (f : ℕ → ℤ) → sum n (λ i. neg_ℤ (f i)) ≡ neg_ℤ (sum n f)
unfolding sum
sum_neg zero f = refl
sum_neg (suc n) f = let ih = sum_neg n f in omega (arith, ints)

pub sum_sub : (n : ℕ) (f g : ℕ → ℤ) → sum n (λ i. f i -ℤ g i) ≡ sum n f -ℤ sum n g
unfolding sum
sum_sub zero f g = refl
sum_sub (suc n) f g = let ih = sum_sub n f g in omega (arith, ints)

-- All terms are 0.
pub sum_zero : (n : ℕ) {f : ℕ → ℤ} → ((i : ℕ) → i < n → f i ≡ pos 0) → sum n f ≡ pos 0
unfolding sum
sum_zero zero h = refl
sum_zero (suc n) {f} h =
    let ih : sum n f ≡ pos 0 = sum_zero n (λ i l. h i (omega arith)) in
    let e = h n (omega arith) in
    omega (arith, ints)

-- All terms but one are 0.
pub sum_one : (n k : ℕ) (f : ℕ → ℤ) → k < n → ((i : ℕ) → i < n → (i ≡ k → ⊥) → f i ≡ pos 0) → sum n f ≡ f k
unfolding sum
sum_one zero k f l h = absurd (omega arith)
sum_one (suc n) k f l h = at (cases_eq n k) (λ k<n. sum_one n k f k<n (λ i m. h i (omega arith)))
  where
    at : (n ≡ k) ⊎ (n ≡ k → ⊥) → (k < n → sum n f ≡ f k) → sum n f +ℤ f n ≡ f k
    at (inl e) ih =
        let z = sum_zero n {f = f} (λ i m. h i (omega arith) (λ d. omega arith)) in
        let g = ap f e in
        omega (arith, ints)
    at (inr d) ih = let s = ih (omega arith) in let z = h n (omega arith) d in omega (arith, ints)

-- Two sums change places.
pub sum_exchange : (n m : ℕ) (f : ℕ → ℕ → ℤ) → sum n (λ i. sum m (λ j. f i j)) ≡ sum m (λ j. sum n (λ i. f i j))
unfolding sum
sum_exchange zero m f = sym (sum_zero m (λ j l. refl))
sum_exchange (suc n) m f =
    let ih = sum_exchange n m f in
    let e = sum_add m (λ j. sum n (λ i. f i j)) (f n) in
    cc

-- A sum is a sum of two: of the terms below m, and of the k terms from there on.
pub sum_split : (m k : ℕ) (f : ℕ → ℤ) → sum (m + k) f ≡ sum m f +ℤ sum k (λ i. f (m + i))
unfolding sum
sum_split m zero f = rw add-zero (omega (arith, ints))
sum_split m (suc k) f = let ih = sum_split m k f in rw add-suc (omega (arith, ints))

-- The first term apart.
pub sum_first : (n : ℕ) (f : ℕ → ℤ) → sum (suc n) f ≡ f 0 +ℤ sum n (λ i. f (suc i))
unfolding sum
sum_first zero f = omega (arith, ints)
sum_first (suc n) f = let ih = sum_first n f in omega (arith, ints)

-- Three terms at a time.
pub sum_thirds : (n : ℕ) (f : ℕ → ℤ) → sum (3 * n) f ≡ sum n (λ i. f (3 * i) +ℤ f (3 * i + 1) +ℤ f (3 * i + 2))
unfolding sum
sum_thirds zero f = refl
sum_thirds (suc n) f =
    let ih = sum_thirds n f in
    let e = sum_split (3 * n) 3 f in
    let z = ap f (add-zero (3 * n)) in
    rw mul-suc (omega (arith, ints))

-- An antisymmetric double sum is its own negative, by exchange.
pub sum_antisymmetric : (n : ℕ) (f : ℕ → ℕ → ℤ) → ((i j : ℕ) → i < n → j < n → f i j ≡ neg_ℤ (f j i)) →
    sum n (λ i. sum n (λ j. f i j)) ≡ pos 0
sum_antisymmetric n f h =
    own_negative _
    (sum_cong n (λ i l. sum_cong n (λ j k. h i j l k) ∙ sum_neg n _) ∙ sum_neg n _ ∙ ap neg_ℤ (sum_exchange n n _))
  where
    own_negative : (z : ℤ) → z ≡ neg_ℤ z → z ≡ pos 0
    own_negative z e = omega (arith, ints)

-- A term under a test that passes, and under one that fails.
pub only_true : {b : Bool} (z : ℤ) → b ≡ true → only b z ≡ z
unfolding only
only_true z e = rw e

pub only_false : {b : Bool} (z : ℤ) → b ≡ false → only b z ≡ pos 0
unfolding only
only_false z e = rw e

-- What passes one test: with what passes another, and without.
pub only_part : (b c : Bool) (z : ℤ) → only b z ≡ only (b && c) z +ℤ only (b && not c) z
unfolding only
only_part true true z = omega (arith, ints)
only_part true false z = omega (arith, ints)
only_part false c z = refl

pub only_less : (b c : Bool) (z : ℤ) → (c ≡ true → b ≡ true) → only (b && not c) z ≡ only b z -ℤ only c z
unfolding only
only_less true true z h = omega (arith, ints)
only_less true false z h = omega (arith, ints)
only_less false true z h = absurd (false≢true (h refl))
only_less false false z h = refl

-- No number passes, or one alone does.
pub sum_only_none : (n : ℕ) (test : ℕ → Bool) (f : ℕ → ℤ) → ((i : ℕ) → Among n test i → ⊥) →
    sum n (λ i. only (test i) (f i)) ≡ pos 0
unfolding only
sum_only_none n test f h = sum_zero n (λ i l. let g = λ (e : test i ≡ true). h i (among l e) in grind arith)

pub sum_only_one : {n k : ℕ} {test : ℕ → Bool} → Among n test k → (f : ℕ → ℤ) → ((i : ℕ) → Among n test i → i ≡ k) →
    sum n (λ i. only (test i) (f i)) ≡ f k
unfolding only
sum_only_one {n} {k} {test} a f h =
    sum_one n k (λ i. only (test i) (f i)) a.below
    (λ i l d. let g = λ (e : test i ≡ true). h i (among l e) in grind arith)
    ∙ only_true (f k) a.passes
