-- Counting what passes a test, and labels that are dealt out evenly.
use Rattle.std.proofs.Common.{◌≡◌, ℕ, zero, suc, ◌+◌, ◌<◌, ◌≤◌, Bool, true, false, cond, eqb, ◌⊎◌, ℤ, pos, ◌+ℤ◌, ◌-ℤ◌, sym, refl, ◌∙◌, inl, inr, arith}
use Rattle.std.proofs.lemmas.Int.{ints}
use Rattle.std.proofs.lemmas.Bool.{cases_Bool, and_parts, and_from, eqb-true, eq-eqb, cases_lt, cases_order}
use Rattle.algebra.specs.Sums.{sum, only, count}
use Rattle.algebra.specs.Passing.{Among, Once, labelled}
use Rattle.algebra.proofs.Sums.{sum_sub}
use Rattle.algebra.proofs.Passing.{among, wider, newest}

-- A count is a sum of ones, and a difference of counts a sum of differences.
pub sum_count : (n : ℕ) (test : ℕ → Bool) → sum n (λ x. only (test x) (pos 1)) ≡ pos (count n test)
unfolding sum only count
sum_count zero test = refl
sum_count (suc n) test = at (test n) (sum_count n test)
  where
    at : (b : Bool) {s : ℤ} {c : ℕ} → s ≡ pos c → s +ℤ only b (pos 1) ≡ pos (c + cond b 1 0)
    at true ih = omega (arith, ints)
    at false ih = omega (arith, ints)

pub count_apart : (n : ℕ) (one other : ℕ → Bool) →
    sum n (λ x. only (one x) (pos 1) -ℤ only (other x) (pos 1)) ≡ pos (count n one) -ℤ pos (count n other)
count_apart n one other =
    let a = sum_count n one in
    let b = sum_count n other in
    let c = sum_sub n (λ x. only (one x) (pos 1)) (λ x. only (other x) (pos 1)) in
    cc

-- A count is positive where a number passes, and only there.
pub count_some : (n : ℕ) {test : ℕ → Bool} {x : ℕ} → Among n test x → 1 ≤ count n test
unfolding count
count_some zero a = absurd (omega arith)
count_some (suc n) {test} {x} a = at (newest a) (count_some n)
  where
    at : (x ≡ n) ⊎ Among n test x → (Among n test x → 1 ≤ count n test) → 1 ≤ count n test + cond (test n) 1 0
    at (inl e) ih = let p = a.passes in grind arith
    at (inr b) ih = let k = ih b in omega arith

pub count_find : (n : ℕ) (test : ℕ → Bool) → 1 ≤ count n test → (x : ℕ) × Among n test x
unfolding count
count_find zero test h = absurd (omega arith)
count_find (suc n) test h = at (cases_Bool (test n)) (count_find n test)
  where
    at : (test n ≡ true) ⊎ (test n ≡ false) → (1 ≤ count n test → (x : ℕ) × Among n test x) →
        (x : ℕ) × Among (suc n) test x
    at (inl e) ih = (n, among (omega arith) e)
    at (inr e) ih = let w = ih (grind arith) in (w.0, wider w.1)

-- It is at most 1 where no two numbers pass, and only there.
pub count_once : (n : ℕ) (test : ℕ → Bool) → ((x y : ℕ) → Among n test x → Among n test y → x ≡ y) → count n test ≤ 1
unfolding count
count_once zero test h = omega arith
count_once (suc n) test h =
    at (cases_Bool (test n)) (cases_lt 0 (count n test)) (count_once n test (λ x y a b. h x y (wider a) (wider b)))
  where
    at : (test n ≡ true) ⊎ (test n ≡ false) → (0 < count n test) ⊎ (count n test ≤ 0) → count n test ≤ 1 →
        count n test + cond (test n) 1 0 ≤ 1
    at (inl e) (inl l) ih =
        let w = count_find n test l in
        let same = h w.0 n (wider w.1) (among (omega arith) e) in
        let under = w.1.below in
        absurd (omega arith)
    at (inl e) (inr l) ih = grind arith
    at (inr e) l ih = grind arith

count_two : (n : ℕ) {test : ℕ → Bool} {x y : ℕ} → x < y → Among n test x → Among n test y → 2 ≤ count n test
unfolding count
count_two zero l a b = absurd (omega arith)
count_two (suc n) {test} {x} {y} l a b = at (newest a) (newest b) (count_two n l)
  where
    at : (x ≡ n) ⊎ Among n test x → (y ≡ n) ⊎ Among n test y → (Among n test x → Among n test y → 2 ≤ count n test) →
        2 ≤ count n test + cond (test n) 1 0
    at (inl e) d ih = let m = b.below in absurd (omega arith)
    at (inr c) (inl e) ih = let k = count_some n c in let p = b.passes in grind arith
    at (inr c) (inr d) ih = let k = ih c d in omega arith

pub once_count : (n : ℕ) {test : ℕ → Bool} {x y : ℕ} → count n test ≤ 1 → Among n test x → Among n test y → x ≡ y
once_count n {x} {y} h a b = at (cases_order x y)
  where
    at : (x ≡ y) ⊎ ((x < y) ⊎ (y < x)) → x ≡ y
    at (inl e) = e
    at (inr (inl l)) = absurd (let k = count_two n l a b in omega arith)
    at (inr (inr l)) = absurd (let k = count_two n l b a in omega arith)

-- What it means to pass and to have a label.
label_from : {n : ℕ} {test : ℕ → Bool} {x : ℕ} (label : ℕ → ℕ) (b : ℕ) → Among n test x → label x ≡ b →
    Among n (labelled test label b) x
unfolding labelled
label_from {x = x} label b a e = among a.below (and_from _ _ a.passes (eq-eqb (label x) b e))

label_parts : {n : ℕ} {test : ℕ → Bool} {x : ℕ} (label : ℕ → ℕ) (b : ℕ) → Among n (labelled test label b) x →
    Among n test x × (label x ≡ b)
unfolding labelled
label_parts {test = test} {x = x} label b a =
    let p = and_parts (test x) (eqb (label x) b) a.passes in
    (among a.below p.0, eqb-true (label x) b p.1)

-- Two labels for each number that passes, dealt out evenly: each label is as often the one as the other.
module _ {n : ℕ} {test : ℕ → Bool} (one other : ℕ → ℕ)
    (even : (b : ℕ) → count n (labelled test one b) ≡ count n (labelled test other b)) where
  -- What is the one label somewhere is the other label somewhere.
  pub label_found : {x : ℕ} → Among n test x → (y : ℕ) × Among n test y × (other y ≡ one x)
  label_found {x} a =
      let e = even (one x) in
      let k = count_some n (label_from one (one x) a refl) in
      let w = count_find n (labelled test other (one x)) (omega arith) in
      let p = label_parts other (one x) w.1 in
      (w.0, p.0, p.1)

  -- Where no two have the one label in common, no two have the other.
  pub label_once : Once n test one → Once n test other
  label_once once x y a b e =
      let d = even (other y) in
      let most = count_once n (labelled test one (other y)) same in
      once_count n (omega arith) (label_from other (other y) a e) (label_from other (other y) b refl)
    where
      same : (i j : ℕ) → Among n (labelled test one (other y)) i → Among n (labelled test one (other y)) j → i ≡ j
      same i j c d =
          let p = label_parts one (other y) c in
          let q = label_parts one (other y) d in
          once i j p.0 q.0 (p.1 ∙ sym q.1)
