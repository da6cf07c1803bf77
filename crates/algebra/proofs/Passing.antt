-- The list of the numbers that pass a test: it grows at its end, and has all that pass.
use Rattle.std.proofs.Common.{◌≡◌, ℕ, zero, suc, ◌+◌, ◌<◌, ◌≤◌, Bool, true, false, cond, ◌⊎◌, List, [], ◌∷◌, ◌++◌, length, get_or, sym, refl, ap, ◌∙◌, inl, inr, map-id, zero-add, add-one, arith}
use Rattle.std.specs.List.{range_with_len}
use Rattle.std.proofs.lemmas.List.FromFn.{filter_of_map_range_with_len_more}
use Rattle.std.proofs.lemmas.List.{append-nil, length_push, get_or_push, get_or_append_left}
use Rattle.std.proofs.lemmas.Bool.{cases_eq, cases_order, cases_lt, both_ways}
use Rattle.algebra.specs.Passing.{Among, Passing, passers}

-- x is below n and passes.
abbrev pub among : {n : ℕ} {test : ℕ → Bool} {x : ℕ} → x < n → test x ≡ true → Among n test x
among l e = record { below = l; passes = e }

-- The bound moves up by one.
pub wider : {n : ℕ} {test : ℕ → Bool} {x : ℕ} → Among n test x → Among (suc n) test x
wider a = among (omega arith) a.passes

pub newest : {n : ℕ} {test : ℕ → Bool} {x : ℕ} → Among (suc n) test x → (x ≡ n) ⊎ Among n test x
newest {n} {test} {x} a = at (cases_eq x n)
  where
    at : (x ≡ n) ⊎ (x ≡ n → ⊥) → (x ≡ n) ⊎ Among n test x
    at (inl e) = inl e
    at (inr d) = inr (among (omega arith) a.passes)

-- No number stands twice in the list.
pub passing_once : {n : ℕ} {test : ℕ → Bool} {xs : List ℕ} → Passing n test xs → (j k : ℕ) →
    j < length xs → k < length xs → get_or xs j 0 ≡ get_or xs k 0 → j ≡ k
passing_once {xs = xs} g j k l m e = at (cases_order j k)
  where
    at : (j ≡ k) ⊎ ((j < k) ⊎ (k < j)) → j ≡ k
    at (inl d) = d
    at (inr (inl d)) = let r = g.rising j k d m in absurd (omega arith)
    at (inr (inr d)) = let r = g.rising k j d l in absurd (omega arith)

-- The list grows with the bound: the next number fails, or passes and comes last.
module _ {n : ℕ} {test : ℕ → Bool} {xs : List ℕ} (g : Passing n test xs) where
  pub passing_skip : test n ≡ false → Passing (suc n) test xs
  passing_skip e = record {
    each = λ k l. wider (g.each k l);
    rising = g.rising;
    all = λ a.
        elim (newest a) [
          | inl d ↦ absurd (both_ways (test n) e (sym (ap test d) ∙ a.passes))
          | inr b ↦ g.all b
        ];
  }

  pub passing_push : test n ≡ true → Passing (suc n) test (xs ++ n ∷ [])
  passing_push e = record {
    each = λ k l. each k (cases_lt k (length xs)) (rw length_push at l);
    rising = λ j k h l. rising j k h (cases_lt k (length xs)) (rw length_push at l);
    all = λ a. all (newest a);
  }
    where
      last : (k : ℕ) → length xs ≤ k → k < length xs + 1 → get_or (xs ++ n ∷ []) k 0 ≡ n
      last k h l = get_or_push xs n 0 k (omega arith)

      each : (k : ℕ) → (k < length xs) ⊎ (length xs ≤ k) → k < length xs + 1 →
          Among (suc n) test (get_or (xs ++ n ∷ []) k 0)
      each k (inl h) l = rw get_or_append_left (wider (g.each k h))
      each k (inr h) l = rw (last k h l) (among (omega arith) e)

      rising : (j k : ℕ) → j < k → (k < length xs) ⊎ (length xs ≤ k) → k < length xs + 1 →
          get_or (xs ++ n ∷ []) j 0 < get_or (xs ++ n ∷ []) k 0
      rising j k i (inl h) l =
          let front = get_or_append_left xs (n ∷ []) 0 in
          rw (front k h, front j (omega arith)) (g.rising j k i h)
      rising j k i (inr h) l =
          let m : j < length xs = omega arith in
          rw (last k h l, get_or_append_left xs (n ∷ []) 0 j m) (g.each j m).below

      all : {x : ℕ} → (x ≡ n) ⊎ Among n test x → (k : ℕ) × (k < length (xs ++ n ∷ [])) × (get_or (xs ++ n ∷ []) k 0 ≡ x)
      all (inl d) = (length xs, rw length_push (omega arith), last (length xs) (omega arith) (omega arith) ∙ sym d)
      all (inr a) =
          let w = g.all a in
          (w.0, rw length_push (omega arith), get_or_append_left xs (n ∷ []) 0 w.0 w.1 ∙ w.2)

-- What the list of all that pass is at the next bound.
passers_more : (n : ℕ) (test : ℕ → Bool) → passers (suc n) test ≡ passers n test ++ cond (test n) (n ∷ []) []
passers_more n test =
    cc (
      filter_of_map_range_with_len_more test (λ x. x) 0 n n (zero-add n),
      map-id (range_with_len 0 (n + 1)),
      map-id (range_with_len 0 n),
      add-one n,
    )

-- So it is as it should be.
pub passing : (n : ℕ) (test : ℕ → Bool) → Passing n test (passers n test)
passing zero test = record {
  each = λ k l. absurd (omega arith);
  rising = λ j k h l. absurd (omega arith);
  all = λ a. absurd (omega arith);
}
passing (suc n) test = rw passers_more (at (test n) refl (passing n test))
  where
    at : (b : Bool) → test n ≡ b → Passing n test (passers n test) →
        Passing (suc n) test (passers n test ++ cond b (n ∷ []) [])
    at true e g = passing_push g e
    at false e g = rw append-nil (passing_skip g e)
