-- Sums over a list, and over the list of what passes a test.
use Rattle.std.proofs.Common.{◌≡◌, ℕ, ◌<◌, Bool, true, false, eqb, ◌⊎◌, List, [], ◌∷◌, ◌++◌, length, get_or, ℤ, ◌+ℤ◌, sym, refl, ap, ◌∙◌, inl, inr, arith}
use Rattle.std.proofs.lemmas.Int.{ints}
use Rattle.std.proofs.lemmas.Bool.{cases_Bool, both_ways, eqb-true, eq-eqb}
use Rattle.algebra.specs.Sums.{sum, only, sum_over}
use Rattle.algebra.specs.Passing.{Among, Passing}
use Rattle.algebra.proofs.Passing.{among, passing_once}
use Rattle.algebra.proofs.Sums.{sum_cong, sum_first, sum_exchange, sum_only_none, sum_only_one, only_true, only_false}

module _ {X : Type 0} where
  pub sum_over_cong : (f g : X → ℤ) (xs : List X) → ((x : X) → f x ≡ g x) → sum_over f xs ≡ sum_over g xs
  unfolding sum_over
  sum_over_cong f g [] h = refl
  sum_over_cong f g (x ∷ xs) h = let ih = sum_over_cong f g xs h in let e = h x in cc

  pub sum_over_add : (f g : X → ℤ) (xs : List X) → sum_over (λ x. f x +ℤ g x) xs ≡ sum_over f xs +ℤ sum_over g xs
  unfolding sum_over
  sum_over_add f g [] = refl
  sum_over_add f g (x ∷ xs) = let ih = sum_over_add f g xs in omega (arith, ints)

  pub sum_over_append : (f : X → ℤ) (xs ys : List X) → sum_over f (xs ++ ys) ≡ sum_over f xs +ℤ sum_over f ys
  unfolding sum_over
  sum_over_append f [] ys = omega (arith, ints)
  sum_over_append f (x ∷ xs) ys = let ih = sum_over_append f xs ys in omega (arith, ints)

  -- Element by element.
  pub sum_over_places : (f : X → ℤ) (xs : List X) (d : X) → sum_over f xs ≡ sum (length xs) (λ k. f (get_or xs k d))
  unfolding sum_over sum
  sum_over_places f [] d = refl
  sum_over_places f (x ∷ xs) d =
      ap (λ z. f x +ℤ z) (sum_over_places f xs d) ∙ sym (sum_first (length xs) (λ k. f (get_or (x ∷ xs) k d)))

-- The sum over the list of what passes is the sum of what passes: both are the double sum over the elements of the list
-- and the numbers equal to them.
module _ {n : ℕ} {test : ℕ → Bool} {xs : List ℕ} (g : Passing n test xs) (f : ℕ → ℤ) where
  by_element : (k : ℕ) → k < length xs → sum n (λ x. only (eqb (get_or xs k 0) x) (f x)) ≡ f (get_or xs k 0)
  by_element k l =
      sum_only_one (among (g.each k l).below (eq-eqb (get_or xs k 0) (get_or xs k 0) refl)) f
      (λ x a. sym (eqb-true (get_or xs k 0) x a.passes))

  by_number : (x : ℕ) → x < n → (test x ≡ true) ⊎ (test x ≡ false) →
      sum (length xs) (λ k. only (eqb (get_or xs k 0) x) (f x)) ≡ only (test x) (f x)
  by_number x l (inl e) =
      let (k, m, d) = g.all (among l e) in
      sum_only_one (among m (eq-eqb (get_or xs k 0) x d)) (λ j. f x)
      (λ j a. passing_once g j k a.below m (eqb-true (get_or xs j 0) x a.passes ∙ sym d))
      ∙ sym (only_true (f x) e)
  by_number x l (inr e) =
      sum_only_none (length xs) (λ j. eqb (get_or xs j 0) x) (λ j. f x) none ∙ sym (only_false (f x) e)
    where
      none : (j : ℕ) → Among (length xs) (λ j. eqb (get_or xs j 0) x) j → ⊥
      none j a =
          let d = eqb-true (get_or xs j 0) x a.passes in
          both_ways (test x) e (sym (ap test d) ∙ (g.each j a.below).passes)

  pub sum_passing : sum (length xs) (λ k. f (get_or xs k 0)) ≡ sum n (λ x. only (test x) (f x))
  sum_passing =
      sym (sum_cong (length xs) by_element)
      ∙ sum_exchange (length xs) n (λ k x. only (eqb (get_or xs k 0) x) (f x))
      ∙ sum_cong n (λ x l. by_number x l (cases_Bool (test x)))
