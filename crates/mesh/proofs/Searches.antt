-- The number of the first that passes a test, counted from k, where `position` and `map` give it.
use Rattle.std.proofs.Common.{◌≡◌, ℕ, suc, ◌+◌, Bool, true, false, cond, List, [], ◌∷◌, Some, None, Option, refl, ap, ◌∙◌, arith}
use Rattle.std.specs.List.{position, position_from}
use Rattle.std.specs.Option.{MatchOption, IsSomeAnd, option_map}
use Rattle.std.proofs.lemmas.Iterator.Adapters.{position_from-zero}
use Rattle.mesh.specs.Search.{first_at}

mapped : {P : ℕ → ℕ → Type 0} (f : ℕ → ℕ) (o r : Option ℕ) → MatchOption o (r ≡ None) (λ i. IsSomeAnd r (P i)) →
    ((i n : ℕ) → P i n → n ≡ f i) → r ≡ option_map f o
mapped f None r h k = h
mapped f (Some i) None h k = absurd h
mapped f (Some i) (Some n) h k = ap Some (k i n h)

past : (f : ℕ → ℕ) (b : Bool) (i : ℕ) (o : Option ℕ) → option_map f (cond b (Some i) o) ≡ cond b (Some (f i)) (option_map f o)
past f true i o = refl
past f false i o = refl

module _ {X : Type 0} (test : X → Bool) (k : ℕ) where
  counted_from : (i : ℕ) (xs : List X) → option_map (λ j. k + j) (position_from test i xs) ≡ first_at test (k + i) xs
  counted_from i [] = refl
  counted_from i (x ∷ xs) =
      let next : k + (i + 1) ≡ suc (k + i) = omega arith in
      past (λ j. k + j) (test x) i (position_from test (i + 1) xs)
      ∙ ap (λ (o : Option ℕ). cond (test x) (Some (k + i)) o) (counted_from (i + 1) xs ∙ ap (λ (n : ℕ). first_at test n xs) next)

  pub numbered : {P : ℕ → ℕ → Type 0} (xs : List X) (o r : Option ℕ) → o ≡ position test xs →
      MatchOption o (r ≡ None) (λ i. IsSomeAnd r (P i)) → ((i n : ℕ) → P i n → n ≡ k + i) → r ≡ first_at test k xs
  numbered xs o r found h n =
      mapped (λ j. k + j) o r h n
      ∙ ap (option_map (λ j. k + j)) (found ∙ position_from-zero test xs)
      ∙ counted_from 0 xs
      ∙ ap (λ (n : ℕ). first_at test n xs) (omega arith)
