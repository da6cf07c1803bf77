-- What else is promised of a blend's number follows from what it is.
use Rattle.std.proofs.Common.{◌≡◌, List, length, ℤ, sym, ◌∙◌, subst, arith}
use Rattle.figures.specs.Blends.{Between, mixed, IsBlend, LiesBetween, IsTheOne, IsTheSame}
use Rattle.figures.specs.declared.mix.Mix.{Mix}
use Rattle.figures.proofs.Means.{between, alone, all_equal}

module _ {F : Type 0} (number : F → ℤ) (row : List F) (mix : Mix) (z : ℤ) (blend : IsBlend number row mix z) where
  pub lies_between : LiesBetween number row mix z
  lies_between past = subst (λ (y : ℤ). Between (mixed number row past mix) y) (sym (blend past)) (between mix _)

  pub is_the_one : IsTheOne number row mix z
  is_the_one past i l e = blend past ∙ alone mix (mixed number row past mix) i l e

  pub is_the_same : length row ≡ mix.count → IsTheSame number row mix z
  is_the_same long past n e =
      blend past ∙ all_equal mix (mixed number row past mix) n (λ i l. e _ (let k = mix.known i l in omega arith))
