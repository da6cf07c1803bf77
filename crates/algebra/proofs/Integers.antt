-- Laws of signed integers that the library lacks: distributivity and associativity of the product.
-- Each integer is read as a difference of two natural numbers, and the law is arithmetic on those.
use Rattle.std.proofs.Common.{◌≡◌, ◌*◌, ℤ, ◌+ℤ◌, ◌*ℤ◌, ap, arith}
use borrow.Author.Differences.{up, down, same_in, sum_is_lem, product_is}

pub mul_distrib_right : (a b c : ℤ) → (a +ℤ b) *ℤ c ≡ a *ℤ c +ℤ b *ℤ c
mul_distrib_right a b c =
    same_in _ _
    (omega (
      arith,
      product_is (a +ℤ b) c,
      product_is a c,
      product_is b c,
      sum_is_lem (a *ℤ c) (b *ℤ c),
      ap (λ x. x * up c) (sum_is_lem a b),
      ap (λ x. x * down c) (sum_is_lem a b),
    ))

pub mul_distrib_left : (a b c : ℤ) → a *ℤ (b +ℤ c) ≡ a *ℤ b +ℤ a *ℤ c
mul_distrib_left a b c =
    same_in _ _
    (omega (
      arith,
      product_is a (b +ℤ c),
      product_is a b,
      product_is a c,
      sum_is_lem (a *ℤ b) (a *ℤ c),
      ap (λ x. up a * x) (sum_is_lem b c),
      ap (λ x. down a * x) (sum_is_lem b c),
    ))

pub mul_assoc : (a b c : ℤ) → (a *ℤ b) *ℤ c ≡ a *ℤ (b *ℤ c)
mul_assoc a b c =
    same_in _ _
    (rw (
      (product_is (a *ℤ b) c).0,
      (product_is (a *ℤ b) c).1,
      (product_is a (b *ℤ c)).0,
      (product_is a (b *ℤ c)).1,
      (product_is a b).0,
      (product_is a b).1,
      (product_is b c).0,
      (product_is b c).1,
    )
    (omega arith))
