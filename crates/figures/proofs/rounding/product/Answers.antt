-- A weight of at most 2^24 times a number below 2^16.
use Rattle.std.proofs.Common.{◌≡◌, ℤ, pos, ◌*ℤ◌, sym, subst, arith, lit<}
use Rattle.algebra.proofs.Signs.{abs_mul_le}
use Rattle.plane.specs.Plane.{Size}
use Rattle.plane.proofs.Fitting.{read, known, sized}
use Rattle.figures.proofs.Passing.{passed, fits}
use Rattle.figures.proofs.rounding.product.Goals as goal

-- the product of what is passed, and how large it is
exact : (c : goal.After-from) → passed c.from.result *ℤ passed c.args.number ≡ pos c.args.weight *ℤ c.args.number
exact c i = known c.from.type_inv c.from.ensures i *ℤ read c.ranges.number i

small : (c : goal.After-from) → Size (passed c.from.result *ℤ passed c.args.number) 1099511627776
small c =
    let s = abs_mul_le (pos c.args.weight) c.args.number c.requires.weight c.requires.number.size in
    subst (λ (z : ℤ). Size z 1099511627776) (sym (exact c)) (record { size = omega arith })

pub overflow_mul-result : goal.overflow_mul-result
overflow_mul-result c = fits (small c) (lit< tt)

pub returns : goal.returns
returns c = record { value = known (fits (small c) (lit< tt)).sfits (exact c); bound = sized (fits (small c) (lit< tt)).sfits (small c) }
