-- Each turn adds the product of the next weight and number.
use Rattle.std.proofs.Common.{◌≡◌, ℕ, zero, suc, ◌<◌, ◌≤◌, get_or, pos, ◌*ℤ◌, ◌∙◌, arith, rules}
use Rattle.plane.proofs.Fitting.{known, sized}
use Rattle.figures.specs.declared.mix.Mix.{Mix}
use Rattle.figures.proofs.Partial.{partial_three, summed_more}
use Rattle.figures.proofs.Passing.{same_number}
use Rattle.figures.proofs.mix.Mix.weighted_sum.Goals as goal

weight_most : (mix : Mix) (i : ℕ) → i < 3 → get_or mix.weights i 0 ≤ 16777216
weight_most mix zero l = omega (arith, mix.summed, mix.most)
weight_most mix (suc zero) l = omega (arith, mix.summed, mix.most)
weight_most mix (suc (suc zero)) l = omega (arith, mix.summed, mix.most)
weight_most mix (suc (suc (suc i))) l = absurd (omega arith)

pub product-sum-requires : goal.product-sum-requires
product-sum-requires c =
    let most = weight_most c.args.self.now c.loop-i.i (omega arith) in
    let number = c.requires c.loop-i.i (omega arith) in
    search rules

pub loop-i-preserved : goal.loop-i-preserved
loop-i-preserved c =
    let weight = pos (get_or c.args.self.now.weights c.loop-i.i 0) in
    let same = same_number (c.requires c.loop-i.i (omega arith)) in
    let value = known c.product-sum.type_inv (c.product-sum.ensures.value ∙ (λ k. weight *ℤ same k)) in
    summed_more (omega arith) (omega arith) c.loop-i.invariant value (sized c.product-sum.type_inv c.product-sum.ensures.bound)

pub returns : goal.returns
returns c =
    let done : c.loop-i.i ≡ 3 = omega arith in
    let all = rw done at c.loop-i.invariant in
    let term = λ (i : ℕ). pos (get_or c.args.self.now.weights i 0) *ℤ get_or c.args.numbers i (pos 0) in
    record { value = all.value ∙ partial_three term; bound = record { size = omega (arith, all.bound.size) } }
