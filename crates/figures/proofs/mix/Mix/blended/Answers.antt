-- By a positive divisor the euclidean quotient is the floor.
use Rattle.std.proofs.Common.{◌≡◌, ℕ, ◌*◌, ℤ, pos, negsuc, ◌+ℤ◌, ◌*ℤ◌, refl, ◌∙◌}
use Rattle.std.specs.Int.{int_div_euclid}
use Rattle.plane.proofs.Fitting.{known}
use Rattle.figures.specs.Blends.{floor, blended_number}
use Rattle.figures.proofs.mix.Mix.blended.Goals as goal

quotient : (z : ℤ) (d : ℕ) → int_div_euclid z (pos d) ≡ floor z d
quotient (pos n) d = refl
quotient (negsuc n) d = refl

pub returns : goal.returns
unfolding blended_number
returns c =
    let total = c.args.self.now.total in
    let sum = known c.weighted_sum-sum.type_inv c.weighted_sum-sum.ensures.value in
    let raised = known c.raised.type_inv (c.raised.ensures ∙ (λ i. pos 2 *ℤ sum i +ℤ pos total)) in
    let doubled = known c.doubled.type_inv c.doubled.ensures in
    known c.floor_quotient.type_inv
    (c.floor_quotient.ensures ∙ (λ i. int_div_euclid (raised i) (doubled i)) ∙ quotient _ (2 * total))
