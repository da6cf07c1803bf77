-- The second and the third term are those of the triangle named from its other corners on.
use Rattle.std.proofs.Common.{ℤ, ◌+ℤ◌, ◌-ℤ◌, ◌*ℤ◌, ◌∙◌}
use Rattle.plane.specs.Plane.{turn}
use Rattle.plane.specs.Rings.{K}
use Rattle.plane.specs.declared.triangle.Triangle.{Triangle}
use Rattle.plane.proofs.Fitting.{known}
use Rattle.plane.proofs.triangle.Triangle.ring_number.Goals as goal

pub returns : goal.returns
unfolding K
returns g c =
    let h = g.M.Measure.heights c.args.measure.now in
    let q = c.args.q in
    let height = known c.height-height.type_inv c.height-height.ensures in
    let second = c.turned-second.ensures in
    let third = c.turned-third.ensures ∙ (λ i. record { a = (second i).b; b = (second i).c; c = (second i).a }) in
    let at = λ (t : Triangle) (z : ℤ). (h t.a -ℤ z) *ℤ turn q t.b t.c in
    let a = known c.term-at_a.type_inv (c.term-at_a.ensures.value ∙ (λ i. at c.args.self (height i))) in
    let b = known c.term-at_b.type_inv (c.term-at_b.ensures.value ∙ (λ i. at (second i) (height i))) in
    let c' = known c.term-at_c.type_inv (c.term-at_c.ensures.value ∙ (λ i. at (third i) (height i))) in
    known c.sum-2.type_inv
    (c.sum-2.ensures.value ∙ (λ i. known c.sum.type_inv (c.sum.ensures.value ∙ (λ j. a j +ℤ b j)) i +ℤ c' i))
