-- Three parts of at most 2^30 each, the mixed one twice, and the sum of all is the form.
use Rattle.std.proofs.Common.{◌≡◌, ◌*◌, ℤ, pos, ◌+ℤ◌, ◌*ℤ◌, ◌∙◌, arith}
use Rattle.std.proofs.lemmas.Int.{ints}
use Rattle.plane.proofs.Fitting.{read, known, sized, fits_small}
use Rattle.plane.specs.WeightedHeights.{rule, a_size, b_size, c_size}
use Rattle.plane.proofs.weighted.Weighted.form.Goals as goal

pub part-requires-clause-factor : goal.part-requires-clause-factor
part-requires-clause-factor c =
    let w = c.args.self.now in
    let size = a_size (rule w.a w.b w.c w.rule) in
    sized (fits_small _ size).sfits size

pub part-requires-2-clause-factor : goal.part-requires-2-clause-factor
part-requires-2-clause-factor c =
    let w = c.args.self.now in
    let size = b_size (rule w.a w.b w.c w.rule) in
    sized (fits_small _ size).sfits size

pub part-mixed-requires-clause-factor : goal.part-mixed-requires-clause-factor
part-mixed-requires-clause-factor c =
    let w = c.args.self.now in
    let size = c_size (rule w.a w.b w.c w.rule) in
    sized (fits_small _ size).sfits size

twice : (z : ℤ) → z +ℤ z ≡ pos 2 *ℤ z
twice z = omega (arith, ints)

pub returns : goal.returns
returns c =
    let u = c.args.p.u in
    let v = c.args.p.v in
    let w = c.args.self.now in
    let r = rule w.a w.b w.c w.rule in
    let a = known c.part.type_inv (c.part.ensures.value ∙ (λ i. read (fits_small _ (a_size r)) i *ℤ pos (u * u))) in
    let b = known c.part-2.type_inv (c.part-2.ensures.value ∙ (λ i. read (fits_small _ (b_size r)) i *ℤ pos (v * v))) in
    let mixed = known c.part-mixed.type_inv (c.part-mixed.ensures.value ∙ (λ i. read (fits_small _ (c_size r)) i *ℤ pos (u * v))) in
    known c.sum-2.type_inv
    (c.sum-2.ensures.value
    ∙ (λ i.
    known c.sum-squares.type_inv (c.sum-squares.ensures.value ∙ (λ j. a j +ℤ b j)) i
    +ℤ known c.sum.type_inv (c.sum.ensures.value ∙ (λ j. mixed j +ℤ mixed j) ∙ twice _) i))
