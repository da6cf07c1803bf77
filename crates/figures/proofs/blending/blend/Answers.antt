-- Each part is the blended number of that part, and the other promises follow.
use Rattle.std.proofs.Common.{ℕ, zero, suc, ◌<◌, ◌∙◌, arith, rules}
use Rattle.plane.proofs.Fitting.{known}
use Rattle.figures.specs.Blends.{IsBlend}
use Rattle.figures.proofs.Laws.{lies_between, is_the_one, is_the_same}
use Rattle.figures.proofs.Passing.{passed_in_range}
use Rattle.figures.proofs.blending.blend.Given as given
use Rattle.figures.proofs.blending.blend.Goals as goal

part_is : (g : given.Over) (c : goal.After-blend_of g) (p : ℕ) → p < g.F.Figure.parts
    → IsBlend (λ f. g.F.Figure.number f p) c.args.figures.now c.args.mix.now
    (g.F.Figure.yielded c.blend_of.result p)
part_is g c zero l past =
    let part = c.blended_part-first in
    c.blend_of.ensures 0 l (passed_in_range g.met.F.Figure.narrow part.ensures.ranged)
    ∙ known part.type_inv (part.ensures.value past)
part_is g c (suc zero) l past =
    let part = c.blended_part-second in
    c.blend_of.ensures 1 l (passed_in_range g.met.F.Figure.narrow part.ensures.ranged)
    ∙ known part.type_inv (part.ensures.value past)
part_is g c (suc (suc p)) l past = absurd (let few = g.met.F.Figure.shape.few in omega arith)

pub returns : goal.returns
returns g c =
    let row = c.args.figures.now in
    let mix = c.args.mix.now in
    let number = g.F.Figure.number in
    record {
      refuses = search rules;
      blends = part_is g c;
      between = λ p l. lies_between (λ f. number f p) row mix _ (part_is g c p l);
      whole = λ p l. is_the_one (λ f. number f p) row mix _ (part_is g c p l);
      equal = λ p l. is_the_same (λ f. number f p) row mix _ (part_is g c p l) (omega arith);
    }
