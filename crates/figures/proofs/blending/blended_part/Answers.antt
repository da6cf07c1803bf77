-- The three numbers are those of the mix's masters, all in range.
use Rattle.std.proofs.Common.{◌≡◌, ℕ, zero, suc, ◌<◌, length, get_or, ℤ, pos, sym, ◌∙◌, subst, arith, lit<, rules}
use Rattle.std.proofs.lemmas.List.{get_or_read}
use Rattle.plane.proofs.Fitting.{known}
use Rattle.figures.specs.Figures.{InRange}
use Rattle.figures.proofs.Listed.{callable_on_all}
use Rattle.figures.proofs.Means.{in_range, by_three}
use Rattle.figures.proofs.Passing.{narrow_size}
use Rattle.figures.proofs.blending.blended_part.Given as given
use Rattle.figures.proofs.blending.blended_part.Goals as goal

pub map-numbers-requires : goal.map-numbers-requires
map-numbers-requires g c =
    let mix = c.args.mix.now in
    let listed : (x k : ℕ) → k < length mix.masters → x ≡ get_or mix.masters k x → x < length c.args.figures.now =
    λ x k l e. let s = mix.known k (omega arith) in let d = get_or_read mix.masters k x l e 0 in omega arith
    in (
      search rules,
      (
        search rules,
        (
          search rules,
          callable_on_all mix.masters (λ x q k. search rules) (λ x k l e. let s = listed x k l e in search rules),
        ),
      ),
    )

-- what the closure gave for each master
ranged : (g : given.Over) (c : goal.After-map-numbers g) (i : ℕ) → i < 3
    → InRange g.F.Figure.range (get_or c.map-numbers.result i (pos 0))
ranged g c zero l = search rules
ranged g c (suc zero) l = search rules
ranged g c (suc (suc zero)) l = search rules
ranged g c (suc (suc (suc i))) l = absurd (omega arith)

valued : (g : given.Over) (c : goal.After-map-numbers g) (past : g.row.F.Denot) (i : ℕ) → i < 3
    → get_or c.map-numbers.result i (pos 0)
    ≡ g.F.Figure.number (get_or c.args.figures.now (get_or c.args.mix.now.masters i 0) past) c.args.p
valued g c past zero l = search rules
valued g c past (suc zero) l = search rules
valued g c past (suc (suc zero)) l = search rules
valued g c past (suc (suc (suc i))) l = absurd (omega arith)

pub blended-requires : goal.blended-requires
blended-requires g c i l = narrow_size g.met.F.Figure.narrow (ranged g c i l)

pub returns : goal.returns
returns g c =
    let value = known c.blended.type_inv c.blended.ensures in
    let range = g.F.Figure.range in
    record {
      value = λ past. value ∙ by_three c.args.mix.now _ _
          (valued g c.before past 0 (lit< tt)) (valued g c.before past 1 (lit< tt)) (valued g c.before past 2 (lit< tt));
      ranged = subst (λ (z : ℤ). InRange range z) (sym value)
          (in_range c.args.mix.now _ range
          (ranged g c.before 0 (lit< tt)) (ranged g c.before 1 (lit< tt)) (ranged g c.before 2 (lit< tt)));
    }
