-- Each turn is a share of the total, so it is a natural number.
use Rattle.std.proofs.Common.{◌≡◌, get_or, pos, arith, rules}
use Rattle.std.proofs.lemmas.Int.{ints}
use Rattle.plane.specs.Plane.{turn}
use Rattle.plane.specs.Turns.{weights_sum}
use Rattle.figures.specs.Weights.{Share}
use Rattle.figures.proofs.Listed.{callable_on_all}
use Rattle.figures.proofs.Owners.{shares, share_at, three_listed}
use Rattle.figures.proofs.mixing.owner_weights.Goals as goal

pub map-requires : goal.map-requires
map-requires c =
    let s = shares c.requires.housed c.requires.owned in (
      search rules,
      (
        search rules,
        (
          search rules,
          callable_on_all _ (λ x q k. search rules)
              (λ x k l e. let share : Share x = share_at s k (rw c.weights.ensures at l) (rw c.weights.ensures at e) in search rules),
        ),
      ),
    )

pub returns : goal.returns
returns c =
    let s = shares c.requires.housed c.requires.owned in
    let t = c.args.triangle in
    let e = weights_sum t.a t.b t.c c.args.q in
    let at_a : pos (get_or c.map.result 0 0) ≡ turn c.args.q t.b t.c = search rules in
    let at_b : pos (get_or c.map.result 1 0) ≡ turn c.args.q t.c t.a = search rules in
    let at_c : pos (get_or c.map.result 2 0) ≡ turn c.args.q t.a t.b = search rules in
    record {
      weighed = three_listed _ _ _ _ c.map.ensures.items.long at_a at_b at_c;
      summed = omega (arith, ints);
      some = omega (arith, ints);
      most = omega (arith, ints);
    }
