-- A rise of at most 2^33 times a turn in the plane, of at most 2^25.
use Rattle.std.proofs.Common.{lit<}
use Rattle.plane.proofs.Fitting.{sized, small_product, spans}
use Rattle.plane.proofs.triangle.Triangle.term.Goals as goal

pub product-requires : goal.product-requires
product-requires g c =
    let o = c.requires.housed in
    small_product (sized c.rise.type_inv c.rise.ensures.bound)
    (sized c.turn.type_inv (c.turn.ensures.bound 4096 (spans o.q_in) (spans o.b_in) (spans o.c_in))) (lit< tt)

pub returns-clause-bound : goal.returns-clause-bound
returns-clause-bound g c =
    let o = c.requires.housed in
    sized c.product.type_inv
    (c.product.ensures.bound _ _ (sized c.rise.type_inv c.rise.ensures.bound)
    (sized c.turn.type_inv (c.turn.ensures.bound 4096 (spans o.q_in) (spans o.b_in) (spans o.c_in))))
