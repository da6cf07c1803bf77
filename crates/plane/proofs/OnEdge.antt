-- A position inside a ring and on the line of an edge stands between the edge's two ends.
use Rattle.std.proofs.Common.{◌≡◌, ◌≢◌, pos, sym, subst, arith}
use Rattle.std.proofs.lemmas.Int.{ints}
use Rattle.plane.specs.Plane.{Position, InPlane, turn, Left, NotLeft, Around}
use Rattle.plane.specs.Measures.{Heights, Supported}
use Rattle.plane.specs.Rings.{K, Inside}
use Rattle.plane.specs.Turns.{turn_cycle, turn_swap, turn_last, K_first, K_mid, K_same}
use Rattle.plane.specs.Strict.{apart, turned, left_unless, around, around_turned, strict}
use Rattle.plane.specs.LiveTriangles.{inside_turned}

-- No master is inside its own ring.
inside_apart : {h : Heights} {a b c p : Position} → Inside h a b c p → p ≢ c
inside_apart {h} {a} {b} {c} {p} i e =
    let z = subst (λ x. K h a b c x ≡ pos 0) (sym e) (K_same h a b c) in omega (arith, ints)

module _ {h : Heights} (law : Supported h) {a b c p : Position} (ia : InPlane a) (ib : InPlane b) (ic : InPlane c)
    (ip : InPlane p) (l : Left a b c) (i : Inside h a b c p) (line : turn a b p ≡ pos 0) where
  -- If p were not past a, the triangle p, b, c would turn around a, and its ring would hold a: then that of a, b, c would
  -- not hold p.
  around_a : NotLeft p c a → Around p b c a
  around_a n = around l (omega (arith, ints, turn_swap p c a, turn_cycle a c p)) (omega (arith, ints, turn_last a b p))

  holds_a : Around p b c a → Inside h p b c a
  holds_a r =
      let n = inside_apart (inside_turned i) in
      strict (law a ia) ip ib ic r n (λ e. apart l (sym e)) (apart (turned (turned l)))

  past_a : Left p c a
  past_a = left_unless (λ n. omega (arith, ints, holds_a (around_a n), K_first h a b c p))

  -- The same for b.
  around_b : NotLeft p b c → Around a p c b
  around_b n =
      around_turned (around_turned
      (around (turned l) (omega (arith, ints, turn_swap a b p)) (omega (arith, ints, turn_swap p b c))))

  holds_b : Around a p c b → Inside h a p c b
  holds_b r =
      let n = inside_apart (inside_turned (inside_turned i)) in
      strict (law b ib) ia ip ic r (apart l) n (λ e. apart (turned l) (sym e))

  before_b : Left p b c
  before_b = left_unless (λ n. omega (arith, ints, holds_b (around_b n), K_mid h a b c p))

  pub between : Left p b c × Left p c a
  between = (before_b, past_a)
