-- Where the ring of a new triangle a, b, p lies: on the left of the edge a b in the ring of its father a, b, c, which p
-- killed, and on its right in the ring of its stepfather b, a, d, across the edge. A ring holds what is inside it, and
-- reaches what is inside it or on it.
use Rattle.std.proofs.Common.{◌≡◌, ℤ, pos, ◌+ℤ◌, ◌*ℤ◌, ◌≤ℤ◌, ◌<ℤ◌, arith}
use Rattle.std.proofs.lemmas.Int.{ints}
use Rattle.algebra.proofs.Signs.{
  mul_pos,
  mul_neg,
  mul_nonneg,
  mul_nonpos,
  mul_both_nonpos,
  pos_of_mul,
  nonneg_of_mul,
  pos_of_mul_neg,
}
use Rattle.plane.specs.Plane.{Position, turn, Left, NotRight, NotLeft}
use Rattle.plane.specs.Measures.{Heights}
use Rattle.plane.specs.Rings.{K, Inside, NotIn, NotOut}
use Rattle.plane.specs.Turns.{K_last, exchange, exchange_back}

-- What the sign of k says of the sign of l.
record Carried (k l : ℤ) : Type 0 where
  holds : pos 0 <ℤ k → pos 0 <ℤ l
  reaches : pos 0 ≤ℤ k → pos 0 ≤ℤ l

carried : (m t r : ℤ) {k l : ℤ} → m *ℤ l ≡ t *ℤ k +ℤ r → pos 0 <ℤ m → pos 0 <ℤ t → pos 0 ≤ℤ r → Carried k l
carried m t r {k} {l} e hm ht hr =
    record {
      holds = λ i. pos_of_mul m l (omega (arith, ints)) (let p = mul_pos t k ht i in omega (arith, ints));
      reaches = λ i. nonneg_of_mul m l hm (let p = mul_nonneg t k (omega (arith, ints)) i in omega (arith, ints));
    }

module _ {h : Heights} {a b p : Position} where
  to_father : {c x : Position} → Left a b c → Inside h a b c p → Left a b p → NotRight a b x
      → Carried (K h a b p x) (K h a b c x)
  to_father {c} {x} father killed new side =
      let r = mul_nonneg (turn a b x) (K h a b c p) side.not_right (omega (arith, ints)) in
      carried (turn a b p) (turn a b c) (turn a b x *ℤ K h a b c p) (exchange h a b c p x) new.left father.left r

  pub father_holds : {c x : Position} → Left a b c → Inside h a b c p → Left a b p → NotRight a b x
      → Inside h a b p x → Inside h a b c x
  father_holds father killed new side i = record { inside = (to_father father killed new side).holds i.inside }

  pub father_reaches : {c x : Position} → Left a b c → Inside h a b c p → Left a b p → NotRight a b x
      → NotOut h a b p x → NotOut h a b c x
  father_reaches father killed new side i = record { not_out = (to_father father killed new side).reaches i.not_out }

  to_stepfather : {d x : Position} → Left b a d → NotIn h b a d p → Left a b p → NotLeft a b x
      → Carried (K h a b p x) (K h b a d x)
  to_stepfather {d} {x} old spared new side =
      let r = mul_both_nonpos (turn a b x) (K h b a d p) side.not_left spared.not_in in
      carried (turn a b p) (turn b a d) (turn a b x *ℤ K h b a d p) (exchange_back h a b d p x) new.left old.left r

  pub stepfather_holds : {d x : Position} → Left b a d → NotIn h b a d p → Left a b p → NotLeft a b x
      → Inside h a b p x → Inside h b a d x
  stepfather_holds old spared new side i = record { inside = (to_stepfather old spared new side).holds i.inside }

  pub stepfather_reaches : {d x : Position} → Left b a d → NotIn h b a d p → Left a b p → NotLeft a b x
      → NotOut h a b p x → NotOut h b a d x
  stepfather_reaches old spared new side i = record { not_out = (to_stepfather old spared new side).reaches i.not_out }

  -- Of two neighbouring triangles the ring of the first holds p, and that of the second holds neither p nor the first's
  -- third master: then p is on the first one's side of their edge.
  pub ahead : {c d : Position} → Left a b c → Left b a d → Inside h a b c p → NotIn h b a d p → NotIn h b a d c
      → Left a b p
  ahead {c} {d} father step killed spared empty =
      let e = exchange_back h a b d p c in
      let f = mul_neg (turn b a d) (K h a b p c) step.left (omega (arith, ints, K_last h a b c p)) in
      let g = mul_nonpos (turn a b c) (K h b a d p) (omega (arith, ints)) spared.not_in in
      record { left = pos_of_mul_neg (turn a b p) (K h b a d c) empty.not_in (omega (arith, ints)) }
