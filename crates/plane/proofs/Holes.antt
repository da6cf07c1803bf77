-- The hole of a new master: at most one of its edges leaves a vertex, and what the new triangle on one of its edges is.
use Rattle.std.proofs.Common.{◌≡◌, ◌⊎◌, ℤ, pos, ◌+ℤ◌, ◌-ℤ◌, ◌*ℤ◌, ◌≤ℤ◌, ◌<ℤ◌, sym, refl, ◌∙◌, subst, inl, inr, arith}
use lib.IntN.{+ℤ_idr}
use Rattle.std.proofs.lemmas.Int.{ints, by_lt_z}
use Rattle.algebra.proofs.Signs.{
  mul_pos,
  mul_nonpos,
  mul_both_nonpos,
  pos_of_mul,
  neg_of_mul,
  nonpos_of_mul,
  same_of_mul,
  zero_times,
}
use Rattle.plane.specs.Plane.{Position, InPlane, Within, along_u, along_v, turn, Left, NotRight, NotLeft}
use Rattle.plane.specs.Measures.{Heights, Supported}
use Rattle.plane.specs.Rings.{K, Inside, NotIn, NotOut}
use Rattle.plane.specs.Holes.{Masters, Housed, also, Live, Border, Spared, Rim}
use Rattle.plane.specs.Turns.{
  turn_cycle,
  turn_last,
  exchange,
  exchange_back,
  K_mid,
  K_same,
  cone_u,
  cone_v,
  cone_near,
  cone_far,
}
use Rattle.plane.specs.Strict.{apart, strict_two}
use Rattle.plane.proofs.NewRings.{father_holds, father_reaches, stepfather_holds, stepfather_reaches, ahead}
use Rattle.plane.specs.LiveTriangles.{same_position, border_within}

-- Two edges leave b, and p is on the left of both. On the left of b x is a killed triangle b, x, z, and on the right of
-- b y a triangle y, b, w that stays. Then y is not on the left of b x: K h b x p y would be negative, and it would not.
not_sharper : {h : Heights} {b x y z w p : Position} → Left b x z → Inside h b x z p → NotIn h b x z y
    → Left y b w → NotIn h y b w p → NotIn h y b w x → Left b x p → Left b y p → NotLeft b x y
not_sharper {h} {b} {x} {y} {z} {w} {p} father killed empty_y step spared empty_x l r =
    record { not_left = by_lt_z (pos 0) (turn b x y) (λ s. absurd (never s)) (λ s. s) }
  where
    below : pos 0 <ℤ turn b x y → K h b x p y <ℤ pos 0
    below s =
        let e = exchange h b x z p y in
        let f = mul_nonpos (turn b x p) (K h b x z y) (omega (arith, ints)) empty_y.not_in in
        let g = mul_pos (turn b x y) (K h b x z p) s killed.inside in
        neg_of_mul (turn b x z) (K h b x p y) (omega (arith, ints)) (omega (arith, ints))

    above : pos 0 <ℤ turn b x y → K h b y p x ≤ℤ pos 0
    above s =
        let e = exchange_back h b y w p x in
        let f = mul_nonpos (turn b y p) (K h y b w x) (omega (arith, ints)) empty_x.not_in in
        let g = mul_both_nonpos (turn b y x) (K h y b w p) (omega (arith, ints, turn_last b x y)) spared.not_in in
        nonpos_of_mul (turn y b w) (K h b y p x) step.left (omega (arith, ints))

    never : pos 0 <ℤ turn b x y → ⊥
    never s = omega (arith, ints, below s, above s, K_mid h b x p y)

-- x and y stand on one ray from b. Where x is nearer, it stands on the edge b y of the triangle b, y, z;
on_edge : (b x p y z : Position) → turn b x y ≡ pos 0 → Left b x p → turn b x p <ℤ turn b y p → Left b y z
    → Left x y z × Left x z b × NotRight x b y
on_edge b x p y z e l s father = (far, near, omega (arith, ints, turn_cycle x b y, turn_last b x y))
  where
    positive : (m t r : ℤ) {l : ℤ} → m *ℤ l ≡ t -ℤ r → pos 0 <ℤ m → pos 0 <ℤ t → r ≡ pos 0 → pos 0 <ℤ l
    positive m t r {l} e hm ht hr = pos_of_mul m l (omega (arith, ints)) (omega (arith, ints))

    far : Left x y z
    far =
        let m = mul_pos (turn b y p -ℤ turn b x p) (turn b y z) (omega (arith, ints)) father.left in
        let r = zero_times (turn b x y) (turn p y z -ℤ turn b y z) e in
        record { left = positive (turn b y p) _ _ (cone_far b x p y z) (omega (arith, ints)) m r }

    near : Left x z b
    near =
        let m = mul_pos (turn b x p) (turn b y z) l.left father.left in
        let r = zero_times (turn b x y) (turn p z b) e in
        record { left = positive (turn b y p) _ _ (cone_near b x p y z) (omega (arith, ints)) m r }

-- where it is as near, it is y.
at_end : (b x p y : Position) → turn b x y ≡ pos 0 → Left b x p → turn b x p ≡ turn b y p → x ≡ y
at_end b x p y e l s = same_position same_u same_v
  where
    same : (X Y Z : ℤ) → turn b x p *ℤ Y ≡ turn b y p *ℤ X +ℤ turn b x y *ℤ Z → Y ≡ X
    same X Y Z f =
        same_of_mul (turn b x p) Y X l.left
        (f ∙ (λ i. sym s i *ℤ X +ℤ zero_times (turn b x y) Z e i) ∙ +ℤ_idr (turn b x p *ℤ X))

    same_u : x.u ≡ y.u
    same_u = let f = same (along_u b x) (along_u b y) (along_u b p) (cone_u b x p y) in omega (arith, ints)

    same_v : x.v ≡ y.v
    same_v = let f = same (along_v b x) (along_v b y) (along_v b p) (cone_v b x p y) in omega (arith, ints)

-- At most one edge of the hole leaves a vertex.
module _ {h : Heights} {M : Masters} (law : Supported h) (housed : Housed M) where
  not_beyond : {p b x y : Position} → Rim h M p b x → Rim h M p b y → Left b x p → Left b y p → NotLeft b x y
  not_beyond {p} {b} {x} {y} e f l r = by f.across
    where
      by : Border b y ⊎ Spared h M p y b → NotLeft b x y
      by (inl o) = omega (arith, ints, turn_last b x y, o.all x (housed x e.father.is_b))
      by (inr s) =
          not_sharper e.father.turns e.killed (e.father.empty y f.father.is_b) s.live.turns s.spared
          (s.live.empty x e.father.is_b) l r

  -- a nearer x would be inside the ring of the live triangle on b y
  not_nearer : {p b x y : Position} → Rim h M p b x → Rim h M p b y → Left b x p → turn b x y ≡ pos 0
      → turn b x p <ℤ turn b y p → ⊥
  not_nearer {p} {b} {x} {y} e f l line s =
      let o = f.father in
      let m = e.father.is_b in
      let n = on_edge b x p y f.c line l s o.turns in
      let ib = housed b o.is_a in
      let iy = housed y o.is_b in
      let ic = housed f.c o.is_c in
      omega (arith, ints, o.empty x m, strict_two (law x (housed x m)) ib iy ic n.0 n.1 n.2)

  pub one_start : {p b x y : Position} → Rim h M p b x → Rim h M p b y → Left b x p → Left b y p → x ≡ y
  one_start {p} {b} {x} {y} e f l r =
      by_lt_z (turn b x p) (turn b y p) (λ s. absurd (not_nearer e f l line s)) (λ s. not_farther s)
    where
      line : turn b x y ≡ pos 0
      line = omega (arith, ints, not_beyond e f l r, not_beyond f e r l, turn_last b x y)

      line_back : turn b y x ≡ pos 0
      line_back = omega (arith, ints, line, turn_last b x y)

      not_farther : turn b y p ≤ℤ turn b x p → x ≡ y
      not_farther s =
          by_lt_z (turn b y p) (turn b x p) (λ t. absurd (not_nearer f e r line_back t))
          (λ t. at_end b x p y line l (omega (arith, ints)))

-- What P says of the third master of the triangle across an edge. Across the border there is none.
abbrev pub Beyond : {h : Heights} {M : Masters} {p a b : Position} → (Position → Type 0)
    → Border a b ⊎ Spared h M p b a → Type 0
Beyond P (inl o) = ⊥
Beyond P (inr s) = P s.d

-- One edge of the hole.
module _ {h : Heights} {M : Masters} {p a b : Position} (e : Rim h M p a b) where
  -- The new master is on its left.
  pub rim_left : Within p → Left a b p
  rim_left w = by e.across
    where
      by : Border a b ⊎ Spared h M p b a → Left a b p
      by (inl o) = border_within o (apart e.father.turns) w
      by (inr s) =
          ahead e.father.turns s.live.turns e.killed s.spared (s.live.empty e.c e.father.is_c)

  -- A position of the plane is not right of the edge, or a triangle is across and it is not left of the edge.
  by_side : {x : Position} {F : Type 0} (P : Position → Type 0) → InPlane x → (NotRight a b x → F)
      → ((s : Spared h M p b a) → NotLeft a b x → P s.d) → F ⊎ Beyond P e.across
  by_side {x} {F} P ix front behind =
      by_lt_z (turn a b x) (pos 0) (λ s. right s e.across) (λ s. inl (front (record { not_right = s })))
    where
      right : turn a b x <ℤ pos 0 → (o : Border a b ⊎ Spared h M p b a) → F ⊎ Beyond P o
      right s (inl o) = absurd (omega (arith, ints, o.all x ix))
      right s (inr o) = inr (behind o (omega (arith, ints)))

  -- What the new ring holds, the father's or the stepfather's held; and so for what it reaches.
  pub rim_holds : Left a b p → {x : Position} → InPlane x → Inside h a b p x
      → Inside h a b e.c x ⊎ Beyond (λ d. Inside h b a d x) e.across
  rim_holds l {x} ix i =
      by_side (λ d. Inside h b a d x) ix (λ s. father_holds e.father.turns e.killed l s i)
      (λ o s. stepfather_holds o.live.turns o.spared l s i)

  pub rim_reaches : Left a b p → {x : Position} → InPlane x → NotOut h a b p x
      → NotOut h a b e.c x ⊎ Beyond (λ d. NotOut h b a d x) e.across
  rim_reaches l {x} ix i =
      by_side (λ d. NotOut h b a d x) ix (λ s. father_reaches e.father.turns e.killed l s i)
      (λ o s. stepfather_reaches o.live.turns o.spared l s i)

  -- The new triangle is live.
  pub rim_live : Housed M → Left a b p → Live h (also M p) a b p
  rim_live housed l =
      record { turns = l; is_a = inl e.father.is_a; is_b = inl e.father.is_b; is_c = inr refl; empty = by }
    where
      beyond : {m : Position} → M m → (o : Border a b ⊎ Spared h M p b a) → Beyond (λ d. Inside h b a d m) o → ⊥
      beyond k (inl o) i = i
      beyond {m} k (inr s) i = omega (arith, ints, s.live.empty m k)

      both : {m : Position} → M m → Inside h a b e.c m ⊎ Beyond (λ d. Inside h b a d m) e.across → ⊥
      both {m} k (inl i) = omega (arith, ints, e.father.empty m k)
      both k (inr i) = beyond k e.across i

      not_in_unless : {m : Position} → (Inside h a b p m → ⊥) → NotIn h a b p m
      not_in_unless {m} n =
          record { not_in = by_lt_z (pos 0) (K h a b p m) (λ i. absurd (n (record { inside = i }))) (λ i. i) }

      by : (m : Position) → also M p m → NotIn h a b p m
      by m (inl k) = not_in_unless (λ i. both k (rim_holds l (housed m k) i))
      by m (inr g) = subst (λ x. NotIn h a b p x) (sym g) (omega (arith, ints, K_same h a b p))
