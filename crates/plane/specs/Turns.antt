-- The polynomial identities of turn, K and blend. Each is tested by the solver on twins of the definitions: the same
-- formulas over expressions, whose value is the definition.
use Rattle.std.specs.Prelude.{◌≡◌, ℕ, ◌+◌, ◌*◌, List, [], ◌∷◌, ℤ, pos, ◌+ℤ◌, ◌-ℤ◌, ◌*ℤ◌, neg_ℤ}
use Rattle.algebra.proofs.Polynomials.{Expr, var, lit, ◌⊕◌, ◌⊗◌, ◌⊖◌, ⊝◌, solve}
use Rattle.plane.specs.Plane.{Position, along_u, along_v, turn}
use Rattle.plane.specs.Measures.{Heights, excess}
use Rattle.plane.specs.Rings.{K, blend}

-- A position and its height, as expressions.
pub record Point : Type 0 where
  pub pu : Expr
  pub pv : Expr
  pub height : Expr

-- The point number n has the variables 3n, 3n + 1 and 3n + 2. Other variables stand behind the points.
abbrev pub point : ℕ → Point
point n = record { pu = var (3 * n); pv = var (3 * n + 1); height = var (3 * n + 2) }

abbrev pub values : Heights → List Position → List ℤ → List ℤ
values h [] others = others
values h (a ∷ rest) others = pos a.u ∷ pos a.v ∷ h a ∷ values h rest others

-- where no height is asked for
abbrev pub flat : Heights
flat a = pos 0

abbrev pub turn_e : Point → Point → Point → Expr
turn_e a b c = (b.pu ⊖ a.pu) ⊗ (c.pv ⊖ a.pv) ⊖ (b.pv ⊖ a.pv) ⊗ (c.pu ⊖ a.pu)

abbrev pub K_e : Point → Point → Point → Point → Expr
K_e a b c q =
    (a.height ⊖ q.height) ⊗ turn_e q b c ⊕ (b.height ⊖ q.height) ⊗ turn_e q c a
    ⊕ (c.height ⊖ q.height) ⊗ turn_e q a b

abbrev pub blend_e : Point → Point → Point → Point → Expr
blend_e a b c q = a.height ⊗ turn_e q b c ⊕ b.height ⊗ turn_e q c a ⊕ c.height ⊗ turn_e q a b

-- The points of the identities below, in the order in which their environments list the positions.
abbrev A : Point
A = point 0

abbrev B : Point
B = point 1

abbrev C : Point
C = point 2

abbrev D : Point
D = point 3

abbrev E : Point
E = point 4

abbrev F : Point
F = point 5

abbrev G : Point
G = point 6

-- Exchanging and turning round the arguments of turn.
pub turn_cycle : (a b c : Position) → turn b c a ≡ turn a b c
unfolding turn
turn_cycle a b c = solve (turn_e B C A) (turn_e A B C) tt (values flat (a ∷ b ∷ c ∷ []) [])

pub turn_swap : (a b c : Position) → turn b a c ≡ neg_ℤ (turn a b c)
unfolding turn
turn_swap a b c = solve (turn_e B A C) (⊝ turn_e A B C) tt (values flat (a ∷ b ∷ c ∷ []) [])

pub turn_last : (a b c : Position) → turn a c b ≡ neg_ℤ (turn a b c)
unfolding turn
turn_last a b c = solve (turn_e A C B) (⊝ turn_e A B C) tt (values flat (a ∷ b ∷ c ∷ []) [])

pub turn_same : (a c : Position) → turn a a c ≡ pos 0
unfolding turn
turn_same a c = solve (turn_e A A B) (lit (pos 0)) tt (values flat (a ∷ c ∷ []) [])

-- The three weights sum to the total, and reproduce each coordinate.
pub weights_sum : (a b c q : Position) → turn q b c +ℤ turn q c a +ℤ turn q a b ≡ turn a b c
unfolding turn
weights_sum a b c q =
    solve (turn_e D B C ⊕ turn_e D C A ⊕ turn_e D A B) (turn_e A B C) tt (values flat (a ∷ b ∷ c ∷ q ∷ []) [])

pub weights_u : (a b c q : Position)
    → turn q b c *ℤ along_u q a +ℤ turn q c a *ℤ along_u q b +ℤ turn q a b *ℤ along_u q c ≡ pos 0
unfolding turn
weights_u a b c q =
    solve
    (turn_e D B C ⊗ (A.pu ⊖ D.pu) ⊕ turn_e D C A ⊗ (B.pu ⊖ D.pu) ⊕ turn_e D A B ⊗ (C.pu ⊖ D.pu))
    (lit (pos 0)) tt (values flat (a ∷ b ∷ c ∷ q ∷ []) [])

pub weights_v : (a b c q : Position)
    → turn q b c *ℤ along_v q a +ℤ turn q c a *ℤ along_v q b +ℤ turn q a b *ℤ along_v q c ≡ pos 0
unfolding turn
weights_v a b c q =
    solve
    (turn_e D B C ⊗ (A.pv ⊖ D.pv) ⊕ turn_e D C A ⊗ (B.pv ⊖ D.pv) ⊕ turn_e D A B ⊗ (C.pv ⊖ D.pv))
    (lit (pos 0)) tt (values flat (a ∷ b ∷ c ∷ q ∷ []) [])

-- Seen from b, y is made of x and p: in the coordinates,
pub cone_u : (b x p y : Position) → turn b x p *ℤ along_u b y ≡ turn b y p *ℤ along_u b x +ℤ turn b x y *ℤ along_u b p
unfolding turn
cone_u b x p y =
    solve (turn_e A B C ⊗ (D.pu ⊖ A.pu)) (turn_e A D C ⊗ (B.pu ⊖ A.pu) ⊕ turn_e A B D ⊗ (C.pu ⊖ A.pu)) tt
    (values flat (b ∷ x ∷ p ∷ y ∷ []) [])

pub cone_v : (b x p y : Position) → turn b x p *ℤ along_v b y ≡ turn b y p *ℤ along_v b x +ℤ turn b x y *ℤ along_v b p
unfolding turn
cone_v b x p y =
    solve (turn_e A B C ⊗ (D.pv ⊖ A.pv)) (turn_e A D C ⊗ (B.pv ⊖ A.pv) ⊕ turn_e A B D ⊗ (C.pv ⊖ A.pv)) tt
    (values flat (b ∷ x ∷ p ∷ y ∷ []) [])

-- and in two of the weights of x in b, y, z.
pub cone_far : (b x p y z : Position)
    → turn b y p *ℤ turn x y z
    ≡ (turn b y p -ℤ turn b x p) *ℤ turn b y z -ℤ turn b x y *ℤ (turn p y z -ℤ turn b y z)
unfolding turn
cone_far b x p y z =
    solve (turn_e A D C ⊗ turn_e B D E)
    ((turn_e A D C ⊖ turn_e A B C) ⊗ turn_e A D E ⊖ turn_e A B D ⊗ (turn_e C D E ⊖ turn_e A D E)) tt
    (values flat (b ∷ x ∷ p ∷ y ∷ z ∷ []) [])

pub cone_near : (b x p y z : Position)
    → turn b y p *ℤ turn x z b ≡ turn b x p *ℤ turn b y z -ℤ turn b x y *ℤ turn p z b
unfolding turn
cone_near b x p y z =
    solve (turn_e A D C ⊗ turn_e B E A) (turn_e A B C ⊗ turn_e A D E ⊖ turn_e A B D ⊗ turn_e C E A) tt
    (values flat (b ∷ x ∷ p ∷ y ∷ z ∷ []) [])

-- One step along u, and one along v.
pub step_u : (a b : Position) (m n : ℕ)
    → turn a b (record { u = m + 1; v = n }) ≡ turn a b (record { u = m; v = n }) -ℤ along_v a b
unfolding turn
step_u a b m n =
    solve (turn_e A B (record { pu = C.pu ⊕ lit (pos 1); pv = C.pv; height = C.height }))
    (turn_e A B C ⊖ (B.pv ⊖ A.pv)) tt (values flat (a ∷ b ∷ record { u = m; v = n } ∷ []) [])

pub step_v : (a b : Position) (m n : ℕ)
    → turn a b (record { u = m; v = n + 1 }) ≡ turn a b (record { u = m; v = n }) +ℤ along_u a b
unfolding turn
step_v a b m n =
    solve (turn_e A B (record { pu = C.pu; pv = C.pv ⊕ lit (pos 1); height = C.height }))
    (turn_e A B C ⊕ (B.pu ⊖ A.pu)) tt (values flat (a ∷ b ∷ record { u = m; v = n } ∷ []) [])

-- The doubled area, edge by edge: an antisymmetric number of each edge, and their sum is the turn.
abbrev pub area : Position → Position → ℤ
area a b = pos a.u *ℤ pos b.v -ℤ pos a.v *ℤ pos b.u

abbrev area_e : Point → Point → Expr
area_e a b = a.pu ⊗ b.pv ⊖ a.pv ⊗ b.pu

pub areas : (a b c : Position) → area a b +ℤ area b c +ℤ area c a ≡ turn a b c
unfolding turn
areas a b c =
    solve (area_e A B ⊕ area_e B C ⊕ area_e C A) (turn_e A B C) tt (values flat (a ∷ b ∷ c ∷ []) [])

-- A plane scaled by k: positions with the denominator k are its positions.
abbrev pub scale : ℕ → Position → Position
scale k a = record { u = k * a.u; v = k * a.v }

abbrev scale_e : Expr → Point → Point
scale_e k a = record { pu = k ⊗ a.pu; pv = k ⊗ a.pv; height = a.height }

pub turn_scale : (k : ℕ) (a b c : Position)
    → turn (scale k a) (scale k b) (scale k c) ≡ pos k *ℤ pos k *ℤ turn a b c
unfolding turn
turn_scale k a b c =
    let s = scale_e (var 9) in
    solve (turn_e (s A) (s B) (s C)) (var 9 ⊗ var 9 ⊗ turn_e A B C) tt (values flat (a ∷ b ∷ c ∷ []) (pos k ∷ []))

-- The centroid, at scale 3: each weight is a third of the total.
abbrev pub centroid : Position → Position → Position → Position
centroid a b c = record { u = a.u + b.u + c.u; v = a.v + b.v + c.v }

pub turn_centroid : (a b c : Position)
    → (turn (centroid a b c) (scale 3 b) (scale 3 c) ≡ pos 3 *ℤ turn a b c)
    × (turn (centroid a b c) (scale 3 c) (scale 3 a) ≡ pos 3 *ℤ turn a b c)
    × (turn (centroid a b c) (scale 3 a) (scale 3 b) ≡ pos 3 *ℤ turn a b c)
unfolding turn
turn_centroid a b c =
    let ρ = values flat (a ∷ b ∷ c ∷ []) [] in
    let s = scale_e (lit (pos 3)) in
    let m : Point = record { pu = A.pu ⊕ B.pu ⊕ C.pu; pv = A.pv ⊕ B.pv ⊕ C.pv; height = A.height } in
    let third : Expr = lit (pos 3) ⊗ turn_e A B C in (
      solve (turn_e m (s B) (s C)) third tt ρ,
      solve (turn_e m (s C) (s A)) third tt ρ,
      solve (turn_e m (s A) (s B)) third tt ρ,
    )

abbrev excess_e : Expr → Expr → Point → Point → Expr
excess_e s t p q =
    lit (pos 2) ⊗ q.height ⊖ (lit (pos 2) ⊗ p.height ⊕ s ⊗ (q.pu ⊖ p.pu) ⊕ t ⊗ (q.pv ⊖ p.pv))

module _ (h : Heights) where
  -- K changes its sign where two of its four arguments are exchanged.
  pub K_cycle : (a b c q : Position) → K h b c a q ≡ K h a b c q
  unfolding K turn
  K_cycle a b c q = solve (K_e B C A D) (K_e A B C D) tt (values h (a ∷ b ∷ c ∷ q ∷ []) [])

  pub K_swap : (a b c q : Position) → K h b a c q ≡ neg_ℤ (K h a b c q)
  unfolding K turn
  K_swap a b c q = solve (K_e B A C D) (⊝ K_e A B C D) tt (values h (a ∷ b ∷ c ∷ q ∷ []) [])

  pub K_last : (a b c q : Position) → K h a b q c ≡ neg_ℤ (K h a b c q)
  unfolding K turn
  K_last a b c q = solve (K_e A B D C) (⊝ K_e A B C D) tt (values h (a ∷ b ∷ c ∷ q ∷ []) [])

  pub K_mid : (a b c q : Position) → K h a q c b ≡ neg_ℤ (K h a b c q)
  unfolding K turn
  K_mid a b c q = solve (K_e A D C B) (⊝ K_e A B C D) tt (values h (a ∷ b ∷ c ∷ q ∷ []) [])

  pub K_first : (a b c q : Position) → K h q b c a ≡ neg_ℤ (K h a b c q)
  unfolding K turn
  K_first a b c q = solve (K_e D B C A) (⊝ K_e A B C D) tt (values h (a ∷ b ∷ c ∷ q ∷ []) [])

  pub K_same : (a b c : Position) → K h a b c c ≡ pos 0
  unfolding K turn
  K_same a b c = solve (K_e A B C C) (lit (pos 0)) tt (values h (a ∷ b ∷ c ∷ []) [])

  -- K is the blended height less the height itself.
  pub K_blend : (a b c q : Position) → K h a b c q ≡ blend h a b c q -ℤ h q *ℤ turn a b c
  unfolding K blend turn
  K_blend a b c q =
      solve (K_e A B C D) (blend_e A B C D ⊖ D.height ⊗ turn_e A B C) tt (values h (a ∷ b ∷ c ∷ q ∷ []) [])

  -- The exchange: over one edge a b, the ring numbers with two third masters c and p differ by a multiple of the turn.
  pub exchange : (a b c p x : Position)
      → turn a b p *ℤ K h a b c x ≡ turn a b c *ℤ K h a b p x +ℤ turn a b x *ℤ K h a b c p
  unfolding K turn
  exchange a b c p x =
      solve (turn_e A B D ⊗ K_e A B C E) (turn_e A B C ⊗ K_e A B D E ⊕ turn_e A B E ⊗ K_e A B C D) tt
      (values h (a ∷ b ∷ c ∷ p ∷ x ∷ []) [])

  -- the same with the third master d on the other side of the edge
  pub exchange_back : (a b d p x : Position)
      → turn a b p *ℤ K h b a d x ≡ turn b a d *ℤ K h a b p x +ℤ turn a b x *ℤ K h b a d p
  unfolding K turn
  exchange_back a b d p x =
      solve (turn_e A B D ⊗ K_e B A C E) (turn_e B A C ⊗ K_e A B D E ⊕ turn_e A B E ⊗ K_e B A C D) tt
      (values h (a ∷ b ∷ d ∷ p ∷ x ∷ []) [])

  -- Twice K is the excess over any plane through q, summed by weights.
  pub K_excess : (s t : ℤ) (a b c q : Position)
      → pos 2 *ℤ K h a b c q
      ≡ turn q b c *ℤ excess h s t q a +ℤ turn q c a *ℤ excess h s t q b +ℤ turn q a b *ℤ excess h s t q c
  unfolding K turn
  K_excess s t a b c q =
      let over = excess_e (var 12) (var 13) D in
      solve (lit (pos 2) ⊗ K_e A B C D) (turn_e D B C ⊗ over A ⊕ turn_e D C A ⊗ over B ⊕ turn_e D A B ⊗ over C) tt
      (values h (a ∷ b ∷ c ∷ q ∷ []) (s ∷ t ∷ []))

  -- The blends at q of two triangles differ by the ring numbers of one triangle at the other's masters.
  pub blend_blend : (a b c x y z q : Position)
      → turn x y z *ℤ blend h a b c q
      ≡ turn a b c *ℤ blend h x y z q
      +ℤ (turn q y z *ℤ K h a b c x +ℤ turn q z x *ℤ K h a b c y +ℤ turn q x y *ℤ K h a b c z)
  unfolding K blend turn
  blend_blend a b c x y z q =
      solve (turn_e D E F ⊗ blend_e A B C G)
      (turn_e A B C ⊗ blend_e D E F G
      ⊕ (turn_e G E F ⊗ K_e A B C D ⊕ turn_e G F D ⊗ K_e A B C E ⊕ turn_e G D E ⊗ K_e A B C F))
      tt (values h (a ∷ b ∷ c ∷ x ∷ y ∷ z ∷ q ∷ []) [])
