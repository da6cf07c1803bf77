-- Positions, turns, weights and crossings: what the mesh decides by the sign of an integer.
use Rattle.std.specs.Prelude.{◌≡◌, ℕ, ◌<◌, ◌≤◌, Bool, cond, ◌&&◌, ℤ, pos, negsuc, ◌+ℤ◌, ◌-ℤ◌, ◌*ℤ◌, ◌≤ℤ◌, ◌<ℤ◌, int_lt, nat_le, nat_lt, unsigned_abs}
pub use Rattle.plane.specs.declared.position.Position.{Position}

-- The plane is 0 to 4,096 along u and along v.
pub record InPlane (q : Position) : Type 0 where
  pub u_in : q.u ≤ 4096
  pub v_in : q.v ≤ 4096

-- A signed number of size at most m.
pub record Size (z : ℤ) (m : ℕ) : Type 0 where
  pub size : unsigned_abs z ≤ m

-- Both coordinates are at most m.
pub record Spans (m : ℕ) (q : Position) : Type 0 where
  pub u_most : q.u ≤ m
  pub v_most : q.v ≤ m

-- An inside position lies in the plane and not on its border.
pub record Within (q : Position) : Type 0 where
  pub u_above : 0 < q.u
  pub u_below : q.u < 4096
  pub v_above : 0 < q.v
  pub v_below : q.v < 4096

-- How far b lies from a, along u and along v.
abbrev pub along_u : Position → Position → ℤ
along_u a b = pos b.u -ℤ pos a.u

abbrev pub along_v : Position → Position → ℤ
along_v a b = pos b.v -ℤ pos a.v

-- Twice the area of the triangle a, b, c: positive where it turns left, negative where it turns right, 0 on one line.
unfoldable pub turn : Position → Position → Position → ℤ
turn a b c = along_u a b *ℤ along_v a c -ℤ along_v a b *ℤ along_u a c

-- The weights of q in a, b, c are turn q b c, turn q c a and turn q a b. These facts name their signs.
pub record Left (a b c : Position) : Type 0 where
  pub left : pos 0 <ℤ turn a b c

-- on the left or on the line
pub record NotRight (a b c : Position) : Type 0 where
  pub not_right : pos 0 ≤ℤ turn a b c

-- on the right or on the line
pub record NotLeft (a b c : Position) : Type 0 where
  pub not_left : turn a b c ≤ℤ pos 0

-- a, b, c turn left around q: they turn left, and no weight of q is negative
pub record Around (a b c q : Position) : Type 0 where
  pub weight_a : NotRight q b c
  pub weight_b : NotRight q c a
  pub weight_c : NotRight q a b
  pub total : Left a b c

-- The edge from a to b rises past the height v of q, its lower end counted and its upper not, with q on its left.
abbrev pub rises : Position → Position → Position → Bool
rises q a b = nat_le a.v q.v && (nat_lt q.v b.v && int_lt (pos 0) (turn a b q))

-- The edge falls past it, with q on its right.
abbrev pub falls : Position → Position → Position → Bool
falls q a b = nat_le b.v q.v && (nat_lt q.v a.v && int_lt (turn a b q) (pos 0))

-- The crossing of the edge from a to b at q.
unfoldable pub crossing : Position → Position → Position → ℤ
crossing q a b = cond (rises q a b) (pos 1) (cond (falls q a b) (negsuc 0) (pos 0))

abbrev pub crossings : Position → Position → Position → Position → ℤ
crossings q a b c = crossing q a b +ℤ crossing q b c +ℤ crossing q c a

-- A triangle owns q when its three crossings sum to 1.
abbrev pub Owns : Position → Position → Position → Position → Type 0
Owns a b c q = crossings q a b c ≡ pos 1
