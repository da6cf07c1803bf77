-- The three sides of a triangle by number, 0 to 2, and the edge of the hole at such a side.
use Rattle.std.proofs.Common.{◌≡◌, ℕ, zero, suc, inl, inr}
use Rattle.plane.specs.Plane.{Position}
use Rattle.plane.specs.Measures.{Heights}
use Rattle.plane.specs.Rings.{Inside, NotIn}
use Rattle.plane.specs.Holes.{Masters, Live, Border, Spared, Rim}
use Rattle.plane.specs.LiveTriangles.{live_turned, inside_turned, not_in_turned}

pub record Triangle : Type 0 where
  pub a : Position
  pub b : Position
  pub c : Position

abbrev pub vertex_at : Triangle → ℕ → Position
vertex_at t zero = t.a
vertex_at t (suc zero) = t.b
vertex_at t (suc (suc n)) = t.c

abbrev pub next : ℕ → ℕ
next zero = 1
next (suc zero) = 2
next (suc (suc n)) = 0

-- Side e runs from vertex e to the next one, and the apex is the vertex that is left.
abbrev pub from : Triangle → ℕ → Position
from t e = vertex_at t e

abbrev pub to : Triangle → ℕ → Position
to t e = vertex_at t (next e)

abbrev pub apex : Triangle → ℕ → Position
apex t e = vertex_at t (next (next e))

-- What can be turned round holds from each side.
pub each_side : (P : Position → Position → Position → Type 0) → ((a b c : Position) → P a b c → P b c a)
    → (t : Triangle) (e : ℕ) → P t.a t.b t.c → P (from t e) (to t e) (apex t e)
each_side P turned t zero i = i
each_side P turned t (suc zero) i = turned t.a t.b t.c i
each_side P turned t (suc (suc n)) i = turned t.b t.c t.a (turned t.a t.b t.c i)

module _ {h : Heights} where
  pub inside_side : {p : Position} (t : Triangle) (e : ℕ) → Inside h t.a t.b t.c p
      → Inside h (from t e) (to t e) (apex t e) p
  inside_side {p} = each_side (λ a b c. Inside h a b c p) (λ a b c i. inside_turned i)

  pub not_in_side : {p : Position} (t : Triangle) (e : ℕ) → NotIn h t.a t.b t.c p
      → NotIn h (from t e) (to t e) (apex t e) p
  not_in_side {p} = each_side (λ a b c. NotIn h a b c p) (λ a b c i. not_in_turned i)

module _ {h : Heights} {M : Masters} where
  pub live_side : (t : Triangle) (e : ℕ) → Live h M t.a t.b t.c → Live h M (from t e) (to t e) (apex t e)
  live_side = each_side (Live h M) (λ a b c o. live_turned o)

  -- Side e of a killed triangle t is an edge of the hole where it is on the border,
  pub rim_outer : {p : Position} (t : Triangle) (e : ℕ) → Live h M t.a t.b t.c
      → Inside h t.a t.b t.c p → Border (from t e) (to t e) → Rim h M p (from t e) (to t e)
  rim_outer t e live killed o =
      record { c = apex t e; father = live_side t e live; killed = inside_side t e killed; across = inl o }

  -- and where a live triangle s that is not killed runs back along it by its side f.
  pub rim_inner : {p : Position} (t s : Triangle) (e f : ℕ) → Live h M t.a t.b t.c
      → Inside h t.a t.b t.c p → Live h M s.a s.b s.c → NotIn h s.a s.b s.c p
      → from s f ≡ to t e → to s f ≡ from t e → Rim h M p (from t e) (to t e)
  rim_inner {p} t s e f live killed other stays start end =
      record { c = apex t e; father = live_side t e live; killed = inside_side t e killed; across = inr spared }
    where
      along : Spared h M p (from s f) (to s f)
      along = record { d = apex s f; live = live_side s f other; spared = not_in_side s f stays }

      spared : Spared h M p (to t e) (from t e)
      spared = rw (← start, ← end) along
