-- Live triangles: named from another vertex, beside a new master, and around a position.
use Rattle.std.specs.Prelude.{◌≡◌, ℕ, ◌+◌, ◌-◌, ◌≤◌, ◌≢◌, ◌⊎◌, pos, ◌≤ℤ◌}
use Rattle.std.proofs.Common.{sym, subst, ap, inl, inr, arith}
use Rattle.std.proofs.Math.Decide.{ℕ_discrete}
use Rattle.std.proofs.lemmas.Int.{ints}
use Rattle.plane.specs.Plane.{Position, InPlane, Within, turn, Left, NotRight, Around}
use Rattle.plane.specs.Measures.{Heights, Supported}
use Rattle.plane.specs.Rings.{Inside, NotIn}
use Rattle.plane.specs.Holes.{Masters, Housed, also, Live, Border}
use Rattle.plane.specs.Turns.{step_u, step_v, K_cycle}
use Rattle.plane.specs.Strict.{turned, left_unless, strict}

-- Positions are the same where their coordinates are.
pub same_position : {a b : Position} → a.u ≡ b.u → a.v ≡ b.v → a ≡ b
same_position e f = λ i. record { u = e i; v = f i }

pub decide_position : (a b : Position) → Dec (a ≡ b)
decide_position a b = by (ℕ_discrete a.u b.u) (ℕ_discrete a.v b.v)
  where
    by : Dec (a.u ≡ b.u) → Dec (a.v ≡ b.v) → Dec (a ≡ b)
    by (yes e) (yes f) = yes (same_position e f)
    by (yes e) (no n) = no (λ g. n (ap (λ (x : Position). x.v) g))
    by (no n) f = no (λ g. n (ap (λ (x : Position). x.u) g))

-- A triangle named from its next vertex.
pub inside_turned : {h : Heights} {a b c q : Position} → Inside h a b c q → Inside h b c a q
inside_turned {h} {a} {b} {c} {q} i = omega (arith, ints, K_cycle h a b c q)

pub not_in_turned : {h : Heights} {a b c q : Position} → NotIn h a b c q → NotIn h b c a q
not_in_turned {h} {a} {b} {c} {q} n = omega (arith, ints, K_cycle h a b c q)

pub live_turned : {h : Heights} {M : Masters} {a b c : Position} → Live h M a b c → Live h M b c a
live_turned o =
    record {
      turns = turned o.turns;
      is_a = o.is_b;
      is_b = o.is_c;
      is_c = o.is_a;
      empty = λ m k. not_in_turned (o.empty m k);
    }

-- A live triangle stays live beside a new master that its ring does not hold.
pub live_stays : {h : Heights} {M : Masters} {p a b c : Position} → Live h M a b c → NotIn h a b c p
    → Live h (also M p) a b c
live_stays {h} {M} {p} {a} {b} {c} o n =
    record { turns = o.turns; is_a = inl o.is_a; is_b = inl o.is_b; is_c = inl o.is_c; empty = by }
  where
    by : (m : Position) → also M p m → NotIn h a b c m
    by m (inl k) = o.empty m k
    by m (inr e) = subst (λ x. NotIn h a b c x) (sym e) n

-- An inside position is strictly left of a border edge. On its line, the positions one step to either side would not be
-- right of the edge either, so the edge would have no length along u or along v.
pub border_within : {a b q : Position} → Border a b → a ≢ b → Within q → Left a b q
border_within {a} {b} {q} o n w =
    left_unless (λ l. n (same_position (same_u l.not_left) (same_v l.not_left)))
  where
    spot : ℕ → ℕ → Position
    spot m k = record { u = m; v = k }

    all : (m k : ℕ) → m ≤ 4096 → k ≤ 4096 → NotRight a b (spot m k)
    all m k i j = o.all (spot m k) (record { u_in = i; v_in = j })

    same_v : turn a b q ≤ℤ pos 0 → a.v ≡ b.v
    same_v l =
        let e : q.u ≡ q.u - 1 + 1 = omega arith in
        let here : turn a b (spot (q.u - 1 + 1) q.v) ≤ℤ pos 0 = rw (← e) l in
        let before = all (q.u - 1) q.v (omega arith) (omega arith) in
        let after = all (q.u - 1 + 1 + 1) q.v (omega arith) (omega arith) in
        omega (arith, ints, step_u a b (q.u - 1) q.v, step_u a b (q.u - 1 + 1) q.v)

    same_u : turn a b q ≤ℤ pos 0 → a.u ≡ b.u
    same_u l =
        let e : q.v ≡ q.v - 1 + 1 = omega arith in
        let here : turn a b (spot q.u (q.v - 1 + 1)) ≤ℤ pos 0 = rw (← e) l in
        let before = all q.u (q.v - 1) (omega arith) (omega arith) in
        let after = all q.u (q.v - 1 + 1 + 1) (omega arith) (omega arith) in
        omega (arith, ints, step_v a b q.u (q.v - 1), step_v a b q.u (q.v - 1 + 1))

-- A live triangle around q.
module _ {h : Heights} {M : Masters} (law : Supported h) (housed : Housed M) {a b c q : Position} (o : Live h M a b c)
    (r : Around a b c q) (iq : InPlane q) where
  inside : a ≢ q → b ≢ q → c ≢ q → Inside h a b c q
  inside = strict (law q iq) (housed a o.is_a) (housed b o.is_b) (housed c o.is_c) r

  -- Its ring holds q, where q is no master,
  pub holds : (M q → ⊥) → Inside h a b c q
  holds n = inside (λ e. n (subst M e o.is_a)) (λ e. n (subst M e o.is_b)) (λ e. n (subst M e o.is_c))

  -- and where q is a master, it is one of the triangle's.
  pub vertex : M q → (a ≡ q) ⊎ (b ≡ q) ⊎ (c ≡ q)
  vertex m = by (decide_position a q) (decide_position b q) (decide_position c q)
    where
      by : Dec (a ≡ q) → Dec (b ≡ q) → Dec (c ≡ q) → (a ≡ q) ⊎ (b ≡ q) ⊎ (c ≡ q)
      by (yes e) f g = inl e
      by (no x) (yes e) g = inr (inl e)
      by (no x) (no y) (yes e) = inr (inr e)
      by (no x) (no y) (no z) = absurd (omega (arith, ints, inside x y z, o.empty q m))
