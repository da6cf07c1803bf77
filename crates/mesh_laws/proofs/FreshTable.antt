-- The table of a family without placed masters: two nodes, six places, and each edge but the diagonal is on the border.
use Rattle.std.proofs.Common.{◌≡◌, ℕ, zero, suc, ◌+◌, ◌*◌, ◌/◌, ◌%◌, ◌<◌, Bool, true, false, cond, ◌&&◌, eqb, List, [], ◌∷◌, length, get_or, ℤ, ◌+ℤ◌, Some, None, Option, sym, refl, ap, ◌∙◌, subst, arith, lit<, below_none, below_more}
use Rattle.std.specs.List.{AllByRecursion as All}
use Rattle.std.proofs.lemmas.Int.{ints}
use Rattle.std.proofs.lemmas.Bool.{both_ways}
use Rattle.algebra.specs.Sums.{Antisymmetric, sum, only}
use Rattle.algebra.specs.Tables.{Table, Edge, OnLive, Twin, Twinned, edge_sum}
use Rattle.algebra.proofs.Passing.{among}
use Rattle.mesh.specs.Owner.{node}
use Rattle.mesh.specs.Placing.{start, across}
use Rattle.mesh.specs.Tree.{Mesh, corners, born, first_nodes}
use Rattle.mesh_laws.specs.Places.{table}
use Rattle.mesh_laws.specs.Steps.{Formed, AllFormed}
use Rattle.mesh_laws.proofs.Entries.{rounds_at}

-- What holds of each number below 2, 4 and 6.
pub each_two : (P : ℕ → Type 0) → P 0 → P 1 → (i : ℕ) → i < 2 → P i
each_two P a b = below_more P 1 (below_more P 0 (below_none P) a) b

pub each_four : (P : ℕ → Type 0) → P 0 → P 1 → P 2 → P 3 → (i : ℕ) → i < 4 → P i
each_four P a b c d = below_more P 3 (below_more P 2 (each_two P a b) c) d

pub each_six : (P : ℕ → Type 0) → P 0 → P 1 → P 2 → P 3 → P 4 → P 5 → (i : ℕ) → i < 6 → P i
each_six P a b c d e f = below_more P 5 (below_more P 4 (each_four P a b c d) e) f

-- What holds of each element and of the default holds of what is read.
read : {X : Type 0} (P : X → Type 0) (xs : List X) {d : X} → P d → All P xs → (k : ℕ) → P (get_or xs k d)
read P [] h all k = h
read P (x ∷ xs) h all zero = all.0
read P (x ∷ xs) h all (suc k) = read P xs h all.1 k

-- A node as it is made is formed, if its masters and neighbours are in use.
abbrev Names : ℕ → Option ℕ → Type 0
Names n o = (j : ℕ) → o ≡ Some j → j < n

none_names : {n : ℕ} → Names n None
none_names j e = absurd (let z : ◌≡◌ {A = ℕ} 0 1 = cc in omega arith)

some_names : {n k : ℕ} → k < n → Names n (Some k)
some_names {n} {k} l j e = let f : k ≡ j = cc in omega arith

pub formed_born : {m : Mesh} {i a b c : ℕ} {x y z f g : Option ℕ} →
    node m i ≡ born (a ∷ b ∷ c ∷ []) (x ∷ y ∷ z ∷ []) f g → 0 < length m.masters →
    All (λ k. k < length m.masters) (a ∷ b ∷ c ∷ []) → All (Names (length m.nodes)) (x ∷ y ∷ z ∷ []) → Formed m i
formed_born {m} {i} {a} {b} {c} {x} {y} {z} e some masters names = record {
  three_masters = ap (λ n. length n.masters) e;
  three_neighbours = ap (λ n. length n.neighbours) e;
  three_sons = ap (λ n. length n.sons) e;
  masters_in = λ k.
      subst (λ n. start n k < length m.masters) (sym e)
      (read (λ j. j < length m.masters) (a ∷ b ∷ c ∷ []) some masters k);
  neighbours_in = λ k.
      subst (λ n. Names (length m.nodes) (across n k)) (sym e)
      (read (Names (length m.nodes)) (x ∷ y ∷ z ∷ []) none_names names k);
  childless = λ l k.
      subst (λ n. get_or n.sons k None ≡ None) (sym e)
      (read (λ o. o ≡ None) (None ∷ None ∷ None ∷ []) refl (refl, (refl, (refl, tt))) k);
}

-- The tree of a family without placed masters, by whether its diagonal is 0–2.
abbrev pub first : Bool → Mesh
first flat = record { masters = corners; nodes = first_nodes flat }

pub first_two : (flat : Bool) → length (first flat).nodes ≡ 2
first_two true = refl
first_two false = refl

pub first_formed : (flat : Bool) → AllFormed (first flat)
first_formed true =
    each_two (Formed (first true))
    (formed_born refl (lit< tt) (lit< tt, (lit< tt, (lit< tt, tt)))
    (none_names, (none_names, (some_names (lit< tt), tt))))
    (formed_born refl (lit< tt) (lit< tt, (lit< tt, (lit< tt, tt)))
    (some_names (lit< tt), (none_names, (none_names, tt))))
first_formed false =
    each_two (Formed (first false))
    (formed_born refl (lit< tt) (lit< tt, (lit< tt, (lit< tt, tt)))
    (none_names, (some_names (lit< tt), (none_names, tt))))
    (formed_born refl (lit< tt) (lit< tt, (lit< tt, (lit< tt, tt)))
    (none_names, (none_names, (some_names (lit< tt), tt))))

-- The last place below n that runs from a to b; where there is none, past all places.
abbrev place_of : Table → ℕ → ℕ → ℕ → ℕ
place_of t a b zero = 3 * t.size
place_of t a b (suc x) = cond (eqb (t.from x) a && eqb (t.to x) b) x (place_of t a b x)

-- What is known of each of the six places: it alone runs as it does; on the border it is a side of the plane, and none
-- runs back along it; else it has a twin.
record Known (t : Table) (x : ℕ) : Type 0 where
  found : place_of t (t.from x) (t.to x) 6 ≡ x
  missing : t.border x ≡ true → place_of t (t.to x) (t.from x) 6 ≡ 6
  side : t.border x ≡ true → (t.from x < 4) × (t.to x ≡ (t.from x + 1) % 4)
  twin : t.border x ≡ false → Twin t (t.from x) (t.to x) (t.across x)

module _ (t : Table) (x : ℕ) where
  outer : t.border x ≡ true → place_of t (t.from x) (t.to x) 6 ≡ x → place_of t (t.to x) (t.from x) 6 ≡ 6 →
      t.from x < 4 → t.to x ≡ (t.from x + 1) % 4 → Known t x
  outer e f g a b =
      record { found = f; missing = λ d. g; side = λ d. (a, b); twin = λ d. absurd (both_ways (t.border x) d e) }

  inner : t.border x ≡ false → place_of t (t.from x) (t.to x) 6 ≡ x →
      Twin t (t.from x) (t.to x) (t.across x) → Known t x
  inner e f w = record {
    found = f;
    missing = λ d. absurd (both_ways (t.border x) e d);
    side = λ d. absurd (both_ways (t.border x) e d);
    twin = λ d. w;
  }

twin_is : {t : Table} {a b i : ℕ} (y : ℕ) → OnLive t y → t.from y ≡ b → t.to y ≡ a → y / 3 ≡ i → Twin t a b i
twin_is y l e f n = record { place = y; lives = l; back = record { starts = e; ends = f }; node = n }

first_known : (flat : Bool) (x : ℕ) → x < 6 → Known (table (first flat)) x
unfolding table
first_known true =
    let t = table (first true) in
    each_six (Known t)
    (outer t 0 refl refl refl (lit< tt) refl)
    (outer t 1 refl refl refl (lit< tt) refl)
    (inner t 2 refl refl (twin_is 3 (among (lit< tt) refl) refl refl refl))
    (inner t 3 refl refl (twin_is 2 (among (lit< tt) refl) refl refl refl))
    (outer t 4 refl refl refl (lit< tt) refl)
    (outer t 5 refl refl refl (lit< tt) refl)
first_known false =
    let t = table (first false) in
    each_six (Known t)
    (outer t 0 refl refl refl (lit< tt) refl)
    (inner t 1 refl refl (twin_is 5 (among (lit< tt) refl) refl refl refl))
    (outer t 2 refl refl refl (lit< tt) refl)
    (outer t 3 refl refl refl (lit< tt) refl)
    (outer t 4 refl refl refl (lit< tt) refl)
    (inner t 5 refl refl (twin_is 1 (among (lit< tt) refl) refl refl refl))

first_six : (flat : Bool) → 3 * (table (first flat)).size ≡ 6
unfolding table
first_six flat = let e = first_two flat in omega arith

module _ (flat : Bool) where
  abbrev t : Table
  t = table (first flat)

  known : {x : ℕ} → OnLive t x → Known t x
  known {x} a = first_known flat x (let e = first_six flat in let l = a.below in omega arith)

  -- The place that runs as x does, or back along it, is the one that is found.
  runs : {x a b : ℕ} → OnLive t x → Edge t x a b → place_of t a b 6 ≡ x
  runs a r = rw (r.starts, r.ends) at (known a).found

  pub first_twinned : Twinned t
  first_twinned = record {
    rounds = rounds_at (first flat);
    once = λ a b r. sym (runs a r) ∙ (known b).found;
    twin = λ a e. (known a).twin e;
    alone = λ a e b r.
        let f = sym (runs b r) ∙ (known a).missing e in
        let l = b.below in
        let six = first_six flat in
        omega arith;
  }

  -- On the border it is a side of the plane.
  pub first_side : {x : ℕ} → OnLive t x → t.border x ≡ true → (t.from x < 4) × (t.to x ≡ (t.from x + 1) % 4)
  first_side a = (known a).side

-- Along the diagonal an antisymmetric function cancels.
pub first_sums : (flat : Bool) (φ : ℕ → ℕ → ℤ) → Antisymmetric φ →
    edge_sum φ (table (first flat)) ≡ φ 0 1 +ℤ φ 1 2 +ℤ φ 2 3 +ℤ φ 3 0
unfolding table edge_sum sum only
first_sums true φ anti = omega (arith, ints, anti 0 2)
first_sums false φ anti = omega (arith, ints, anti 1 3)
