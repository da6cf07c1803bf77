-- The edges of the hole are those at the places over which nodes are born, in the same order.
use Rattle.std.proofs.Common.{◌≡◌, ℕ, suc, ◌+◌, ◌*◌, ◌/◌, ◌%◌, ◌<◌, Bool, true, false, cond, not, ◌&&◌, List, [], ◌∷◌, ◌++◌, map, length, get_or, is_some, Some, None, filter, Option, sym, refl, ap, ◌∙◌, append_assoc, add-zero, zero-add, arith}
use Rattle.std.specs.List.{range_with_len}
use Rattle.std.proofs.lemmas.List.{length-map, get_or-map}
use Rattle.plane.specs.declared.position.Position.{Position}
use Rattle.plane.specs.Measures.{Heights}
use Rattle.algebra.specs.Cuts.{rim}
use Rattle.algebra.specs.Placing.{inner, bearers}
use Rattle.mesh.specs.declared.node.Node.{Node}
use Rattle.mesh.specs.Owner.{node}
use Rattle.mesh.specs.Edges.{HoleEdge, no_edge}
use Rattle.mesh.specs.Placing.{no_node, start, finish, across, kills, stays, side_edges, hole}
use Rattle.mesh.specs.Tree.{Mesh}
use Rattle.mesh_laws.specs.Places.{table, killed, flat, entry_at, number}
use Rattle.mesh_laws.specs.Steps.{made, foot}

-- The edges of the hole that p makes.
abbrev pub hole_of : Heights → Mesh → Position → List HoleEdge
hole_of h m p = hole (map (kills h m.masters p) m.nodes) 0 m.nodes

-- The edge at a place.
abbrev pub edge_at : Mesh → ℕ → HoleEdge
edge_at m x = record {
  father = x / 3;
  side = x % 3;
  from = (table m).from x;
  to = (table m).to x;
  beyond = entry_at m x;
}

-- The same by its node and its side.
abbrev edge_of : Mesh → ℕ → ℕ → HoleEdge
edge_of m i e = record {
  father = i;
  side = e;
  from = start (node m i) e;
  to = finish (node m i) e;
  beyond = across (node m i) e;
}

-- The place is on a killed node, and what is across it stays.
abbrev opens : List Bool → Mesh → ℕ → ℕ → Bool
opens doomed m i e = get_or doomed i false && stays doomed (across (node m i) e)

abbrev opens_at : List Bool → Mesh → ℕ → Bool
opens_at doomed m x = opens doomed m (x / 3) (x % 3)

-- A node is born over just such places.
born_over : (h : Heights) (m : Mesh) (p : Position) (x : ℕ) →
    (not (flat x) && rim (killed h m p) (inner (table m) (killed h m p)) x) ≡
    opens_at (map (kills h m.masters p) m.nodes) m x
unfolding table killed
born_over h m p x =
    let doomed = map (kills h m.masters p) m.nodes in
    ap (λ b. get_or doomed (x / 3) false && b) (beyond doomed (entry_at m x))
  where
    beyond : (doomed : List Bool) (o : Option ℕ) →
        not (not (not (is_some o)) && get_or doomed (number o) false) ≡ stays doomed o
    beyond doomed None = refl
    beyond doomed (Some j) = refl

module _ (f : ℕ → HoleEdge) (test : ℕ → Bool) where
  -- What passes from a on, one place and three places at a time.
  abbrev from_on : ℕ → ℕ → List HoleEdge
  from_on a n = map f (filter test (range_with_len a n))

  abbrev here : ℕ → List HoleEdge
  here a = cond (test a) (f a ∷ []) []

  one_place : (a b n s : ℕ) → b ≡ a + 1 → s ≡ suc n → from_on a s ≡ here a ++ from_on b n
  one_place a b n s e l = ap (from_on a) l ∙ at (test a) ∙ ap (λ c. here a ++ from_on c n) (sym e)
    where
      at : (t : Bool) → map f (cond t (a ∷ filter test (range_with_len (a + 1) n)) (filter test (range_with_len (a + 1) n))) ≡
          cond t (f a ∷ []) [] ++ from_on (a + 1) n
      at true = refl
      at false = refl

  three_places : (i n : ℕ) →
      from_on (3 * i) (3 * suc n) ≡
      here (3 * i + 0) ++ (here (3 * i + 1) ++ (here (3 * i + 2) ++ from_on (3 * suc i) (3 * n)))
  three_places i n =
      ap (λ a. from_on a (3 * suc n)) (sym (add-zero (3 * i)))
      ∙ one_place (3 * i + 0) (3 * i + 1) (3 * n + 2) (3 * suc n) (omega arith) (omega arith)
      ∙ ap (λ r. here (3 * i + 0) ++ r) (
      one_place (3 * i + 1) (3 * i + 2) (3 * n + 1) (3 * n + 2) (omega arith) (omega arith)
      ∙ ap (λ r. here (3 * i + 1) ++ r)
      (one_place (3 * i + 2) (3 * suc i) (3 * n) (3 * n + 1) (omega arith) (omega arith))
      )

-- Three lists under one test.
spread_out : (b : Bool) (xs ys zs rest : List HoleEdge) →
    cond b (xs ++ (ys ++ zs)) [] ++ rest ≡ cond b xs [] ++ (cond b ys [] ++ (cond b zs [] ++ rest))
spread_out true xs ys zs rest = append_assoc xs (ys ++ zs) rest ∙ ap (λ r. xs ++ r) (append_assoc ys zs rest)
spread_out false xs ys zs rest = refl

module _ (doomed : List Bool) (m : Mesh) where
  abbrev kept : ℕ → Bool
  kept = opens_at doomed m

  -- The edge at a place belongs to the hole exactly if it passes.
  place_is : (i e : ℕ) → e < 3 →
      here (edge_at m) kept (3 * i + e) ≡ cond (get_or doomed i false) (side_edges doomed i (node m i) e) []
  unfolding table
  place_is i e l =
      let q : (3 * i + e) / 3 ≡ i = omega arith in
      let r : (3 * i + e) % 3 ≡ e = omega arith in
      ap (λ j. cond (opens doomed m j ((3 * i + e) % 3)) (edge_of m j ((3 * i + e) % 3) ∷ []) []) q
      ∙ ap (λ s. cond (opens doomed m i s) (edge_of m i s ∷ []) []) r
      ∙ nested (get_or doomed i false) (stays doomed (across (node m i) e)) (edge_of m i e ∷ [])
    where
      nested : (a b : Bool) (xs : List HoleEdge) → cond (a && b) xs [] ≡ cond a (cond b xs []) []
      nested true b xs = refl
      nested false b xs = refl

  -- The nodes from i on.
  hole_from : (i : ℕ) (ns : List Node) → ((k : ℕ) → get_or ns k no_node ≡ node m (i + k)) →
      hole doomed i ns ≡ from_on (edge_at m) kept (3 * i) (3 * length ns)
  hole_from i [] same = refl
  hole_from i (n ∷ ns) same =
      let dead = get_or doomed i false in
      let side : Node → ℕ → List HoleEdge = λ o e. side_edges doomed i o e in
      let rest = from_on (edge_at m) kept (3 * suc i) (3 * length ns) in
      let first : n ≡ node m i = same 0 ∙ ap (node m) (add-zero i) in
      let more = hole_from (suc i) ns (λ k. same (suc k) ∙ ap (node m) (omega arith)) in
      let p0 = place_is i 0 (omega arith) in
      let p1 = place_is i 1 (omega arith) in
      let p2 = place_is i 2 (omega arith) in
      ap (λ o. cond dead (side o 0 ++ (side o 1 ++ side o 2)) [] ++ hole doomed (suc i) ns) first
      ∙ ap (λ r. cond dead (side (node m i) 0 ++ (side (node m i) 1 ++ side (node m i) 2)) [] ++ r) more
      ∙ spread_out dead (side (node m i) 0) (side (node m i) 1) (side (node m i) 2) rest
      ∙ (λ t. sym p0 t ++ (sym p1 t ++ (sym p2 t ++ rest)))
      ∙ sym (three_places (edge_at m) kept i (length ns))

-- The hole, place by place.
pub hole_is : (h : Heights) (m : Mesh) (p : Position) →
    hole_of h m p ≡ map (edge_at m) (bearers (table m) (killed h m p) flat)
unfolding bearers table
hole_is h m p =
    hole_from (map (kills h m.masters p) m.nodes) m 0 m.nodes (λ k. ap (node m) (sym (zero-add k)))
    ∙ (λ t. map (edge_at m) (filter (λ x. sym (born_over h m p x) t) (range_with_len 0 (3 * length m.nodes))))

pub hole_length : (h : Heights) (m : Mesh) (p : Position) → length (hole_of h m p) ≡ made h m p
hole_length h m p = ap length (hole_is h m p) ∙ length-map (bearers (table m) (killed h m p) flat) (edge_at m)

pub hole_at : (h : Heights) (m : Mesh) (p : Position) (k : ℕ) → k < made h m p →
    get_or (hole_of h m p) k no_edge ≡ edge_at m (foot h m p k)
hole_at h m p k l =
    ap (λ es. get_or es k no_edge) (hole_is h m p)
    ∙ get_or-map (edge_at m) (bearers (table m) (killed h m p) flat) k 0 no_edge l
