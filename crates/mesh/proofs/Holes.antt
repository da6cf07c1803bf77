-- Gathering the hole node by node: what is gathered and what is left make the whole.
use Rattle.std.proofs.Common.{◌≡◌, ℕ, zero, suc, ◌+◌, ◌*◌, ◌<◌, ◌≤◌, Bool, true, false, cond, List, [], ◌∷◌, ◌++◌, length, get_or, drop, sym, ap, ◌∙◌, subst, append_assoc, zero-add, add-one, arith, Iter, Some, Option}
use Rattle.std.specs.List.{zip, enumerate_from}
use Rattle.std.proofs.lemmas.List.{at_drop_more, append-nil, get_or_default}
use Rattle.std.proofs.lemmas.List.FromFn.{length-enumerate_from, get_or-enumerate_from}
use Rattle.std.proofs.lemmas.Slice.Zip.{length-zip, get_or-zip}
use Rattle.std.proofs.iter.Yields.{fronts}
use Rattle.std.proofs.lemmas.Iterator.{YieldsList-from_slice, YieldsList-from_zip, zips}
use Rattle.std.proofs.lemmas.Iterator.Consumers.{YieldsList-from_enumerate, YieldsList-turn}
use Rattle.std.specs.Iterator.{Yields}
use Rattle.std.specs.Iterator.Adapters.{enumerate_steps}
use Rattle.std.specs.Slice.Iter.{iter_rest}
use Rattle.std.specs.declared.iter.Enumerate.{Enumerate}
use Rattle.std.specs.declared.iter.Zip.{Zip}
use denote.Ref.{Bor}
use Rattle.mesh.specs.declared.hole.Hole.{Hole}
use Rattle.mesh.specs.declared.node.Node.{Node}
use Rattle.mesh.specs.Gathering.{Gathered}
use Rattle.mesh.specs.Edges.{node_edges, edge_of}
use Rattle.mesh.specs.Placing.{Edge, no_node, stays, across, side_edges, hole}

-- The edges of the first k sides of a killed node that belong to the hole.
abbrev pub first_sides : List Bool → ℕ → Node → ℕ → List Edge
first_sides doomed i n zero = []
first_sides doomed i n (suc k) = first_sides doomed i n k ++ side_edges doomed i n k

-- They are gathered.
pub record Passing (before now : Hole) (doomed : List Bool) (i : ℕ) (n : Node) (k : ℕ) : Type 0 where
  pub few : now.count ≤ before.count + k
  pub gathered : (es : List Edge) → Gathered before es → Gathered now (es ++ first_sides doomed i n k)

module _ (before now : Hole) (doomed : List Bool) (i : ℕ) (n : Node) (k : ℕ) (p : Passing before now doomed i n k) where
  one_side : (es more : List Edge) → side_edges doomed i n k ≡ more →
      (es ++ first_sides doomed i n k) ++ more ≡ es ++ first_sides doomed i n (k + 1)
  one_side es more e =
      append_assoc es (first_sides doomed i n k) more
      ∙ ap (λ (m : List Edge). es ++ (first_sides doomed i n k ++ m)) (sym e)
      ∙ ap (λ (j : ℕ). es ++ first_sides doomed i n j) (sym (add-one k))

  -- a side whose edge belongs to the hole adds it,
  pub with_side : (after : Hole) (e : Edge) → stays doomed (across n k) ≡ true → e ≡ edge_of i n k →
      ((es : List Edge) → Gathered now es → Gathered after (es ++ e ∷ [])) → after.count ≡ now.count + 1 →
      Passing before after doomed i n (k + 1)
  with_side after e s is adds more =
      record {
        few = omega (arith, p.few);
        gathered = λ es h. subst (Gathered after) (one_side es (e ∷ []) (rw (s, is))) (adds _ (p.gathered es h));
      }

  -- and another adds none.
  pub without_side : stays doomed (across n k) ≡ false → Passing before now doomed i n (k + 1)
  without_side s =
      record {
        few = omega (arith, p.few);
        gathered =
            λ es h. subst (Gathered now) (sym (append-nil _) ∙ one_side es [] (rw s)) (p.gathered es h);
      }

-- The edges of the first i nodes are gathered.
pub record Underway (some : Hole) (doomed : List Bool) (ns : List Node) (i : ℕ) : Type 0 where
  pub few : some.count ≤ 3 * i
  pub edges : List Edge
  pub gathered : Gathered some edges
  pub rest : edges ++ hole doomed i (drop i ns) ≡ hole doomed 0 ns

module _ (doomed : List Bool) (ns : List Node) (i : ℕ) where
  hole_step : {b : Bool} → get_or doomed i false ≡ b → i < length ns → hole doomed i (drop i ns)
      ≡ cond b (node_edges doomed i (get_or ns i no_node)) [] ++ hole doomed (i + 1) (drop (i + 1) ns)
  hole_step e l = rw (at_drop_more (hole doomed i) ns i no_node l) (rw (e, add-one))

  -- a killed node adds its edges,
  pub with_killed : {before after : Hole} → get_or doomed i false ≡ true → i < length ns →
      ((es : List Edge) → Gathered before es → Gathered after (es ++ node_edges doomed i (get_or ns i no_node))) →
      after.count ≤ before.count + 3 → Underway before doomed ns i → Underway after doomed ns (i + 1)
  with_killed e l adds most u =
      record {
        few = omega (arith, u.few);
        edges = u.edges ++ node_edges doomed i (get_or ns i no_node);
        gathered = adds u.edges u.gathered;
        rest = append_assoc u.edges _ _ ∙ ap (λ rest. u.edges ++ rest) (sym (hole_step e l)) ∙ u.rest;
      }

  -- and another adds none.
  pub without : {before : Hole} → get_or doomed i false ≡ false → i < length ns → Underway before doomed ns i →
      Underway before doomed ns (i + 1)
  without e l u =
      record {
        few = omega (arith, u.few);
        edges = u.edges;
        gathered = u.gathered;
        rest = ap (λ rest. u.edges ++ rest) (sym (hole_step e l)) ∙ u.rest;
      }

module _ (ns : List Node) (doomed : List Bool) (same : length doomed ≡ length ns) where
  abbrev numbered : List (ℕ × (Node × Bool))
  numbered = enumerate_from 0 (zip ns doomed)

  at_pair : (k : ℕ) (x : ℕ × (Node × Bool)) → k < length numbered → x ≡ get_or numbered k x →
      (x.0 ≡ k) × (k < length ns) × (x.1.0 ≡ get_or ns k no_node) × (x.1.1 ≡ get_or doomed k false)
  at_pair k x l e =
      let low : k < length ns = omega (arith, l, same, length-enumerate_from 0 (zip ns doomed), length-zip ns doomed) in
      let within : k < length (zip ns doomed) = omega (arith, l, length-enumerate_from 0 (zip ns doomed)) in
      let is = e ∙ get_or-enumerate_from 0 (zip ns doomed) k x within in
      let pair = ap (λ (p : ℕ × (Node × Bool)). p.1) is ∙ get_or-zip ns doomed k x.1 low (omega arith) in (
        ap (λ (p : ℕ × (Node × Bool)). p.0) is ∙ zero-add k,
        low,
        ap (λ (p : Node × Bool). p.0) pair ∙ get_or_default ns k x.1.0 no_node low,
        ap (λ (p : Node × Bool). p.1) pair ∙ get_or_default doomed k x.1.1 false (omega arith),
      )

  -- In a loop over both lists: its number is that of its node, and it says whether this node is killed.
  module _ (s t u : Enumerate (Zip (Iter Node) (Iter Bool))) (xs : List (ℕ × (Bor Node × Bor Bool))) where
    pub this_pair : iter_rest s.iter.a ≡ ns → iter_rest s.iter.b ≡ doomed → s.count ≡ 0 →
        Yields (enumerate_steps (zips fronts fronts)) s xs t → (r : Option (ℕ × (Bor Node × Bor Bool)))
        (x : ℕ × (Bor Node × Bor Bool)) → r ≡ Some x → enumerate_steps (zips fronts fronts) t r u →
        (x.0 ≡ length xs) × (length xs < length ns) × (x.1.0.now ≡ get_or ns (length xs) no_node)
        × (x.1.1.now ≡ get_or doomed (length xs) false)
    this_pair first second none y r x is step =
        let road = YieldsList-from_enumerate {s = s} (YieldsList-from_zip (YieldsList-from_slice ns first) (YieldsList-from_slice doomed second)) none in
        let turn = YieldsList-turn road xs t y r u x is step in
        at_pair (length xs) (x.0, (x.1.0.now, x.1.1.now)) turn.0 turn.1
