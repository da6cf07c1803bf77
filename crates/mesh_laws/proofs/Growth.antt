-- The growth of the list of nodes by the edges of the hole: what each old node becomes, and where the new ones stand.
use Rattle.std.proofs.Common.{◌≡◌, ℕ, zero, suc, ◌+◌, ◌<◌, ◌≤◌, Bool, false, cond, eqb, List, [], ◌∷◌, ◌++◌, length, get_or, Some, None, Option, sym, refl, ap, ◌∙◌, add-zero, add-one, arith}
use lib.Dec.{eqb-zero-suc, eqb-suc-zero, eqb-suc-suc}
use Rattle.std.proofs.lemmas.List.{length_push, get_or_push, get_or_append_left}
use Rattle.mesh.specs.declared.node.Node.{Node}
use Rattle.mesh.specs.Edges.{HoleEdge, no_edge}
use Rattle.mesh.specs.Placing.{no_node, new_node, with_killer, marked, with_son, with_neighbour}
use Rattle.mesh.specs.Placing.{changed, changed_if, grown}
use Rattle.mesh_laws.proofs.Touches.{Below, names, touch, touches, untouched}

-- The killed nodes of a list are marked.
pub marked_length : (p : ℕ) (doomed : List Bool) (i : ℕ) (ns : List Node) → length (marked p doomed i ns) ≡ length ns
marked_length p doomed i [] = refl
marked_length p doomed i (n ∷ ns) = ap suc (marked_length p doomed (suc i) ns)

pub marked_at : (p : ℕ) (doomed : List Bool) (i : ℕ) (ns : List Node) (k : ℕ) → k < length ns →
    get_or (marked p doomed i ns) k no_node ≡
    cond (get_or doomed (i + k) false) (with_killer p (get_or ns k no_node)) (get_or ns k no_node)
marked_at p doomed i [] k l = absurd (omega arith)
marked_at p doomed i (n ∷ ns) zero l = rw add-zero refl
marked_at p doomed i (n ∷ ns) (suc k) l =
    let e : i + suc k ≡ suc i + k = omega arith in
    rw e (marked_at p doomed (suc i) ns k (omega arith))

-- One node of a list is changed.
pub changed_length : (f : Node → Node) (j : ℕ) (ns : List Node) → length (changed f j ns) ≡ length ns
changed_length f j [] = refl
changed_length f zero (n ∷ ns) = refl
changed_length f (suc j) (n ∷ ns) = ap suc (changed_length f j ns)

pub changed_at : (f : Node → Node) (j : ℕ) (ns : List Node) (i : ℕ) → i < length ns →
    get_or (changed f j ns) i no_node ≡ cond (eqb j i) (f (get_or ns i no_node)) (get_or ns i no_node)
changed_at f j [] i l = absurd (omega arith)
changed_at f zero (n ∷ ns) zero l = refl
changed_at f zero (n ∷ ns) (suc i) l = rw eqb-zero-suc refl
changed_at f (suc j) (n ∷ ns) zero l = rw eqb-suc-zero refl
changed_at f (suc j) (n ∷ ns) (suc i) l = rw eqb-suc-suc (changed_at f j ns i (omega arith))

pub changed_if_length : (f : Node → Node) (o : Option ℕ) (ns : List Node) → length (changed_if f o ns) ≡ length ns
changed_if_length f None ns = refl
changed_if_length f (Some j) ns = changed_length f j ns

pub changed_if_at : (f : Node → Node) (o : Option ℕ) (ns : List Node) (i : ℕ) → i < length ns →
    get_or (changed_if f o ns) i no_node ≡ cond (names i o) (f (get_or ns i no_node)) (get_or ns i no_node)
changed_if_at f None ns i l = refl
changed_if_at f (Some j) ns i l = changed_at f j ns i l

-- The nodes after the first of the edges.
grown_once : ℕ → ℕ → List HoleEdge → HoleEdge → List Node → List Node
grown_once used p all e ns =
    changed_if (with_neighbour e.from e.to (length ns)) e.beyond
    (changed (with_son e.side (length ns)) e.father ns)
    ++ new_node used p all e ∷ []

module _ (used p : ℕ) (all : List HoleEdge) where
  once_length : (e : HoleEdge) (ns : List Node) → length (grown_once used p all e ns) ≡ suc (length ns)
  unfolding grown_once
  once_length e ns = simp (length_push, changed_if_length, changed_length, add-one)

  once_at : (e : HoleEdge) (ns : List Node) (i : ℕ) → i < length ns →
      get_or (grown_once used p all e ns) i no_node ≡ touch i (length ns) e (get_or ns i no_node)
  unfolding grown_once touch
  once_at e ns i l =
      let sons = changed (with_son e.side (length ns)) e.father ns in
      let m : i < length sons = rw changed_length l in
      let f : Node → Node = with_neighbour e.from e.to (length ns) in
      get_or_append_left _ _ no_node i (rw changed_if_length m)
      ∙ changed_if_at f e.beyond sons i m
      ∙ ap (λ s. cond (names i e.beyond) (f s) s) (changed_at _ e.father ns i l)

  once_new : (e : HoleEdge) (ns : List Node) → get_or (grown_once used p all e ns) (length ns) no_node ≡ new_node used p all e
  unfolding grown_once
  once_new e ns = get_or_push _ _ no_node (length ns) (changed_if_length _ _ _ ∙ changed_length _ _ _)

  pub grown_length : (es : List HoleEdge) (ns : List Node) → length (grown used p all es ns) ≡ length ns + length es
  unfolding grown_once
  grown_length [] ns = sym (add-zero (length ns))
  grown_length (e ∷ es) ns =
      let ih = grown_length es (grown_once used p all e ns) in
      let o = once_length e ns in
      omega arith

  pub grown_at : (es : List HoleEdge) (ns : List Node) (i : ℕ) → i < length ns →
      get_or (grown used p all es ns) i no_node ≡ touches i (length ns) es (get_or ns i no_node)
  unfolding grown_once touches
  grown_at [] ns i l = refl
  grown_at (e ∷ es) ns i l =
      let o = once_length e ns in
      let ih = grown_at es (grown_once used p all e ns) i (omega arith) in
      let a = once_at e ns i l in
      cc

  -- The new nodes come in the order of their edges, and no later edge touches them.
  pub grown_new : (b : ℕ) (es : List HoleEdge) (ns : List Node) → b ≤ length ns →
      ((j : ℕ) → j < length es → Below b (get_or es j no_edge)) → (k : ℕ) → k < length es →
      get_or (grown used p all es ns) (length ns + k) no_node ≡ new_node used p all (get_or es k no_edge)
  unfolding grown_once
  grown_new b [] ns o h k l = absurd (omega arith)
  grown_new b (e ∷ es) ns o h zero l =
      let m = once_length e ns in
      rw add-zero
      (grown_at es (grown_once used p all e ns) (length ns) (omega arith)
      ∙ ap (touches (length ns) _ es) (once_new e ns)
      ∙ untouched b (length ns) _ es _ o (λ j q. h (suc j) (omega arith)))
  grown_new b (e ∷ es) ns o h (suc k) l =
      let m = once_length e ns in
      let d : length ns + suc k ≡ length (grown_once used p all e ns) + k = omega arith in
      rw d (grown_new b es (grown_once used p all e ns) (omega arith) (λ j q. h (suc j) (omega arith)) k (omega arith))
