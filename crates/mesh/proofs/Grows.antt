-- Growth, one edge on, and marking, one node on: what is left makes the rest.
use Rattle.std.proofs.Common.{◌≡◌, ℕ, ◌+◌, ◌<◌, ◌≤◌, Bool, true, false, cond, List, [], ◌∷◌, ◌++◌, length, get_or, take, drop, set, sym, ap, ◌∙◌, append_assoc, add-one, arith}
use lib.Seq.{take-set-lt}
use Rattle.std.proofs.lemmas.List.{at_drop_more, get_or-take, take_more, take_more_set, drop-set-lt, length-take-le}
use Rattle.mesh.specs.declared.node.Node.{Node}
use Rattle.mesh.specs.Edges.{no_edge}
use Rattle.mesh.specs.Placing.{Edge, no_node, with_son, with_neighbour, with_killer, changed, changed_if, new_node, grown, marked}

-- What one edge makes of n nodes.
abbrev pub one_more : ℕ → ℕ → List Edge → Edge → ℕ → List Node → List Node
one_more used p all e n ns =
    changed_if (with_neighbour e.from e.to n) e.beyond (changed (with_son e.side n) e.father ns)
    ++ new_node used p all e ∷ []

module _ (used p : ℕ) (all : List Edge) (i : ℕ) where
  pub grown_step : (ns ns' : List Node) (n : ℕ) → i < length all → length ns ≡ n →
      ns' ≡ one_more used p all (get_or all i no_edge) n ns →
      grown used p all (drop (i + 1) all) ns' ≡ grown used p all (drop i all) ns
  grown_step ns ns' n l size e =
      rw (at_drop_more (λ es. grown used p all es ns) all i no_edge l)
      (ap (grown used p all (drop (i + 1) all)) (e ∙ ap (λ k. one_more used p all (get_or all i no_edge) k ns) (sym size)))

module _ (p : ℕ) (doomed : List Bool) (i : ℕ) where
  marked_step : {b : Bool} (ns : List Node) → get_or doomed i false ≡ b → i < length ns → marked p doomed i (drop i ns)
      ≡ cond b (with_killer p (get_or ns i no_node)) (get_or ns i no_node) ∷ marked p doomed (i + 1) (drop (i + 1) ns)
  marked_step ns e l = rw (at_drop_more (marked p doomed i) ns i no_node l) (rw (e, add-one))

-- The first i of n nodes are marked.
abbrev pub Marking : ℕ → List Bool → ℕ → List Node → List Node → ℕ → Type 0
Marking p doomed n before ns i =
    take i ns ++ marked p doomed i (drop i (take n ns)) ≡ marked p doomed 0 (take n before)

module _ (p : ℕ) (doomed : List Bool) (n : ℕ) (before ns : List Node) (i : ℕ) (low : i < n) (long : n ≤ length ns) where
  here : get_or (take n ns) i no_node ≡ get_or ns i no_node
  here = get_or-take n ns i no_node low

  within : i < length (take n ns)
  within = omega (arith, length-take-le n ns long)

  pub mark_killed : get_or doomed i false ≡ true → Marking p doomed n before ns i →
      Marking p doomed n before (set ns i (with_killer p (get_or ns i no_node))) (i + 1)
  mark_killed e m =
      let x = with_killer p (get_or ns i no_node) in
      let rest = marked p doomed (i + 1) (drop (i + 1) (take n ns)) in
      let left = take-set-lt n ns i x low in
      let same = drop-set-lt (i + 1) (take n ns) i x (omega arith) in
      let step = marked_step p doomed i (take n ns) e within in
      let written = take_more_set ns i x (omega arith) in
      rw (left, same, written) (append_assoc (take i ns) (x ∷ []) rest ∙ ap (λ r. take i ns ++ r) (ap (λ y. with_killer p y ∷ rest) (sym here) ∙ sym step) ∙ m)

  pub mark_spared : get_or doomed i false ≡ false → Marking p doomed n before ns i → Marking p doomed n before ns (i + 1)
  mark_spared e m =
      let rest = marked p doomed (i + 1) (drop (i + 1) (take n ns)) in
      let step = marked_step p doomed i (take n ns) e within in
      let more = take_more ns i no_node (omega arith) in
      rw more (append_assoc (take i ns) (get_or ns i no_node ∷ []) rest ∙ ap (λ r. take i ns ++ r) (ap (λ y. y ∷ rest) (sym here) ∙ sym step) ∙ m)
