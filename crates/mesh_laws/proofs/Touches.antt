-- What the edges of the hole make of one node: its entries for sons and neighbours, each set by the edge that hits it.
use Rattle.std.proofs.Common.{◌≡◌, ℕ, zero, suc, ◌+◌, ◌<◌, ◌≤◌, Bool, true, false, cond, ◌&&◌, eqb, ◌⊎◌, List, [], ◌∷◌, length, get_or, set, Some, None, Option, sym, refl, ap, ◌∙◌, inl, inr, add-zero, arith}
use Rattle.std.proofs.lemmas.List.{length-set, get_or-set_same, get_or-set_other}
use Rattle.std.proofs.lemmas.Bool.{cases_Bool, both_ways, false≢true, and_parts, and_from, eqb-true, eqb-false, eq-eqb, ne_eqb}
use Rattle.mesh.specs.declared.node.Node.{Node}
use Rattle.mesh.specs.Edges.{HoleEdge, no_edge}
use Rattle.mesh.specs.Placing.{next, start, finish, across, with_son, entry, with_neighbour}

-- Whether an entry names node i.
abbrev pub names : ℕ → Option ℕ → Bool
names i None = false
names i (Some j) = eqb j i

-- What the edge e of the hole makes of node i, when node k is made over it: it may get a son, or a neighbour.
abbrev pub sonned : Bool → ℕ → HoleEdge → Node → Node
sonned b k e n = cond b (with_son e.side k n) n

abbrev pub backed : Bool → ℕ → HoleEdge → Node → Node
backed b k e n = cond b (with_neighbour e.from e.to k n) n

unfoldable pub touch : ℕ → ℕ → HoleEdge → Node → Node
touch i k e n = backed (names i e.beyond) k e (sonned (eqb e.father i) k e n)

unfoldable pub touches : ℕ → ℕ → List HoleEdge → Node → Node
touches i k [] n = n
touches i k (e ∷ es) n = touches i (suc k) es (touch i k e n)

not_from : (b : Bool) → (b ≡ true → ⊥) → b ≡ false
not_from true h = absurd (h refl)
not_from false h = refl

-- A node with these masters, three neighbours and three sons.
pub record Shaped (ms : List ℕ) (n : Node) : Type 0 where
  pub has_masters : n.masters ≡ ms
  pub three_neighbours : length n.neighbours ≡ 3
  pub three_sons : length n.sons ≡ 3

-- What holds of a node and of what a son or a neighbour makes of it, holds of what an edge makes of it.
touch_by : (P : Node → Type 0) (i k : ℕ) (e : HoleEdge) (n : Node) → P n →
    (eqb e.father i ≡ true → P (with_son e.side k n)) →
    ((s : Node) → P s → names i e.beyond ≡ true → P (with_neighbour e.from e.to k s)) → P (touch i k e n)
unfolding touch
touch_by P i k e n p f g = second _ (first (eqb e.father i) refl) (names i e.beyond) refl
  where
    first : (b : Bool) → eqb e.father i ≡ b → P (sonned b k e n)
    first true q = f q
    first false q = p

    second : (s : Node) → P s → (b : Bool) → names i e.beyond ≡ b → P (backed b k e s)
    second s r true q = g s r q
    second s r false q = r

module _ {ms : List ℕ} (i : ℕ) where
  touch_shaped : (k : ℕ) (e : HoleEdge) (n : Node) → Shaped ms n → Shaped ms (touch i k e n)
  touch_shaped k e n w =
      touch_by (Shaped ms) i k e n w
      (λ q. record {
        has_masters = w.has_masters;
        three_neighbours = w.three_neighbours;
        three_sons = length-set n.sons e.side (Some k) ∙ w.three_sons;
      })
      (λ s v q. record { has_masters = v.has_masters; three_neighbours = refl; three_sons = v.three_sons })

  pub touches_shaped : (k : ℕ) (es : List HoleEdge) (n : Node) → Shaped ms n → Shaped ms (touches i k es n)
  unfolding touches
  touches_shaped k [] n w = w
  touches_shaped k (e ∷ es) n w = touches_shaped (suc k) es (touch i k e n) (touch_shaped k e n w)

  -- What no edge hits stays.
  module _ {X : Type 0} (read : Node → X) (hit : HoleEdge → Bool)
      (stays : (k : ℕ) (e : HoleEdge) (n : Node) → Shaped ms n → hit e ≡ false → read (touch i k e n) ≡ read n) where
    missed : (k : ℕ) (es : List HoleEdge) (n : Node) → Shaped ms n →
        ((j : ℕ) → j < length es → hit (get_or es j no_edge) ≡ false) → read (touches i k es n) ≡ read n
    unfolding touches
    missed k [] n w h = refl
    missed k (e ∷ es) n w h =
        missed (suc k) es (touch i k e n) (touch_shaped k e n w) (λ j l. h (suc j) (omega arith))
        ∙ stays k e n w (h 0 (omega arith))

  -- What one edge hits becomes the number of the node that is made over it.
  module _ (read : Node → Option ℕ) (hit : HoleEdge → Bool)
      (reads : (k : ℕ) (e : HoleEdge) (n : Node) → Shaped ms n →
      read (touch i k e n) ≡ cond (hit e) (Some k) (read n)) where
    stays : (k : ℕ) (e : HoleEdge) (n : Node) → Shaped ms n → hit e ≡ false → read (touch i k e n) ≡ read n
    stays k e n w f = reads k e n w ∙ ap (λ b. cond b (Some k) (read n)) f

    becomes : (k : ℕ) (e : HoleEdge) (n : Node) → Shaped ms n → hit e ≡ true → read (touch i k e n) ≡ Some k
    becomes k e n w f = reads k e n w ∙ ap (λ b. cond b (Some k) (read n)) f

    struck : (k : ℕ) (es : List HoleEdge) (n : Node) → Shaped ms n → (j : ℕ) → j < length es →
        hit (get_or es j no_edge) ≡ true → ((l : ℕ) → l < length es → hit (get_or es l no_edge) ≡ true → l ≡ j) →
        read (touches i k es n) ≡ Some (k + j)
    unfolding touches
    struck k [] n w j l t only = absurd (omega arith)
    struck k (e ∷ es) n w zero l t only =
        missed read hit stays (suc k) es (touch i k e n) (touch_shaped k e n w)
        (λ j l. not_from _ (λ q. let z = only (suc j) (omega arith) q in omega arith))
        ∙ becomes k e n w t
        ∙ ap Some (sym (add-zero k))
    struck k (e ∷ es) n w (suc j) l t only =
        struck (suc k) es (touch i k e n) (touch_shaped k e n w) j (omega arith) t
        (λ v m r. let z = only (suc v) (omega arith) r in omega arith)
        ∙ ap Some (omega arith)

    -- In any case it is what it was, or the number of a node that is made.
    struck_below : (k : ℕ) (es : List HoleEdge) (n : Node) → Shaped ms n → (v : ℕ) → read (touches i k es n) ≡ Some v →
        (read n ≡ Some v) ⊎ (v < k + length es)
    unfolding touches
    struck_below k [] n w v r = inl r
    struck_below k (e ∷ es) n w v r =
        at (struck_below (suc k) es (touch i k e n) (touch_shaped k e n w) v r) (cases_Bool (hit e))
      where
        at : (read (touch i k e n) ≡ Some v) ⊎ (v < suc k + length es) → (hit e ≡ true) ⊎ (hit e ≡ false) →
            (read n ≡ Some v) ⊎ (v < k + suc (length es))
        at (inl q) (inl t) = let b = becomes k e n w t in let z : k ≡ v = cc in inr (omega arith)
        at (inl q) (inr f) = inl (sym (stays k e n w f) ∙ q)
        at (inr q) c = inr (omega arith)

-- The edge e of the hole runs back along the side s of node i, which has the masters ms: as facts, and as a test.
pub record Back (i : ℕ) (ms : List ℕ) (s : ℕ) (e : HoleEdge) : Type 0 where
  pub beyond : e.beyond ≡ Some i
  pub starts : e.from ≡ get_or ms (next s) 0
  pub ends : e.to ≡ get_or ms s 0

back : ℕ → List ℕ → ℕ → HoleEdge → Bool
back i ms s e = names i e.beyond && (eqb (get_or ms s 0) e.to && eqb (get_or ms (next s) 0) e.from)

names_parts : (i : ℕ) (o : Option ℕ) → names i o ≡ true → o ≡ Some i
names_parts i None q = absurd (false≢true q)
names_parts i (Some j) q = ap Some (eqb-true j i q)

names_from : (i : ℕ) (o : Option ℕ) → o ≡ Some i → names i o ≡ true
names_from i o q = rw q (eq-eqb i i refl)

back_parts : (i : ℕ) (ms : List ℕ) (s : ℕ) (e : HoleEdge) → back i ms s e ≡ true → Back i ms s e
unfolding back
back_parts i ms s e q =
    let a = and_parts _ _ q in
    let b = and_parts _ _ a.1 in
    record {
      beyond = names_parts i e.beyond a.0;
      starts = sym (eqb-true _ _ b.1);
      ends = sym (eqb-true _ _ b.0);
    }

back_from : (i : ℕ) (ms : List ℕ) (s : ℕ) (e : HoleEdge) → Back i ms s e → back i ms s e ≡ true
unfolding back
back_from i ms s e b =
    and_from _ _ (names_from i e.beyond b.beyond)
    (and_from _ _ (eq-eqb _ _ (sym b.ends)) (eq-eqb _ _ (sym b.starts)))

-- The edge e has node i as its father, and is its side s.
pub record Heir (i s : ℕ) (e : HoleEdge) : Type 0 where
  pub father : e.father ≡ i
  pub side : e.side ≡ s

heir : ℕ → ℕ → HoleEdge → Bool
heir i s e = eqb e.father i && eqb e.side s

heir_parts : (i s : ℕ) (e : HoleEdge) → heir i s e ≡ true → Heir i s e
unfolding heir
heir_parts i s e q = let a = and_parts _ _ q in record { father = eqb-true _ _ a.0; side = eqb-true _ _ a.1 }

heir_from : (i s : ℕ) (e : HoleEdge) → Heir i s e → heir i s e ≡ true
unfolding heir
heir_from i s e h = and_from _ _ (eq-eqb _ _ h.father) (eq-eqb _ _ h.side)

-- How the entries are read after an edge.
cond_and : {X : Type 0} (b c : Bool) (x y : X) → cond b (cond c x y) y ≡ cond (b && c) x y
cond_and true c x y = refl
cond_and false c x y = refl

touch_sons : (i k : ℕ) (e : HoleEdge) (n : Node) →
    (touch i k e n).sons ≡ cond (eqb e.father i) (set n.sons e.side (Some k)) n.sons
unfolding touch
touch_sons i k e n = at (eqb e.father i) (names i e.beyond)
  where
    at : (b c : Bool) → (backed c k e (sonned b k e n)).sons ≡ cond b (set n.sons e.side (Some k)) n.sons
    at true true = refl
    at true false = refl
    at false true = refl
    at false false = refl

touch_across : (i k : ℕ) (e : HoleEdge) (n : Node) (s : ℕ) → s < 3 →
    across (touch i k e n) s ≡ cond (names i e.beyond) (entry e.from e.to k n s) (across n s)
unfolding touch
touch_across i k e n s l = at (eqb e.father i) (names i e.beyond) s l
  where
    at : (b c : Bool) (s : ℕ) → s < 3 →
        across (backed c k e (sonned b k e n)) s ≡ cond c (entry e.from e.to k n s) (across n s)
    at true false s l = refl
    at false false s l = refl
    at true true zero l = refl
    at true true (suc zero) l = refl
    at true true (suc (suc zero)) l = refl
    at true true (suc (suc (suc s))) l = absurd (omega arith)
    at false true zero l = refl
    at false true (suc zero) l = refl
    at false true (suc (suc zero)) l = refl
    at false true (suc (suc (suc s))) l = absurd (omega arith)

module _ {ms : List ℕ} (i : ℕ) where
  son_read : (s : ℕ) → s < 3 → (k : ℕ) (e : HoleEdge) (n : Node) → Shaped ms n →
      get_or (touch i k e n).sons s None ≡ cond (heir i s e) (Some k) (get_or n.sons s None)
  unfolding heir
  son_read s l k e n w = rw touch_sons (at (eqb e.father i) (cases_Bool (eqb e.side s)))
    where
      at : (b : Bool) → (eqb e.side s ≡ true) ⊎ (eqb e.side s ≡ false) →
          get_or (cond b (set n.sons e.side (Some k)) n.sons) s None
          ≡ cond (b && eqb e.side s) (Some k) (get_or n.sons s None)
      at false c = refl
      at true (inl q) =
          let d = eqb-true e.side s q in
          let t = w.three_sons in
          rw (q, d) (get_or-set_same n.sons s (Some k) None (omega arith))
      at true (inr q) =
          rw q (get_or-set_other n.sons e.side s (Some k) None (λ d. eqb-false e.side s q (sym d)))

  across_read : (s : ℕ) → s < 3 → (k : ℕ) (e : HoleEdge) (n : Node) → Shaped ms n →
      across (touch i k e n) s ≡ cond (back i ms s e) (Some k) (across n s)
  unfolding back
  across_read s l k e n w =
      touch_across i k e n s l
      ∙ cond_and (names i e.beyond) (eqb (start n s) e.to && eqb (finish n s) e.from) (Some k) (across n s)
      ∙ ap (λ v. cond (back i v s e) (Some k) (across n s)) w.has_masters

  -- What an edge never changes.
  pub touches_keep : {X : Type 0} (read : Node → X) → ((s k : ℕ) (n : Node) → read (with_son s k n) ≡ read n) →
      ((a b k : ℕ) (n : Node) → read (with_neighbour a b k n) ≡ read n) → (k : ℕ) (es : List HoleEdge) (n : Node) →
      Shaped ms n → read (touches i k es n) ≡ read n
  touches_keep read son beside k es n w =
      missed i read (λ e. false)
      (λ k e n v f. touch_by (λ z. read z ≡ read n) i k e n refl (λ q. son _ _ _) (λ z r q. beside _ _ _ _ ∙ r))
      k es n w (λ j l. refl)

  -- Sons come from the father's edges alone.
  pub sons_kept : (k : ℕ) (es : List HoleEdge) (n : Node) → Shaped ms n →
      ((j : ℕ) → j < length es → (get_or es j no_edge).father ≡ i → ⊥) → (touches i k es n).sons ≡ n.sons
  sons_kept k es n w h =
      missed i (λ z. z.sons) (λ e. eqb e.father i)
      (λ k e n v f. touch_by (λ z. z.sons ≡ n.sons) i k e n refl (λ q. absurd (both_ways _ f q)) (λ z r q. r))
      k es n w (λ j l. ne_eqb _ _ (h j l))

  pub son_set : (s : ℕ) → s < 3 → (k : ℕ) (es : List HoleEdge) (n : Node) → Shaped ms n → (j : ℕ) → j < length es →
      Heir i s (get_or es j no_edge) → ((l : ℕ) → l < length es → Heir i s (get_or es l no_edge) → l ≡ j) →
      get_or (touches i k es n).sons s None ≡ Some (k + j)
  son_set s b k es n w j l t only =
      struck i (λ z. get_or z.sons s None) (heir i s) (son_read s b) k es n w j l (heir_from i s _ t)
      (λ v m q. only v m (heir_parts i s _ q))

  -- An entry for a neighbour changes where an edge runs back along it.
  pub across_kept : (s : ℕ) → s < 3 → (k : ℕ) (es : List HoleEdge) (n : Node) → Shaped ms n →
      ((j : ℕ) → j < length es → Back i ms s (get_or es j no_edge) → ⊥) → across (touches i k es n) s ≡ across n s
  across_kept s b k es n w h =
      missed i (λ z. across z s) (back i ms s) (stays i (λ z. across z s) (back i ms s) (across_read s b)) k es n w
      (λ j l. not_from _ (λ q. h j l (back_parts i ms s _ q)))

  pub across_set : (s : ℕ) → s < 3 → (k : ℕ) (es : List HoleEdge) (n : Node) → Shaped ms n → (j : ℕ) → j < length es →
      Back i ms s (get_or es j no_edge) → ((l : ℕ) → l < length es → Back i ms s (get_or es l no_edge) → l ≡ j) →
      across (touches i k es n) s ≡ Some (k + j)
  across_set s b k es n w j l t only =
      struck i (λ z. across z s) (back i ms s) (across_read s b) k es n w j l (back_from i ms s _ t)
      (λ v m q. only v m (back_parts i ms s _ q))

  pub across_below : (s : ℕ) → s < 3 → (k : ℕ) (es : List HoleEdge) (n : Node) → Shaped ms n → (v : ℕ) →
      across (touches i k es n) s ≡ Some v → (across n s ≡ Some v) ⊎ (v < k + length es)
  across_below s b = struck_below i (λ z. across z s) (back i ms s) (across_read s b)

-- The father of an edge and the node beyond it are below b.
pub record Below (b : ℕ) (e : HoleEdge) : Type 0 where
  pub father : e.father < b
  pub beyond : (j : ℕ) → e.beyond ≡ Some j → j < b

-- Such edges do not touch nodes from b on.
untouched_once : (b i k : ℕ) (e : HoleEdge) (n : Node) → b ≤ i → Below b e → touch i k e n ≡ n
untouched_once b i k e n o w =
    touch_by (λ z. z ≡ n) i k e n refl
    (λ q. let d = eqb-true e.father i q in absurd (omega arith))
    (λ s r q. let d = w.beyond i (names_parts i e.beyond q) in absurd (omega arith))

pub untouched : (b i k : ℕ) (es : List HoleEdge) (n : Node) → b ≤ i →
    ((j : ℕ) → j < length es → Below b (get_or es j no_edge)) → touches i k es n ≡ n
unfolding touches
untouched b i k [] n o h = refl
untouched b i k (e ∷ es) n o h =
    ap (touches i (suc k) es) (untouched_once b i k e n o (h 0 (omega arith)))
    ∙ untouched b i (suc k) es n o (λ j l. h (suc j) (omega arith))
