-- Placing keeps twins: each live place of the new table is of one of three sorts, and each fact goes by sorts.
use Rattle.std.proofs.Common.{◌≡◌, ℕ, ◌+◌, ◌-◌, ◌*◌, ◌/◌, ◌<◌, ◌≤◌, Bool, true, false, ◌⊎◌, sym, ap, ◌∙◌, inl, inr, arith}
use Rattle.std.proofs.lemmas.Bool.{cases_Bool, cases_eq, cases_lt, both_ways, and_parts}
use Rattle.algebra.specs.Passing.{Once}
use Rattle.algebra.specs.Cuts.{on, rim}
use Rattle.algebra.specs.Tables.{Table, Edge, OnLive, Twin, Twinned}
use Rattle.algebra.specs.Placing.{Kills, inner, OnKilled, OnSpared, OnRim, born, base, Placed, Linked}
use Rattle.algebra.specs.Placing.{FlatOnBorder, Fresh, TwinsKept}
use Rattle.algebra.proofs.Passing.{among}
use Rattle.algebra.proofs.Balance.{next, previous, ends_once}
use Rattle.algebra.proofs.Tables.{spared_live, spared_not_killed, killed_live, killed_or_spared, cut, back_on_rim}
use Rattle.algebra.proofs.Bearers.{base_is, base_at, base_once}

-- A place is one of the three of its node.
thirds : (x i : ℕ) → x / 3 ≡ i → (x ≡ 3 * i) ⊎ ((x ≡ 3 * i + 1) ⊎ (x ≡ 3 * i + 2))
thirds x i e = at (cases_eq x (3 * i)) (cases_eq x (3 * i + 1))
  where
    at : (x ≡ 3 * i) ⊎ (x ≡ 3 * i → ⊥) → (x ≡ 3 * i + 1) ⊎ (x ≡ 3 * i + 1 → ⊥) →
        (x ≡ 3 * i) ⊎ ((x ≡ 3 * i + 1) ⊎ (x ≡ 3 * i + 2))
    at (inl d) f = inl d
    at (inr d) (inl f) = inr (inl f)
    at (inr d) (inr f) = inr (inr (omega arith))

module _ (t : Table) (killed flat : ℕ → Bool) (p : ℕ) (t' : Table) where
  -- Short names: the k-th new node is born, and over which place.
  abbrev Born : ℕ → Type 0
  Born k = k < born t killed flat

  abbrev foot : ℕ → ℕ
  foot k = base t killed flat k

  -- A place of t' stands for a place of t: for itself where that is spared, or, the first of a new node, for the base.
  data Stands : ℕ → ℕ → Type 0 where
    kept : {z : ℕ} → OnSpared t killed z → Stands z z
    borne : (k : ℕ) → Born k → Stands (3 * (t.size + k)) (foot k)

  -- What is known of such a place.
  record Plain (x z : ℕ) : Type 0 where
    stands : Stands x z
    was_live : OnLive t z
    same_border : t'.border x ≡ t.border z
    same_edge : Edge t' x (t.from z) (t.to z)

  -- The sorts of live places of t': such places, and those of new nodes that run in to p, and out from p.
  data Sort : ℕ → Type 0 where
    plain : {x z : ℕ} → Plain x z → Sort x
    inward : (k : ℕ) → Born k → Edge t' (3 * (t.size + k) + 1) (t.to (foot k)) p → Sort (3 * (t.size + k) + 1)
    outward : (k : ℕ) → Born k → Edge t' (3 * (t.size + k) + 2) p (t.from (foot k)) → Sort (3 * (t.size + k) + 2)

  module _ (w : Twinned t) (kills : Kills t killed) (new : Placed t killed flat p t') (link : Linked t killed flat t')
      (fresh : Fresh t p) (starts_once : Once (3 * t.size) (rim killed (inner t killed)) t.from)
      (flats : FlatOnBorder t killed flat) where
    -- Bases are killed places of the rim.
    foot_rim : (k : ℕ) → Born k → OnRim t killed (foot k)
    foot_rim k l = (base_is t killed flat k l).0

    foot_killed : (k : ℕ) → Born k → on killed (foot k) ≡ true
    foot_killed k l = (and_parts _ _ (foot_rim k l).passes).0

    foot_live : (k : ℕ) → Born k → OnLive t (foot k)
    foot_live k l = killed_live w kills (among (foot_rim k l).below (foot_killed k l))

    old_sort : {x : ℕ} → OnSpared t killed x → Sort x
    old_sort {x} s = plain (record {
      stands = kept s;
      was_live = spared_live w kills s;
      same_border = link.kept_border s;
      same_edge = new.kept x s.below;
    })

    new_sort : {x : ℕ} (k : ℕ) → Born k →
        (x ≡ 3 * (t.size + k)) ⊎ ((x ≡ 3 * (t.size + k) + 1) ⊎ (x ≡ 3 * (t.size + k) + 2)) → Sort x
    new_sort k l (inl e) = rw e (plain (record {
      stands = borne k l;
      was_live = foot_live k l;
      same_border = link.outer_border k l;
      same_edge = new.outer k l;
    }))
    new_sort k l (inr (inl e)) = rw e (inward k l (new.run_in k l))
    new_sort k l (inr (inr e)) = rw e (outward k l (new.run_out k l))

    sort : {x : ℕ} → OnLive t' x → Sort x
    sort {x} a = at (cases_lt x (3 * t.size))
      where
        at : (x < 3 * t.size) ⊎ (3 * t.size ≤ x) → Sort x
        at (inl l) = old_sort (among l (sym (new.kept_live (x / 3) (omega arith)) ∙ a.passes))
        at (inr l) =
            let k = x / 3 - t.size in
            let g = new.grown in
            let b = a.below in
            new_sort k (omega arith) (thirds x (t.size + k) (omega arith))

    -- At most one place stands for z, since a base is not spared.
    not_both : {z : ℕ} (k : ℕ) → Born k → foot k ≡ z → OnSpared t killed z → ⊥
    not_both {z} k l e s =
        both_ways (on killed z) (spared_not_killed w kills s) (ap (on killed) (sym e) ∙ foot_killed k l)

    stands_once : {x y z v : ℕ} → Stands x z → Stands y v → z ≡ v → x ≡ y
    stands_once (kept s) (kept r) q = q
    stands_once (kept s) (borne k l) q = absurd (not_both k l (sym q) s)
    stands_once (borne k l) (kept s) q = absurd (not_both k l q s)
    stands_once (borne k l) (borne j m) q = ap (λ i. 3 * (t.size + i)) (base_once t killed flat k j l m q)

    -- No edge of t touches p.
    from_p : {z : ℕ} → OnLive t z → t.from z ≡ p → ⊥
    from_p {z} a = fresh.not_from z a.below

    to_p : {z : ℕ} → OnLive t z → t.to z ≡ p → ⊥
    to_p {z} a = fresh.not_to z a.below

    -- So places that run alike are of one sort, and then they are the same.
    once : {x y : ℕ} → Sort x → Sort y → Edge t' x (t'.from y) (t'.to y) → x ≡ y
    once (plain a) (plain b) q =
        stands_once a.stands b.stands (w.once a.was_live b.was_live (record { starts = cc; ends = cc }))
    once (plain a) (inward k l e) q = absurd (to_p a.was_live (cc))
    once (plain a) (outward k l e) q = absurd (from_p a.was_live (cc))
    once (inward k l e) (plain a) q = absurd (to_p a.was_live (cc))
    once (inward k l e) (inward j m d) q =
        let same = ends_once (cut w kills) starts_once (foot k) (foot j) (foot_rim k l) (foot_rim j m) (cc) in
        ap (λ i. 3 * (t.size + i) + 1) (base_once t killed flat k j l m same)
    once (inward k l e) (outward j m d) q = absurd (from_p (foot_live j m) (cc))
    once (outward k l e) (plain a) q = absurd (from_p a.was_live (cc))
    once (outward k l e) (inward j m d) q = absurd (from_p (foot_live k l) (cc))
    once (outward k l e) (outward j m d) q =
        let same = starts_once (foot k) (foot j) (foot_rim k l) (foot_rim j m) (cc) in
        ap (λ i. 3 * (t.size + i) + 2) (base_once t killed flat k j l m same)

    -- Where a place runs back along another, both are plain, or one runs in and one out: neither is on the border.
    alone : {x y : ℕ} → Sort x → t'.border x ≡ true → Sort y → Edge t' y (t'.to x) (t'.from x) → ⊥
    alone (plain a) f (plain b) q =
        w.alone a.was_live (sym a.same_border ∙ f) b.was_live (record { starts = cc; ends = cc })
    alone (plain a) f (inward j m d) q = from_p a.was_live (cc)
    alone (plain a) f (outward j m d) q = to_p a.was_live (cc)
    alone (inward k l e) f (plain b) q = from_p b.was_live (cc)
    alone (inward k l e) f (inward j m d) q = to_p (foot_live j m) (cc)
    alone (inward k l e) f (outward j m d) q =
        both_ways _ (link.in_border k l (foot_rim j m) (cc) ∙ (base_is t killed flat j m).1) f
    alone (outward k l e) f (plain b) q = to_p b.was_live (cc)
    alone (outward k l e) f (inward j m d) q =
        both_ways _ (link.out_border k l (foot_rim j m) (cc) ∙ (base_is t killed flat j m).1) f
    alone (outward k l e) f (outward j m d) q = from_p (foot_live j m) (cc)

    -- Twins in t': a spared place, and a place of a new node.
    old_twin : {y a b i : ℕ} → OnSpared t killed y → Edge t y b a → y / 3 ≡ i → Twin t' a b i
    old_twin {y} s e d =
        let l = s.below in
        let g = new.grown in
        let h = new.kept y l in
        record {
          place = y;
          lives = among (omega arith) (new.kept_live (y / 3) (omega arith) ∙ s.passes);
          back = record { starts = cc; ends = cc };
          node = d;
        }

    new_twin : {y a b : ℕ} (k : ℕ) → Born k → y / 3 ≡ t.size + k → Edge t' y b a → Twin t' a b (t.size + k)
    new_twin {y} k l d e =
        let g = new.grown in
        record {
          place = y;
          lives = among (omega arith) (ap t'.live d ∙ new.new_live k l);
          back = e;
          node = d;
        }

    -- A place of the rim that is not on the border is a base.
    base_of : {z : ℕ} → OnRim t killed z → t.border z ≡ false → (k : ℕ) × Born k × (foot k ≡ z)
    base_of {z} a b = base_at t killed flat a (at (cases_Bool (flat z)))
      where
        at : (flat z ≡ true) ⊎ (flat z ≡ false) → flat z ≡ false
        at (inl f) = absurd (both_ways (t.border z) b (flats z a f))
        at (inr f) = f

    -- What stands for z has the twin that z had, if that is spared. If that is killed, it is a base, and what is born
    -- over it is the twin.
    plain_twin : {x z : ℕ} → Stands x z → t.border z ≡ false → (v : Twin t (t.from z) (t.to z) (t.across z)) →
        OnKilled t killed v.place ⊎ OnSpared t killed v.place → Twin t' (t.from z) (t.to z) (t'.across x)
    plain_twin (kept s) b v (inl a) =
        let e = v.back in
        let r = back_on_rim w kills s a (record { starts = cc; ends = cc }) in
        let (k, l, d) = base_of r.0 r.1 in
        let h = new.outer k l in
        rw (link.turned s k l (record { starts = cc; ends = cc }))
        (new_twin {y = 3 * (t.size + k)} k l (omega arith) (record { starts = cc; ends = cc }))
    plain_twin (kept s) b v (inr r) =
        let n = v.node in
        old_twin r v.back (n ∙ sym (link.kept_across s b (ap killed (sym n) ∙ spared_not_killed w kills r)))
    plain_twin (borne k l) b v (inl a) =
        let r = foot_rim k l in
        let n = v.node in
        absurd (grind arith)
    plain_twin (borne k l) b v (inr r) = old_twin r v.back (v.node ∙ sym (link.outer_across k l b))

    -- The new nodes after and before a new node round the rim, where its sides are not on the border.
    after : (k : ℕ) → Born k → t'.border (3 * (t.size + k) + 1) ≡ false →
        (j : ℕ) × Born j × (t.from (foot j) ≡ t.to (foot k))
    after k l f =
        let y = next (cut w kills) (foot_rim k l) in
        let z = base_at t killed flat y.1 (sym (link.in_border k l y.1 y.2) ∙ f) in
        (z.0, z.1, ap t.from z.2 ∙ y.2)

    before : (k : ℕ) → Born k → t'.border (3 * (t.size + k) + 2) ≡ false →
        (j : ℕ) × Born j × (t.to (foot j) ≡ t.from (foot k))
    before k l f =
        let y = previous (cut w kills) (foot_rim k l) in
        let z = base_at t killed flat y.1 (sym (link.out_border k l y.1 y.2) ∙ f) in
        (z.0, z.1, ap t.to z.2 ∙ y.2)

    -- A place that runs in has its twin on the node after, and one that runs out on the node before.
    twin : {x : ℕ} → Sort x → t'.border x ≡ false → Twin t' (t'.from x) (t'.to x) (t'.across x)
    twin (plain a) f =
        let o = sym a.same_border ∙ f in
        let v = w.twin a.was_live o in
        rw (a.same_edge.starts, a.same_edge.ends) (plain_twin a.stands o v (killed_or_spared w kills v.lives))
    twin (inward k l e) f =
        let (j, m, d) = after k l f in
        let h = new.run_out j m in
        rw (e.starts, e.ends, link.in_across j k m l d)
        (new_twin {y = 3 * (t.size + j) + 2} j m (omega arith) (record { starts = cc; ends = cc }))
    twin (outward k l e) f =
        let (j, m, d) = before k l f in
        let h = new.run_in j m in
        rw (e.starts, e.ends, link.out_across j k m l d)
        (new_twin {y = 3 * (t.size + j) + 1} j m (omega arith) (record { starts = cc; ends = cc }))

    -- Old and new nodes go round.
    round : (i : ℕ) → i < t'.size → (i < t.size) ⊎ (t.size ≤ i) →
        (t'.to (3 * i) ≡ t'.from (3 * i + 1)) × (t'.to (3 * i + 1) ≡ t'.from (3 * i + 2))
        × (t'.to (3 * i + 2) ≡ t'.from (3 * i))
    round i l (inl m) =
        let a = new.kept (3 * i) (omega arith) in
        let b = new.kept (3 * i + 1) (omega arith) in
        let c = new.kept (3 * i + 2) (omega arith) in
        let d = w.rounds.first i m in
        let e = w.rounds.second i m in
        let f = w.rounds.third i m in
        (cc, cc, cc)
    round i l (inr m) =
        let k = i - t.size in
        let g = new.grown in
        let b : Born k = omega arith in
        let e : i ≡ t.size + k = omega arith in
        let c = new.outer k b in
        let d = new.run_in k b in
        let f = new.run_out k b in
        (cc, cc, cc)

    twinned : Twinned t'
    twinned = record {
      rounds = record {
        first = λ i l. (round i l (cases_lt i t.size)).0;
        second = λ i l. (round i l (cases_lt i t.size)).1;
        third = λ i l. (round i l (cases_lt i t.size)).2;
      };
      once = λ a b q. once (sort a) (sort b) q;
      twin = λ a f. twin (sort a) f;
      alone = λ a f b q. alone (sort a) f (sort b) q;
    }

-- The claim.
pub twins_kept : {t : Table} {killed flat : ℕ → Bool} {p : ℕ} {t' : Table} → TwinsKept t killed flat p t'
twins_kept {t} {killed} {flat} {p} {t'} w kills new link fresh starts flats =
    twinned t killed flat p t' w kills new link fresh starts flats
