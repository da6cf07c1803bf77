-- The inner places of a cut cancel, so what is killed sums to what is on the rim.
use Rattle.std.proofs.Common.{◌≡◌, ℕ, ◌*◌, ◌<◌, Bool, true, false, ◌&&◌, eqb, ◌⊎◌, ℤ, pos, ◌+ℤ◌, neg_ℤ, sym, ◌∙◌, inl, inr, arith}
use Rattle.std.proofs.lemmas.Int.{ints}
use Rattle.std.proofs.lemmas.Bool.{cases_Bool, and_parts}
use Rattle.algebra.specs.Sums.{sum, only, Antisymmetric}
use Rattle.algebra.specs.Passing.{Among}
use Rattle.algebra.specs.Cuts.{on, Runs, Cut, rim}
use Rattle.algebra.proofs.Passing.{among}
use Rattle.algebra.proofs.Sums.{sum_cong, sum_add, sum_antisymmetric, sum_only_none, sum_only_one}
use Rattle.algebra.proofs.Sums.{only_true, only_false, only_part}

module _ (from to : ℕ → ℕ) (killed : ℕ → Bool) where
  -- The places x and y are killed, and y runs back along x: as a test, and as facts.
  meets : ℕ → ℕ → Bool
  meets x y = (on killed x && on killed y) && (eqb (from y) (to x) && eqb (to y) (from x))

  record Meets (x y : ℕ) : Type 0 where
    this : on killed x ≡ true
    that : on killed y ≡ true
    back : Runs from to y (to x) (from x)

  meets_parts : (x y : ℕ) → meets x y ≡ true → Meets x y
  unfolding meets
  meets_parts x y h = grind arith

  meets_from : (x y : ℕ) → Meets x y → meets x y ≡ true
  unfolding meets
  meets_from x y h = grind arith

  meets_swap : (x y : ℕ) → meets x y ≡ meets y x
  unfolding meets
  meets_swap x y = grind arith

  module _ {m : ℕ} {inner : ℕ → Bool} (c : Cut m from to killed inner) (φ : ℕ → ℕ → ℤ) (anti : Antisymmetric φ) where
    -- An inner place meets one place, and any other meets none.
    row : (x : ℕ) → x < 3 * m → ((on killed x && inner x) ≡ true) ⊎ ((on killed x && inner x) ≡ false) →
        sum (3 * m) (λ y. only (meets x y) (φ (from x) (to x))) ≡ only (on killed x && inner x) (φ (from x) (to x))
    row x l (inl e) =
        let p = and_parts (on killed x) (inner x) e in
        let (v, b, r) = c.paired (among l p.0) p.1 in
        let met = meets_from x v (record { this = p.0; that = b.passes; back = r }) in
        sum_only_one (among b.below met) (λ y. φ (from x) (to x)) (λ y a. same y v a b r)
        ∙ sym (only_true (φ (from x) (to x)) e)
      where
        same : (y v : ℕ) → Among (3 * m) (meets x) y → Among (3 * m) (on killed) v →
            Runs from to v (to x) (from x) → y ≡ v
        same y v a b r =
            let q = meets_parts x y a.passes in
            c.once (among a.below q.that) b (record { starts = cc; ends = cc })
    row x l (inr e) =
        sum_only_none (3 * m) (meets x) (λ y. φ (from x) (to x)) none ∙ sym (only_false (φ (from x) (to x)) e)
      where
        none : (y : ℕ) → Among (3 * m) (meets x) y → ⊥
        none y a =
            let q = meets_parts x y a.passes in
            c.alone (among l q.this) (grind arith) (among a.below q.that) q.back

    -- Places that meet have opposite terms.
    opposite : (x y : ℕ) → (meets x y ≡ true) ⊎ (meets x y ≡ false) →
        only (meets x y) (φ (from x) (to x)) ≡ neg_ℤ (only (meets y x) (φ (from y) (to y)))
    unfolding only
    opposite x y (inl e) =
        let q = meets_parts x y e in
        let a = anti (from x) (to x) in
        let s = meets_swap x y in
        cc
    opposite x y (inr e) = let s = meets_swap x y in cc

    -- So the sum over all pairs of places that meet is 0, and by rows it is the sum over the inner places.
    cancel : sum (3 * m) (λ x. only (on killed x && inner x) (φ (from x) (to x))) ≡ pos 0
    cancel =
        sym (sum_cong (3 * m) (λ x l. row x l (cases_Bool (on killed x && inner x))))
        ∙ sum_antisymmetric (3 * m) _ (λ x y l k. opposite x y (cases_Bool (meets x y)))

-- The killed places sum to those of the rim.
pub killed_rim : {m : ℕ} {from to : ℕ → ℕ} {killed inner : ℕ → Bool} → Cut m from to killed inner →
    (φ : ℕ → ℕ → ℤ) → Antisymmetric φ →
    sum (3 * m) (λ x. only (on killed x) (φ (from x) (to x))) ≡
    sum (3 * m) (λ x. only (rim killed inner x) (φ (from x) (to x)))
killed_rim {m} {from} {to} {killed} {inner} c φ anti =
    sum_cong (3 * m) (λ x l. only_part (on killed x) (inner x) (φ (from x) (to x)))
    ∙ sum_add (3 * m) _ _
    ∙ drop_left (cancel from to killed c φ anti)
  where
    drop_left : {y z : ℤ} → y ≡ pos 0 → y +ℤ z ≡ z
    drop_left e = omega (arith, ints)
