-- The rim of a cut is balanced: as many of its places end at a master as start from it.
use Rattle.std.proofs.Common.{◌≡◌, ℕ, ◌+◌, ◌*◌, ◌/◌, ◌<◌, Bool, true, false, ◌&&◌, eqb, ℤ, pos, ◌+ℤ◌, ◌-ℤ◌, sym, refl, ap, ◌∙◌, arith}
use Rattle.std.proofs.lemmas.Int.{ints}
use Rattle.algebra.specs.Sums.{sum, only, count, Antisymmetric}
use Rattle.algebra.specs.Passing.{Among, Once, labelled}
use Rattle.algebra.specs.Cuts.{on, Rounds, Cut, rim}
use Rattle.algebra.proofs.Sums.{sum_cong, sum_zero, sum_thirds}
use Rattle.algebra.proofs.Counts.{count_apart, label_found, label_once}
use Rattle.algebra.proofs.Cuts.{killed_rim}

-- Three terms under one test, and two indicators under one test.
only_three : (b : Bool) (x y z : ℤ) → x +ℤ y +ℤ z ≡ pos 0 → only b x +ℤ only b y +ℤ only b z ≡ pos 0
unfolding only
only_three true x y z e = e
only_three false x y z e = refl

only_both : (b c d : Bool) → only b (only c (pos 1) -ℤ only d (pos 1)) ≡ only (b && c) (pos 1) -ℤ only (b && d) (pos 1)
unfolding only
only_both true c d = refl
only_both false c d = refl

-- A figure of the masters grows along each edge by what it is at the end less what it is at the start. Round a triangle
-- it comes back to what it was, so the growths of the killed triangles sum to 0.
module _ {m : ℕ} {from to : ℕ → ℕ} (r : Rounds m from to) (killed : ℕ → Bool) (g : ℕ → ℤ) where
  growth : ℕ → ℤ
  growth x = only (on killed x) (g (to x) -ℤ g (from x))

  round_zero : (i : ℕ) → i < m → growth (3 * i) +ℤ growth (3 * i + 1) +ℤ growth (3 * i + 2) ≡ pos 0
  unfolding growth
  round_zero i l =
      let a = ap g (r.first i l) in
      let b = ap g (r.second i l) in
      let c = ap g (r.third i l) in
      let node : (e : ℕ) → e < 3 → killed ((3 * i + e) / 3) ≡ killed i = λ e s. ap killed (omega arith) in
      let start : killed (3 * i / 3) ≡ killed i = ap killed (omega arith) in
      rw (start, node 1 (omega arith), node 2 (omega arith)) (only_three (killed i) _ _ _ (omega (arith, ints)))

  rounds_zero : sum (3 * m) growth ≡ pos 0
  rounds_zero = sum_thirds m growth ∙ sum_zero m round_zero

module _ {m : ℕ} {from to : ℕ → ℕ} {killed inner : ℕ → Bool} (c : Cut m from to killed inner) where
  -- So do those along the rim.
  pub rim_growth : (g : ℕ → ℤ) → sum (3 * m) (λ x. only (rim killed inner x) (g (to x) -ℤ g (from x))) ≡ pos 0
  unfolding growth
  rim_growth g =
      sym (killed_rim c (λ a b. g b -ℤ g a) (λ a b. omega (arith, ints))) ∙ rounds_zero c.rounds killed g

  -- With p, each place of the rim makes a triangle. The sides of these that run in to p and out from p cancel.
  pub sides_cancel : (φ : ℕ → ℕ → ℤ) (p : ℕ) → Antisymmetric φ →
      sum (3 * m) (λ x. only (rim killed inner x) (φ (to x) p +ℤ φ p (from x))) ≡ pos 0
  sides_cancel φ p anti = sum_cong (3 * m) (λ x l. let e = anti p (from x) in cc) ∙ rim_growth (λ y. φ y p)

  pub balance : (b : ℕ) →
      count (3 * m) (labelled (rim killed inner) from b) ≡ count (3 * m) (labelled (rim killed inner) to b)
  unfolding labelled
  balance b =
      let f = rim_growth (λ y. only (eqb y b) (pos 1)) in
      let d = sum_cong (3 * m) (λ x (l : x < 3 * m). only_both (rim killed inner x) (eqb (to x) b) (eqb (from x) b)) in
      let e = count_apart (3 * m) (labelled (rim killed inner) to b) (labelled (rim killed inner) from b) in
      omega (arith, ints)

  -- Where a place of the rim ends, one starts, and where one starts, one ends.
  pub next : {x : ℕ} → Among (3 * m) (rim killed inner) x →
      (y : ℕ) × Among (3 * m) (rim killed inner) y × (from y ≡ to x)
  next = label_found to from (λ b. sym (balance b))

  pub previous : {x : ℕ} → Among (3 * m) (rim killed inner) x →
      (y : ℕ) × Among (3 * m) (rim killed inner) y × (to y ≡ from x)
  previous = label_found from to balance

  -- Where at most one starts, at most one ends.
  pub ends_once : Once (3 * m) (rim killed inner) from → Once (3 * m) (rim killed inner) to
  ends_once = label_once from to balance
