-- Placing keeps the sum of every antisymmetric function over the edges of the live nodes.
use Rattle.std.proofs.Common.{◌≡◌, ℕ, ◌+◌, ◌*◌, ◌/◌, ◌<◌, Bool, true, false, not, ◌&&◌, ℤ, ◌+ℤ◌, ◌-ℤ◌, refl, ap, ◌∙◌, arith}
use Rattle.std.proofs.lemmas.Int.{ints}
use Rattle.algebra.specs.Sums.{sum, only, Antisymmetric}
use Rattle.algebra.specs.Cuts.{on, rim}
use Rattle.algebra.specs.Tables.{Table, Edge, Twinned, edge_sum}
use Rattle.algebra.specs.Placing.{Kills, inner, born, base, Placed, FlatSums, SumsKept}
use Rattle.algebra.proofs.Passing.{among}
use Rattle.algebra.proofs.Sums.{sum_cong, sum_add, sum_sub, sum_split, sum_thirds, only_true, only_less}
use Rattle.algebra.proofs.Lists.{sum_passing}
use Rattle.algebra.proofs.Cuts.{killed_rim}
use Rattle.algebra.proofs.Balance.{sides_cancel}
use Rattle.algebra.proofs.Tables.{cut}
use Rattle.algebra.proofs.Bearers.{bearing}

module _ {t : Table} {killed flat : ℕ → Bool} {p : ℕ} {t' : Table} (w : Twinned t) (kills : Kills t killed)
    (new : Placed t killed flat p t') (φ : ℕ → ℕ → ℤ) (anti : Antisymmetric φ)
    (flats : FlatSums t killed flat p φ) where
  -- The term of a place in the old table and in the new one.
  term : ℕ → ℤ
  term x = φ (t.from x) (t.to x)

  term' : ℕ → ℤ
  term' x = only (on t'.live x) (φ (t'.from x) (t'.to x))

  -- The sides that a new node over the place x has besides x.
  sides : ℕ → ℤ
  sides x = φ (t.to x) p +ℤ φ p (t.from x)

  -- The sum over the rim.
  on_rim : (ℕ → ℤ) → ℤ
  on_rim f = sum (3 * t.size) (λ x. only (rim killed (inner t killed) x) (f x))

  -- The old nodes lose what the killed ones had, which is what the rim sums to.
  old_term : (x : ℕ) → x < 3 * t.size → term' x ≡ only (on t.live x) (term x) -ℤ only (on killed x) (term x)
  unfolding term term'
  old_term x l =
      let i : x / 3 < t.size = omega arith in
      let e = new.kept x l in
      rw (e.starts, e.ends, new.kept_live (x / 3) i)
      (only_less (t.live (x / 3)) (killed (x / 3)) (term x) (kills.was_live (x / 3) i))

  old : sum (3 * t.size) term' ≡ edge_sum φ t -ℤ on_rim term
  unfolding term on_rim edge_sum
  old =
      sum_cong (3 * t.size) old_term
      ∙ sum_sub (3 * t.size) _ _
      ∙ ap (λ z. edge_sum φ t -ℤ z) (killed_rim (cut w kills) φ anti)

  -- A new node sums to the term of its base and the sides.
  new_term : (x y i : ℕ) {a b : ℕ} → i < born t killed flat → x ≡ y → y / 3 ≡ t.size + i → Edge t' y a b →
      term' x ≡ φ a b
  unfolding term'
  new_term x y i l e d r =
      let lives = only_true (φ (t'.from y) (t'.to y)) (ap t'.live d ∙ new.new_live i l) in
      cc

  new_node : (i : ℕ) → i < born t killed flat →
      term' (3 * t.size + 3 * i) +ℤ term' (3 * t.size + (3 * i + 1)) +ℤ term' (3 * t.size + (3 * i + 2)) ≡
      term (base t killed flat i) +ℤ sides (base t killed flat i)
  unfolding term sides
  new_node i l =
      let a = new_term (3 * t.size + 3 * i) _ i l (omega arith) (omega arith) (new.outer i l) in
      let b = new_term (3 * t.size + (3 * i + 1)) _ i l (omega arith) (omega arith) (new.run_in i l) in
      let c = new_term (3 * t.size + (3 * i + 2)) _ i l (omega arith) (omega arith) (new.run_out i l) in
      omega (arith, ints)

  -- A flat place bears no node, and would add nothing if it did.
  flat_too : (x : ℕ) → x < 3 * t.size → (f b : Bool) → flat x ≡ f → rim killed (inner t killed) x ≡ b →
      only (not f && b) (term x +ℤ sides x) ≡ only b (term x) +ℤ only b (sides x)
  unfolding only term sides
  flat_too x l true true e r = let z = flats x (among l r) e in omega (arith, ints)
  flat_too x l true false e r = refl
  flat_too x l false true e r = refl
  flat_too x l false false e r = refl

  -- So the new nodes sum to the rim and the sides over it, which cancel.
  born_sum : sum (3 * born t killed flat) (λ i. term' (3 * t.size + i)) ≡ on_rim term +ℤ on_rim sides
  unfolding on_rim
  born_sum =
      sum_thirds (born t killed flat) _
      ∙ sum_cong (born t killed flat) new_node
      ∙ sum_passing (bearing t killed flat) (λ x. term x +ℤ sides x)
      ∙ sum_cong (3 * t.size) (λ x l. flat_too x l _ _ refl refl)
      ∙ sum_add (3 * t.size) _ _

  total : edge_sum φ t' ≡ edge_sum φ t
  unfolding edge_sum term' on_rim sides
  total =
      let g : 3 * t'.size ≡ 3 * t.size + 3 * born t killed flat = let e = new.grown in omega arith in
      let s = sum_split (3 * t.size) (3 * born t killed flat) term' in
      let a = old in
      let b = born_sum in
      let c = sides_cancel (cut w kills) φ p anti in
      rw g (omega (arith, ints))

-- The claim.
pub sums_kept : {t : Table} {killed flat : ℕ → Bool} {p : ℕ} {t' : Table} → SumsKept t killed flat p t'
sums_kept w kills new φ anti flats = total w kills new φ anti flats
