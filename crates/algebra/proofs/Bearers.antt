-- The places over which nodes are born: those of the rim that are not flat, each once.
use Rattle.std.proofs.Common.{◌≡◌, ℕ, ◌*◌, ◌<◌, Bool, false, not, ◌&&◌}
use Rattle.std.proofs.lemmas.Bool.{and_parts, and_from, not-true, not_from_false}
use Rattle.algebra.specs.Passing.{Passing}
use Rattle.algebra.specs.Cuts.{rim}
use Rattle.algebra.specs.Tables.{Table}
use Rattle.algebra.specs.Placing.{inner, OnRim, bearers, born, base}
use Rattle.algebra.proofs.Passing.{among, passing, passing_once}

module _ (t : Table) (killed flat : ℕ → Bool) where
  pub bearing : Passing (3 * t.size) (λ x. not (flat x) && rim killed (inner t killed) x) (bearers t killed flat)
  unfolding bearers
  bearing = passing (3 * t.size) (λ x. not (flat x) && rim killed (inner t killed) x)

  -- A base is such a place.
  pub base_is : (k : ℕ) → k < born t killed flat →
      OnRim t killed (base t killed flat k) × (flat (base t killed flat k) ≡ false)
  base_is k l =
      let a = bearing.each k l in
      let q = and_parts _ _ a.passes in
      (among a.below q.1, not-true _ q.0)

  -- Such a place is a base.
  pub base_at : {x : ℕ} → OnRim t killed x → flat x ≡ false →
      (k : ℕ) × (k < born t killed flat) × (base t killed flat k ≡ x)
  base_at a f = bearing.all (among a.below (and_from _ _ (not_from_false _ f) a.passes))

  -- It is the base of one node.
  pub base_once : (j k : ℕ) → j < born t killed flat → k < born t killed flat →
      base t killed flat j ≡ base t killed flat k → j ≡ k
  base_once = passing_once bearing
