use Rattle.std.proofs.Common.{◌≡◌, ◌≢◌, ℕ, zero, suc, ◌<◌, false, length, get_or, refl, arith, below_more, length-set}
use Rattle.std.proofs.Math.Seq.{get_or-set_same, get_or-set_other}
use Rattle.std.proofs.Math.ListN.{replicate}
use Rattle.mesh.specs.Placing.{no_node}
use Rattle.mesh.proofs.Made.{matched}
use Rattle.mesh.proofs.killing.Newcomer.doomed.Goals as goal

none : (n k : ℕ) → get_or (replicate n false) k false ≡ false
none zero k = refl
none (suc n) zero = refl
none (suc n) (suc k) = none n k

-- nothing is written yet
pub loop-i-init : goal.loop-i-init
loop-i-init g c = (refl, (λ k h. none 1024 k), λ housed k h. absurd (omega arith))

-- earlier places stay, and the one at i is written
pub loop-i-preserved : goal.loop-i-preserved
loop-i-preserved g c = (
  simp length-set c.loop-i.invariant.0,
  (λ k h.
      let other : k ≢ c.loop-i.i = omega arith in
      rw get_or-set_other (c.loop-i.invariant.1 k (omega arith))),
  λ housed.
      below_more _ _
      (λ k h.
      let other : k ≢ c.loop-i.i = omega arith in
      rw get_or-set_other (c.loop-i.invariant.2 housed k h))
      (let within : c.loop-i.i < length c.loop-i.killed = omega (arith, c.loop-i.invariant.0) in
      rw get_or-set_same (c.kills.ensures housed)),
)

pub returns-clause-killed : goal.returns-clause-killed
returns-clause-killed g c housed i low = c.loop-i.invariant.2 housed i (omega arith)

pub returns-clause-others : goal.returns-clause-others
returns-clause-others g c i high = c.loop-i.invariant.1 i (omega arith)

pub returns-clause-all : goal.returns-clause-all
returns-clause-all g c housed =
    matched _ c.args.nodes.now c.loop-i.killed no_node false (omega (arith, c.loop-i.invariant.0)) (returns-clause-killed g c housed)
