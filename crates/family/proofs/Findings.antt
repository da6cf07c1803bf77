-- What a search over the nodes finds: the first that answers.
use Rattle.std.proofs.Common.{◌≡◌, ℕ, ◌+◌, ◌<◌, IsTrue, IsSomeAnd, IfSome, MatchOption, Some, None, Option, subst, arith}
use denote.Param.Members.{Mut}
use denote.Ref.{Bor}
use Rattle.std.specs.Fn.{Called}
use Rattle.std.specs.Iterator.Runs.{Run, ItemsMapTo, CallKeepsClosure, AllItemsGive, IsFirstToGive}
use Rattle.std.specs.Option.{option_map}
use Rattle.plane.specs.declared.position.Position.{Position}
use Rattle.figures.specs.declared.mix.Mix.{Mix}
use Rattle.mesh.specs.declared.node.Node.{Node}
use Rattle.mesh.specs.Owner.{node}
use Rattle.mesh.specs.Placing.{no_node}
use Rattle.mesh.specs.Tree.{Mesh}
use Rattle.family.specs.Finding.{Answers, MixOf, AnsweredBy, Unanswered}

-- What is said of an item, said of the node that it points to.
at_item : (P : Bor Node → Type 0) (o : Option (Bor Node)) (n : Node) → option_map (λ (y : Bor Node). y.now) o ≡ Some n → IfSome o P →
    (y : Bor Node) × (y.now ≡ n) × P y
at_item P (Some y) n e p = (y, cc, p)
at_item P None n e p = absurd (let z : ◌≡◌ {A = ℕ} 0 1 = cc in omega arith)

if_some : {A : Type 0} (P : A → Type 0) (o : Option A) → IsSomeAnd o P → IfSome o P
if_some P (Some y) p = p
if_some P None p = tt

-- A search that asks each node whether it answers q.
module _ {S F : Type 0} {steps : S → Option (Bor Node) → S → Type 0} (p : Run steps) (g : Mut F (Bor Node × Unit {0}) (Option Mix)) (f : F)
    (m : Mesh) (q : Position) (items : ItemsMapTo p (λ (y : Bor Node). y.now) m.nodes) (keeps : CallKeepsClosure g f)
    (asks : (y : Bor Node) (o : Option Mix) → Called g f (y, tt) o f →
    MatchOption o (Answers m.masters y.now q → ⊥) (λ x. Answers m.masters y.now q × MixOf m.masters y.now q x)) where
  pub found : (o : Option Mix) →
      MatchOption o (IsTrue p.whole × AllItemsGive p g f None)
      (λ x. (i : ℕ) × (i < p.len) × (p.len ≡ i + 1) × IsFirstToGive p g f (Some x) None i) →
      MatchOption o (Unanswered m q) (λ x. AnsweredBy m q x)
  found None run =
      λ i l.
      let size = items.1 run.0 in
      let y = at_item (λ y. Called g f (y, tt) None f) (p.at i) (node m i) (items.2 i no_node (omega (arith, size))) (run.1 keeps i) in
      subst (λ (n : Node). Answers m.masters n q → ⊥) y.1 (asks y.0 None y.2)
  found (Some x) run =
      let i = run.0 in
      let hit = if_some (λ y. Called g f (y, tt) (Some x) f) (p.at i) (run.3 keeps).0 in
      let y = at_item (λ y. Called g f (y, tt) (Some x) f) (p.at i) (node m i) (items.2 i no_node run.1) hit in
      let told = subst (λ (n : Node). Answers m.masters n q × MixOf m.masters n q x) y.1 (asks y.0 (Some x) y.2) in
      record { number = i; used = omega (arith, items.0, run.1); answers = told.0; mixes = told.1 }
