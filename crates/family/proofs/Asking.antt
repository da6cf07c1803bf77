-- Questions: the node that answers is the owner, and there is one.
use Rattle.std.proofs.Common.{◌≡◌, ℕ, zero, suc, ◌<◌, List, [], ◌∷◌, map, length, get_or, ℤ, pos, IfOk, MatchOption, Some, None, Option, sym, refl, ap, ◌∙◌, subst, arith}
use Rattle.std.specs.Option.{ok_or}
use Rattle.std.proofs.lemmas.List.{append-nil}
use Rattle.plane.specs.declared.position.Position.{Position}
use Rattle.plane.specs.Measures.{Heights, Supported}
use Rattle.plane.specs.Plane.{Within}
use Rattle.figures.specs.declared.mix.Mix.{Mix}
use Rattle.mesh.specs.Lists.{in_use}
use Rattle.mesh.specs.Owner.{OwnsAt, Owner}
use Rattle.mesh.specs.Placing.{stand, tree}
use Rattle.mesh.specs.Tree.{Mesh}
use Rattle.mesh.specs.declared.tables.Tables.{Tables}
use Rattle.mesh_laws.specs.Laws.{Lawful, weights_at}
use Rattle.mesh_laws.specs.Steps.{AllFormed}
use Rattle.mesh_laws.proofs.Families.{sound_tree, laws}
use Rattle.family.specs.Calls as call
use Rattle.family.specs.Calls.{Made, Stepped, Asked, Replies}
use Rattle.family.specs.Finding.{AnsweredBy, Unanswered, ShowsOnly}
use Rattle.family.specs.Mixes.{mixture, mix_at}
use Rattle.family.specs.Outcomes.{question_outcome}
use Rattle.family.specs.Refusals.{question_refusal}
use Rattle.family.specs.declared.fault.QuestionFault.TheVariants.{NotInside}
use Rattle.family.proofs.Making.{made_housed}

-- The node that answers owns q.
owns_at : {m : Mesh} {q : Position} {x : Mix} (a : AnsweredBy m q x) → OwnsAt m q a.number
owns_at a =
    record { is_live = record { used = a.used; lives = a.answers.lives }; owns = a.answers.mixable.owns }

-- Its mix, as numbers.
same_mixture : {m : Mesh} {q : Position} {x : Mix} (a : AnsweredBy m q x) → mixture x ≡ mix_at m a.number q
same_mixture a =
    λ i. record {
      masters = a.mixes.same_masters i;
      weights = a.mixes.weighed i;
      total = a.mixes.summed i;
      count = a.mixes.same_count i;
    }

module _ {h : Heights} (law : Supported h) {ps : List Position} {t : Tables} (g : Made h ps t) where
  -- The laws of the family, of the tables' lists.
  lawful : Lawful h (in_use t)
  lawful = rw g.tree_is (laws h law ps g.placeable)

  formed : AllFormed (in_use t)
  formed = subst AllFormed (sym g.tree_is) (sound_tree h law ps g.placeable).formed

  -- The node that answers is the owner,
  is_owner : {q : Position} → Within q → (i : ℕ) → OwnsAt (in_use t) q i → Owner (in_use t) q i
  is_owner {q} w i o =
      let j = lawful.owned q w in
      record { owner = o; only = λ k f. j.1.only k f ∙ sym (j.1.only i o) }

  -- and there is one.
  answered : {q : Position} → Within q → Unanswered (in_use t) q → ⊥
  answered {q} w none =
      let j = lawful.owned q w in
      let o = j.1.owner in
      let housed = made_housed g in
      none j.0 o.is_live.used (record {
        lives = o.is_live.lives;
        mixable = record {
          housed = record { a_in = housed _; b_in = housed _; c_in = housed _; q_in = omega arith };
          owns = o.owns;
          known = λ e l. (formed j.0 o.is_live.used).masters_in e;
        };
      })

-- A weight is the total as a number where it is as an integer.
get_or_pos : (ws : List ℕ) (i : ℕ) → get_or (map pos ws) i (pos 0) ≡ pos (get_or ws i 0)
get_or_pos [] i = refl
get_or_pos (w ∷ ws) zero = refl
get_or_pos (w ∷ ws) (suc i) = get_or_pos ws i

whole_weight : (ws : List ℕ) {zs : List ℤ} {n : ℕ} {z : ℤ} (i : ℕ) → map pos ws ≡ zs → pos n ≡ z → get_or zs i (pos 0) ≡ z →
    get_or ws i 0 ≡ n
whole_weight ws {n = n} i e f g =
    let same : pos (get_or ws i 0) ≡ pos n = sym (get_or_pos ws i) ∙ ap (λ xs. get_or xs i (pos 0)) e ∙ g ∙ sym f in
    cc

-- A question leaves the tables.
asked_steps : {h : Heights} {t : Tables} {q : Position} {o : call.Outcome} →
    ((ps : List Position) → Made h ps t → Asked h ps q o) → Stepped h t (call.ask q) o t
asked_steps replied = record { replied = replied; kept = λ ps g. rw (append-nil ps) g }

module _ (h : Heights) (law : Supported h) (t : Tables) (q : Position) where
  pub outside_steps : (Within q → ⊥) → Stepped h t (call.ask q) (call.refused (question_refusal NotInside)) t
  outside_steps n = asked_steps (λ ps g. call.outside n)

  module _ (w : Within q) where
    -- What is found answers the question; something is found.
    pub found_steps : (found : Option Mix) → MatchOption found (Unanswered (in_use t) q) (λ x. AnsweredBy (in_use t) q x) →
        Stepped h t (call.ask q) (question_outcome (ok_or found NotInside)) t
    found_steps None none = asked_steps (λ ps g. absurd (answered law g w none))
    found_steps (Some x) a =
        asked_steps (λ ps g.
        let m = g.tree_is in
        let owner : Owner (tree h ps) q a.number = subst (λ n. Owner n q a.number) m (is_owner law g w a.number (owns_at a)) in
        let mix = same_mixture a ∙ ap (λ n. mix_at n a.number q) m in
        rw mix (call.owned w a.number owner))

    -- At its own position a master has the whole weight.
    pub found_own : (found : Option Mix) → MatchOption found (Unanswered (in_use t) q) (λ x. AnsweredBy (in_use t) q x) →
        (ps : List Position) → Made h ps t → (k : ℕ) → k < length (in_use t).masters → stand (in_use t).masters k ≡ q →
        IfOk (ok_or found NotInside) (λ x. ShowsOnly x k)
    found_own None none ps g k l e = tt
    found_own (Some x) a ps g k l e =
        let own = (lawful law g).own_place k l (rw e w) a.number (rw e (is_owner law g w a.number (owns_at a))) in
        record {
          side = own.side;
          side_in = own.side_in;
          is_master = ap (λ ms. get_or ms own.side 0) a.mixes.same_masters ∙ own.is_vertex;
          whole = whole_weight x.weights own.side a.mixes.weighed a.mixes.summed (ap (λ p. get_or (weights_at (in_use t) a.number p) own.side (pos 0)) (sym e) ∙ own.whole);
        }
