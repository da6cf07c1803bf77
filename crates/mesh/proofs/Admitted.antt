-- Where none of the first rows applies, the others decide.
use Rattle.std.proofs.Common.{◌≡◌, ℕ, Bool, true, false, cond, List, [], ◌∷◌, ◌++◌, map, length, Some, None, Option, sym, refl, ap, ◌∙◌, arith}
use Rattle.plane.specs.declared.position.Position.{Position}
use Rattle.plane.specs.Refusal.{Refusal, Row, first}
use Rattle.plane.specs.Measures.{Heights}
use Rattle.mesh.specs.Opened.{Opened, Placed}
use Rattle.mesh.specs.Placing.{kills, placed_nodes, placed}
use Rattle.mesh.specs.Refusals.{master_rows, nodes_row, place_rows}
use Rattle.mesh.specs.Tree.{Mesh}

some_none : {r : Refusal} → Some r ≡ None → ⊥
some_none e = let z : ◌≡◌ {A = ℕ} 0 1 = cc in omega arith

pub after_none : (rows more : List Row) → first rows ≡ None → first (rows ++ more) ≡ first more
after_none [] more e = refl
after_none (row ∷ rows) more e = by row.applies e (after_none rows more)
  where
    by : (b : Bool) → cond b (Some row.answer) (first rows) ≡ None → (first rows ≡ None → first (rows ++ more) ≡ first more) →
        cond b (Some row.answer) (first (rows ++ more)) ≡ first more
    by true f ih = absurd (some_none f)
    by false f ih = ih f

module _ (h : Heights) (m : Mesh) (p : Position) where
  -- With the killed nodes of the definition, opening the tables is placing.
  module _ (doomed : List Bool) (e : doomed ≡ map (kills h m.masters p) m.nodes) where
    pub place_refuses : None ≡ first (master_rows m.masters p) → (o : Option Refusal) →
        o ≡ first (nodes_row doomed m.nodes ∷ []) → o ≡ first (place_rows h m p)
    place_refuses a o f =
        let last = nodes_row (map (kills h m.masters p) m.nodes) m.nodes ∷ [] in
        f
        ∙ ap (λ (d : List Bool). first (nodes_row d m.nodes ∷ [])) e
        ∙ sym (after_none (master_rows m.masters p) last (sym a))

    pub place_places : (n : ℕ) (m' : Mesh) → Opened m p doomed n m' → Placed h m p n m'
    unfolding placed
    place_places n m' o =
        record {
          number = o.number;
          tree =
              let nodes = o.nodes ∙ ap (λ (d : List Bool). placed_nodes (length m.masters) d m.nodes) e in
              λ i. record { masters = o.masters i; nodes = nodes i };
        }
