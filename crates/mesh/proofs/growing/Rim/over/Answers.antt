use Rattle.std.proofs.Common.{◌≡◌, ℕ, Bool, eqb, [], ◌∷◌, Some, Option, position, ◌∙◌, rules, tests}
use Rattle.std.proofs.lemmas.Iterator.{YieldsList-from_slice}
use Rattle.std.proofs.lemmas.Iterator.Search.{position_from_yields_List}
use Rattle.mesh.specs.declared.edge.Edge.{Edge}
use Rattle.mesh.specs.Tree.{born}
use Rattle.mesh.proofs.Searches.{numbered}
use Rattle.mesh.proofs.Shown.{first_shown}
use Rattle.mesh.proofs.growing.Rim.over.Goals as goal

pub returns : goal.returns
returns c =
    let edges = c.args.self.edges.now in
    let first = c.args.self.first in
    let edge = c.args.edge.now in
    let starts : Edge → Bool = λ f. eqb f.from edge.to in
    let ends : Edge → Bool = λ f. eqb f.to edge.from in
    let found : c.position-after.result ≡ position starts edges =
    position_from_yields_List starts _ _ c.position-after.result c.position-after.ensures.ran (YieldsList-from_slice edges cc) (λ x b q k. search (rules, tests)) in
    let found-2 : c.position-before.result ≡ position ends edges =
    position_from_yields_List ends _ _ c.position-before.result c.position-before.ensures.ran (YieldsList-from_slice edges cc) (λ x b q k. search (rules, tests)) in
    let after =
    numbered starts first edges c.position-after.result c.map.result found c.map.ensures.cases (λ i n h. search (rules, tests))
    ∙ first_shown (λ f. eqb f.from edge.to) first edges in
    let before =
    numbered ends first edges c.position-before.result c.map-2.result found-2 c.map-2.ensures.cases (λ i n h. search (rules, tests))
    ∙ first_shown (λ f. eqb f.to edge.from) first edges in
    let told = λ (a b : Option ℕ). born (edge.from ∷ edge.to ∷ c.args.self.master ∷ []) (edge.beyond ∷ a ∷ b ∷ []) (Some edge.father) edge.beyond in
    c.born.ensures ∙ (λ i. told (after i) (before i))
