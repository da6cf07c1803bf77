use Rattle.std.proofs.Common.{◌≡◌, position, rules, tests}
use Rattle.std.proofs.lemmas.Iterator.{YieldsList-from_slice}
use Rattle.std.proofs.lemmas.Iterator.Search.{position_from_yields_List}
use Rattle.mesh.specs.Refusals.{same_position}
use Rattle.mesh.proofs.Searches.{numbered}
use Rattle.mesh.proofs.placing.master_at.Goals as goal

pub returns : goal.returns
returns c =
    let masters = c.args.masters.now in
    let found : c.position.result ≡ position (λ q. same_position q c.args.p) masters =
    position_from_yields_List _ _ _ c.position.result c.position.ensures.ran (YieldsList-from_slice masters cc) (λ x b q k. search (rules, tests)) in
    numbered (λ q. same_position q c.args.p) 0 masters c.position.result c.map.result found c.map.ensures.cases (λ i n h. search (rules, tests))
