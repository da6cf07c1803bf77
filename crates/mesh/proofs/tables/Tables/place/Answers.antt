use Rattle.std.proofs.Common.{◌≡◌, List, map, length, take, None, sym, ap, ◌∙◌, subst}
use Rattle.std.specs.Prelude.{IfOk}
use Rattle.std.proofs.lemmas.Result.{IfOk-weaker}
use Rattle.plane.specs.declared.position.Position.{Position}
use Rattle.plane.specs.Refusal.{refused, first}
use Rattle.mesh.specs.declared.node.Node.{Node}
use Rattle.mesh.specs.Lists.{in_use}
use Rattle.mesh.specs.Opened.{Opened, Placed}
use Rattle.mesh.specs.Placing.{kills, Housed}
use Rattle.mesh.specs.Refusals.{master_rows, place_rows, place_refusal}
use Rattle.mesh.proofs.Admitted.{place_refuses, place_places}
use Rattle.mesh.proofs.tables.Tables.place.Goals as goal

pub returns : goal.returns
returns g c =
    let m = in_use c.args.self.now in
    let h = g.M.Measure.heights c.args.measure.now in
    let p = c.in_ok-admitted.admitted.p in
    let same : p ≡ c.args.p = c.in_ok-admitted.ensures.admits in
    let admitted : None ≡ first (master_rows m.masters p) =
    c.in_ok-admitted.ensures.refuses ∙ (λ i. first (master_rows (c.masters.ensures.value i) (sym same i)))
    in
    let masters = c.masters-2.ensures.value in
    let nodes = c.nodes.ensures.value in
    let killed : Housed m.masters → c.front.result.now ≡ map (kills h m.masters p) m.nodes =
    λ housed.
    c.front.ensures.value
    ∙ ap (λ (ns : List Node). take (length ns) c.doomed-killed.result) (c.nodes-2.ensures.value ∙ sym nodes)
    ∙ c.doomed-killed.ensures.all (subst Housed (sym masters) housed)
    ∙ (λ i. map (kills h (masters i) p) (nodes i))
    in
    record {
      refuses =
          λ housed.
          subst (λ (q : Position). refused place_refusal c.open.result ≡ first (place_rows h m q)) same
          (place_refuses h m p _ (killed housed) admitted _ c.open.ensures.refuses);
      places =
          subst (λ (q : Position). IfOk c.open.result (λ n. Housed m.masters → Placed h m q n (in_use c.open.new.self))) same
          (IfOk-weaker c.open.result (λ n. Opened m p c.front.result.now n (in_use c.open.new.self))
          (λ n. Housed m.masters → Placed h m p n (in_use c.open.new.self))
          (λ n o housed. place_places h m p _ (killed housed) n _ o) c.open.ensures.places);
      keeps = c.open.ensures.keeps;
    }
