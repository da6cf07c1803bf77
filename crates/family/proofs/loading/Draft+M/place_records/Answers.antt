use Rattle.std.proofs.Common.{◌≡◌, ◌<◌, length, get_or, Some, MatchResult, ap, ◌∙◌, rules, arith}
use Rattle.std.proofs.lemmas.Result.{err_from_is_err_and}
use Rattle.plane.specs.Refusal.{refused}
use Rattle.mesh.specs.Tree.{corner}
use Rattle.family.specs.declared.fault.BadRecord.{BadRecord}
use Rattle.family.specs.Calls.{Stepped, place}
use Rattle.family.specs.Carried.{record_refusal}
use Rattle.family.specs.Loading.{records}
use Rattle.family.specs.Outcomes.{place_outcome}
use Rattle.family.proofs.Records.{refused_one, taking_more, taking_refused, taking_all, records_length, read_record}
use Rattle.family.proofs.loading.Draft+M.place_records.Goals as goal

pub loop-k-preserved : goal.loop-k-preserved
loop-k-preserved g c =
    let bytes = c.args.sheet.now.bytes.now in
    let k = c.loop-k.k in
    let same = c.loop-k.invariant.0 in
    let low : k < length (records bytes) = omega (arith, records_length bytes, c.count-k-end.ensures) in
    let at = read_record bytes k (omega (arith, c.count-k-end.ensures)) c.unwrap-p.ensures c.record.ensures.takes in
    let step : Stepped (g.M.Measure.heights c.args.self.now.measure) c.loop-k.self.tables (place (get_or (records bytes) k (corner 0 0)))
    (place_outcome c.place.result) c.place.new.self.tables = rw (← at, ← same) c.place.ensures.steps
    in
    (c.place.ensures.measures ∙ same, taking_more _ _ _ k _ c.loop-k.invariant.1 _ _ low step c.in_ok-map_err.ensures.variant)

pub returns-in_err-map_err-clause-placed : goal.returns-in_err-map_err-clause-placed
returns-in_err-map_err-clause-placed g c =
    let bytes = c.args.sheet.now.bytes.now in
    let k = c.loop-k.k in
    let same = c.loop-k.invariant.0 in
    let low : k < length (records bytes) = omega (arith, records_length bytes, c.count-k-end.ensures) in
    let at = read_record bytes k (omega (arith, c.count-k-end.ensures)) c.unwrap-p.ensures c.record.ensures.takes in
    let step : Stepped (g.M.Measure.heights c.args.self.now.measure) c.loop-k.self.tables (place (get_or (records bytes) k (corner 0 0)))
    (place_outcome c.place.result) c.place.new.self.tables = rw (← at, ← same) c.place.ensures.steps
    in
    let bad = c.in_err-map_err.field-0.0 in
    let is : MatchResult c.place.result (λ _. ⊥) (λ e. bad ≡ record { number = k; fault = e }) =
    search rules
    in
    let p = err_from_is_err_and c.from_residual.result c.from_residual.ensures.1 in
    let answer : refused record_refusal c.from_residual.result ≡ Some (record_refusal bad) =
    ap (refused record_refusal) p.1 ∙ ap (λ (f : BadRecord). Some (record_refusal f)) p.2
    in
    refused_one answer (taking_refused _ _ _ k _ c.loop-k.invariant.1 _ _ bad low step is)

pub returns-clause-placed : goal.returns-clause-placed
returns-clause-placed g c =
    let bytes = c.args.sheet.now.bytes.now in
    let end = taking_all _ _ _ c.loop-k.k _ c.loop-k.invariant.1 (omega (arith, records_length bytes, c.count-k-end.ensures)) in
    record { answered = λ ps made. (end ps made).0; all = λ _ ps made. (end ps made).1 }
