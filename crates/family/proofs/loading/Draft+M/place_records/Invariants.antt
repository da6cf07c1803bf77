use Rattle.std.proofs.Common.{◌≡◌}
use Rattle.family.specs.Loading.{records}
use Rattle.family.proofs.Records.{Taking}
use Rattle.family.proofs.loading.Draft+M.place_records.Given as goal

abbrev pub invariant-loop-k : goal.invariant-loop-k
invariant-loop-k g l =
    (l.self.measure ≡ l.initial.self.measure)
    × Taking (g.M.Measure.heights l.initial.self.measure) l.initial.self.tables (records l.sheet.bytes.now) l.k l.self.tables
