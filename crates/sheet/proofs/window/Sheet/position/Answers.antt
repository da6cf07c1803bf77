-- A record that the count covers lies within the bytes.
use Rattle.std.proofs.Common.{arith}
use Rattle.sheet.proofs.Accepted.{kept, record_within}
use Rattle.sheet.proofs.window.Sheet.position.Goals as goal

pub number_at-u-requires : goal.number_at-u-requires
number_at-u-requires c = omega (arith, record_within _ c.args.k (kept _ c.args.self.now.lawful) c.requires)

pub number_at-v-requires : goal.number_at-v-requires
number_at-v-requires c = omega (arith, record_within _ c.args.k (kept _ c.args.self.now.lawful) c.requires)
