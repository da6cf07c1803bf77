-- An accepted sheet holds each row that the count covers.
use Rattle.std.proofs.Common.{◌≡◌, ◌+◌, ◌*◌}
use Rattle.sheet.specs.Rows.{row_start}
use Rattle.sheet.proofs.Accepted.{kept}
use Rattle.sheet.proofs.RowPlaces.{row_within}
use Rattle.sheet.proofs.window.Sheet.row_start.Goals as goal

pub returns-clause-within : goal.returns-clause-within
returns-clause-within c =
    let bytes = c.args.self.now.bytes.now in
    let value : c.from.result + c.args.k * c.lawful_length.result ≡ row_start bytes c.args.section c.args.k = cc in
    rw value (row_within bytes c.args.section c.args.k (kept bytes c.args.self.now.lawful) c.requires)
