-- An answer that gives the refusal of the bytes accepts just those that keep the layout.
use Rattle.std.proofs.Common.{◌≡◌, sym, ◌∙◌}
use Rattle.plane.specs.Refusal.{refused}
use Rattle.sheet.specs.Refusals.{sheet_refusal, sheet_refused}
use Rattle.sheet.proofs.Accepted.{accepted, lawful, sheet_refused_is}
use Rattle.sheet.proofs.checking.check_bytes.Goals as goal

pub returns : goal.returns
returns c =
    let told : refused sheet_refusal c.check_rows.result ≡ sheet_refused c.args.bytes.now =
    c.check_rows.ensures ∙ sym (sheet_refused_is _)
    in
    let decides = accepted _ c.check_rows.result told in
    record { accepts = decides; refuses = told; lawful = lawful _ c.check_rows.result decides }
