use Rattle.std.proofs.Common.{refl, sym}
use Rattle.journal_text.specs.Form.{written}
use Rattle.journal_text.proofs.Forms.{has_message}
use Rattle.checkpoint_text.proofs.checks.see_send.Goals as goal

pub returns : goal.returns
returns c =
    let bytes = c.bytes.result.now in
    (c.text.ensures.well_formed, c.text-2.ensures.well_formed, has_message written c.args.sent.now.message bytes bytes refl c.see_bytes.ensures c.bytes.ensures.reads (sym c.bytes.ensures.exact))
