use Rattle.journal_text.proofs.Common.{refl, sym, written}
use Rattle.journal_text.proofs.Forms.{has_message}
use Rattle.journal_text.proofs.kept.see_message.Goals as goal

pub returns : goal.returns
returns c = has_message written c.args.message.now c.bytes.result.now c.bytes.result.now refl c.see_bytes.ensures c.bytes.ensures.reads (sym c.bytes.ensures.exact)
