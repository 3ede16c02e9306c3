use Rattle.std.proofs.lemmas.Result.{on_ok_weaker}
use Rattle.journal_text.proofs.Lines.{behind_put}
use Rattle.journal_text.proofs.journal_writer.push_behind.Goals as goal

pub returns : goal.returns
returns c = on_ok_weaker c.push_close.result (λ closed. behind_put c.args.rows.now c.args.steps _ _ _ c.in_ok-push_rows.ensures closed) c.push_close.ensures
