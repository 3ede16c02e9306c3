use Rattle.std.specs.Prelude.{string_bytes}
use Rattle.request_receipts.proofs.Tables.{by_bytes-updated}
use Rattle.request_receipts.proofs.receipts.add_in.Goals as goal

pub returns-clause-added : goal.returns-clause-added
returns-clause-added c = by_bytes-updated c.args.callers.now c.insert.new.self (string_bytes c.args.caller) c.args.kept c.in_ok-insert.ensures.updates
