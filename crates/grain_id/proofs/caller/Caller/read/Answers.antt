use Rattle.std.proofs.lemmas.Result.{err_from_is_err_and}
use Rattle.grain_id.specs.Names.{Client}
use Rattle.grain_id.proofs.Reading.{IfFaulty-from, caller_read-found, caller_read-none}
use Rattle.grain_id.proofs.Places.{is_text-client_at}
use Rattle.grain_id.proofs.caller.Caller.read.Goals as goal

pub returns-in_err-slash-clause-none : goal.returns-in_err-slash-clause-none
returns-in_err-slash-clause-none c =
    let back = err_from_is_err_and c.from_residual.result c.from_residual.ensures.1 in
    rw back.1 (IfFaulty-from Client back.0 (caller_read-none c.args.text.now _ c.in_err-slash.ensures))

pub returns-clause-whole : goal.returns-clause-whole
returns-clause-whole c =
    rw c.in_ok-share.ensures (rw c.in_ok-text.ensures (is_text-client_at c.args.text.now c.in_ok-slash.slash c.in_ok-slash.ensures))

pub returns-clause-gives : goal.returns-clause-gives
returns-clause-gives c =
    rw c.in_ok-share.ensures (rw c.in_ok-text.ensures (caller_read-found c.args.text.now _ (is_text-client_at c.args.text.now c.in_ok-slash.slash c.in_ok-slash.ensures)))
