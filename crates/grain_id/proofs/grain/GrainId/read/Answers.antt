use Rattle.std.proofs.lemmas.Result.{err_from_is_err_and}
use Rattle.grain_id.specs.Names.{Grain}
use Rattle.grain_id.proofs.Reading.{IfFaulty-from, grain_read-found, grain_read-none}
use Rattle.grain_id.proofs.Places.{is_text-grain_at}
use Rattle.grain_id.proofs.grain.GrainId.read.Goals as goal

pub returns-in_err-slash-clause-none : goal.returns-in_err-slash-clause-none
returns-in_err-slash-clause-none c =
    let back = err_from_is_err_and c.from_residual.result c.from_residual.ensures.1 in
    rw back.1 (IfFaulty-from Grain back.0 (grain_read-none c.args.text.now _ c.in_err-slash.ensures))

pub returns-clause-whole : goal.returns-clause-whole
returns-clause-whole c =
    rw c.in_ok-share.ensures (rw c.in_ok-text.ensures (is_text-grain_at c.args.text.now c.in_ok-slash.slash c.in_ok-slash.colon c.in_ok-slash.ensures))

pub returns-clause-gives : goal.returns-clause-gives
returns-clause-gives c =
    rw c.in_ok-share.ensures (rw c.in_ok-text.ensures (grain_read-found c.args.text.now _ (is_text-grain_at c.args.text.now c.in_ok-slash.slash c.in_ok-slash.colon c.in_ok-slash.ensures)))
