use Rattle.std.proofs.Common.{sym, Result, Ok, Err, OnErr}
use Rattle.grain_id.proofs.ByGrain.{text_insert-again}
use Rattle.silo_state.proofs.state.SiloState.accept.Goals as goal

on_any_error : {A E P : Type 0} (result : Result A E) → P → OnErr result P
on_any_error (Ok x) p = tt
on_any_error (Err e) p = p

pub returns-in_err-wait-clause-unchanged : goal.returns-in_err-wait-clause-unchanged
returns-in_err-wait-clause-unchanged g c =
    on_any_error c.from_residual.result (rw (text_insert-again c.self.inside.accounts c.tenant.result.now c.in-Some.account.now (sym c.in-Some.ensures.value), c.in_err-wait.ensures.unchanged, c.wait.ensures.times) c.self.view_is)
