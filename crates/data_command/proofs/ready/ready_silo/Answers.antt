use Rattle.std.proofs.Common.{List, Option, Some, ap, subst, sym, ◌∙◌, ℕ}
use Rattle.std.proofs.lemmas.Result.{IfOk-weaker}
use Rattle.std.specs.Prelude.{Vec, option_map}
use Rattle.std.specs.declared.alloc.Global.{Global}
use Rattle.silo_model.specs.Opening.{Setup}
use Rattle.command_parts.specs.Setups.{started, starting, version_of}
use Rattle.data_command.specs.Data.{log_view}
use Rattle.data_command.specs.inside.Ready.{HasFound}
use Rattle.data_command.proofs.Beginnings.{found_now, opens_new}
use Rattle.data_command.proofs.ready.ready_silo.Goals as goal

pub returns-in-None-clause-ready : goal.returns-in-None-clause-ready
returns-in-None-clause-ready g c =
    let start = starting (version_of g.L.GrainLogic.logic c.args.opening.start.kinds) c.args.opening.start.tenants c.args.opening.start.age c.args.opening.start.ages in
    let now = log_view g.F.LogHost.begun g.F.LogHost.acts g.F.LogHost.past g.F.LogHost.failed c.args.files.now in
    let log = option_map (λ (bytes : Vec ℕ Global). bytes.items) c.args.found.log in
    let point = option_map (λ (bytes : Vec ℕ Global). bytes.items) c.args.found.point in
    IfOk-weaker c.new_ready.result _ _ (λ r so old f. so now (found_now start c.args.opening.sends old now log point f)) c.new_ready.ensures.ready

pub returns-in-None-clause-opens : goal.returns-in-None-clause-opens
returns-in-None-clause-opens g c =
    let version = version_of g.L.GrainLogic.logic c.args.opening.start.kinds in
    let start = starting version c.args.opening.start.tenants c.args.opening.start.age c.args.opening.start.ages in
    let now = log_view g.F.LogHost.begun g.F.LogHost.acts g.F.LogHost.past g.F.LogHost.failed c.args.files.now in
    let log = option_map (λ (bytes : Vec ℕ Global). bytes.items) c.args.found.log in
    let point = ap (option_map (λ (bytes : Vec ℕ Global). bytes.items)) c.in-None.is in
    IfOk-weaker c.new_ready.result _ _ (λ r is old f. opens_new start c.args.opening.sends old now log (subst (λ (p : Option (List ℕ)). HasFound old now log p) point f) (started version r.silo.history.setup)
    (ap (λ (s : Setup). started version s) is)) c.new_ready.ensures.setup

pub returns-in-Some-clause-ready : goal.returns-in-Some-clause-ready
returns-in-Some-clause-ready g c =
    let now = log_view g.F.LogHost.begun g.F.LogHost.acts g.F.LogHost.past g.F.LogHost.failed c.args.files.now in
    let log = option_map (λ (bytes : Vec ℕ Global). bytes.items) c.args.found.log in
    let point = ap (option_map (λ (bytes : Vec ℕ Global). bytes.items)) c.in-Some.is ∙ ap Some (sym c.as_slice-in-Some.ensures.value) in
    IfOk-weaker c.saved_ready.result _ _ (λ r so old f. so old (subst (λ (p : Option (List ℕ)). HasFound old now log p) point f)) c.saved_ready.ensures.ready

pub returns-in-Some-clause-opens : goal.returns-in-Some-clause-opens
returns-in-Some-clause-opens g c =
    let now = log_view g.F.LogHost.begun g.F.LogHost.acts g.F.LogHost.past g.F.LogHost.failed c.args.files.now in
    let log = option_map (λ (bytes : Vec ℕ Global). bytes.items) c.args.found.log in
    let point = ap (option_map (λ (bytes : Vec ℕ Global). bytes.items)) c.in-Some.is ∙ ap Some (sym c.as_slice-in-Some.ensures.value) in
    IfOk-weaker c.saved_ready.result _ _ (λ r so old f. so old (subst (λ (p : Option (List ℕ)). HasFound old now log p) point f)) c.saved_ready.ensures.opens
