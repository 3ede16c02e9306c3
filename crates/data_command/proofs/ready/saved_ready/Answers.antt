use Rattle.std.proofs.Common.{List, Ok, Some, ap, subst, refl, sym, ◌∙◌, ℕ}
use Rattle.std.proofs.lemmas.Result.{IfErr-weaker}
use Rattle.std.specs.Prelude.{Vec, option_map}
use Rattle.std.specs.declared.alloc.Global.{Global}
use Rattle.silo_model.specs.Opening.{Setup}
use Rattle.log_host.specs.Files.{Begins, MayBegin}
use Rattle.log_text.specs.Head.{head_text}
use Rattle.log_text.specs.Sums.{spelled}
use Rattle.silo_checkpoint.specs.Answers.{saved_in}
use Rattle.command_parts.specs.Setups.{started, starting, version_of}
use Rattle.data_command.specs.Data.{LogView, log_view, since}
use Rattle.data_command.specs.Folder.{FolderLasts, OpensAt}
use Rattle.data_command.specs.declared.starting.LogTask.{LogTask}
use Rattle.data_command.specs.inside.Ready.{CantGoOn, HasFound, HasNumber, IsReady, SaysWords}
use Rattle.data_command.proofs.Beginnings.{cant_go_on, goes_on, if_ok_is, lasts_old, on_err_so, opens_old, opens_own, point_fails, resume_fails}
use Rattle.data_command.proofs.Rewordings.{ok_other}
use Rattle.data_command.proofs.ready.saved_ready.Goals as goal

-- ---- the checkpoint isn't read, or no log goes on from it

pub returns-in-Err-clause-fault : goal.returns-in-Err-clause-fault
returns-in-Err-clause-fault g c old f =
    let start = starting (version_of g.L.GrainLogic.logic c.args.start.kinds) c.args.start.tenants c.args.start.age c.args.start.ages in
    let now = log_view g.F.LogHost.begun g.F.LogHost.acts g.F.LogHost.past g.F.LogHost.failed c.args.files.now in
    let log = option_map (λ (bytes : Vec ℕ Global). bytes.items) c.args.task.log in
    point_fails start c.args.task.sends old now log c.args.point.now f c.in-Err.why c.in-Err.ensures.fault

pub returns-in-Err-going_of-clause-fault : goal.returns-in-Err-going_of-clause-fault
returns-in-Err-going_of-clause-fault g c old f =
    let start = starting (version_of g.L.GrainLogic.logic c.args.start.kinds) c.args.start.tenants c.args.start.age c.args.start.ages in
    let now = log_view g.F.LogHost.begun g.F.LogHost.acts g.F.LogHost.past g.F.LogHost.failed c.args.files.now in
    let log = option_map (λ (bytes : Vec ℕ Global). bytes.items) c.args.task.log in
    let saved = saved_in c.in-Ok.saved in
    cant_go_on start c.args.task.sends old now log c.args.point.now f saved c.in-Ok.ensures.says c.args.task.words.items c.requires.words c.in-Err-going_of.why
    (subst (λ (n : ℕ). CantGoOn c.args.task.words.items (spelled n) saved.follows log c.in-Err-going_of.why) c.requires.number c.in-Err-going_of.ensures.fault)

-- ---- it has other words

pub returns-in-Ok-Reworded-clause-ready : goal.returns-in-Ok-Reworded-clause-ready
returns-in-Ok-Reworded-clause-ready g c =
    let version = version_of g.L.GrainLogic.logic c.args.start.kinds in
    let start = starting version c.args.start.tenants c.args.start.age c.args.start.ages in
    let sends = c.args.task.sends in
    let view = log_view g.F.LogHost.begun g.F.LogHost.acts g.F.LogHost.past g.F.LogHost.failed in
    let now = view c.args.files.now in
    let log = option_map (λ (bytes : Vec ℕ Global). bytes.items) c.args.task.log in
    let saved = saved_in c.in-Ok.saved in
    let other = subst (λ (k : ℕ). SaysWords saved k sends c.args.task.words.items → ⊥) c.requires.kinds (c.in-Ok-Reworded.ensures.other (ap Ok c.in-Ok-Reworded.field-0-is)) in
    ok_other start sends now c.args.task.number log saved c.args.point.now c.in-Ok.ensures.says c.requires.number c.args.task.words.items c.requires.words other c.reworded_ready.result
    (λ r old. IsReady version sends (view c.reworded_ready.new.files) r.silo.history r.silo.stopped r.silo.keeps r.task) c.reworded_ready.ensures.ready

pub returns-in-Ok-Reworded-clause-opens : goal.returns-in-Ok-Reworded-clause-opens
returns-in-Ok-Reworded-clause-opens g c =
    let version = version_of g.L.GrainLogic.logic c.args.start.kinds in
    let start = starting version c.args.start.tenants c.args.start.age c.args.start.ages in
    let sends = c.args.task.sends in
    let view = log_view g.F.LogHost.begun g.F.LogHost.acts g.F.LogHost.past g.F.LogHost.failed in
    let now = view c.args.files.now in
    let log = option_map (λ (bytes : Vec ℕ Global). bytes.items) c.args.task.log in
    let saved = saved_in c.in-Ok.saved in
    let other = subst (λ (k : ℕ). SaysWords saved k sends c.args.task.words.items → ⊥) c.requires.kinds (c.in-Ok-Reworded.ensures.other (ap Ok c.in-Ok-Reworded.field-0-is)) in
    ok_other start sends now c.args.task.number log saved c.args.point.now c.in-Ok.ensures.says c.requires.number c.args.task.words.items c.requires.words other c.reworded_ready.result
    (λ r old. OpensAt start sends old (view c.reworded_ready.new.files) (started version r.silo.history.setup)) c.reworded_ready.ensures.opens

-- ---- the log goes on from it

pub returns-in-Ok-On-clause-opens : goal.returns-in-Ok-On-clause-opens
returns-in-Ok-On-clause-opens g c =
    let version = version_of g.L.GrainLogic.logic c.args.start.kinds in
    let start = starting version c.args.start.tenants c.args.start.age c.args.start.ages in
    let sends = c.args.task.sends in
    let view = log_view g.F.LogHost.begun g.F.LogHost.acts g.F.LogHost.past g.F.LogHost.failed in
    let now = view c.args.files.now in
    let log = option_map (λ (bytes : Vec ℕ Global). bytes.items) c.args.task.log in
    let saved = saved_in c.in-Ok.saved in
    let on = c.in-Ok-On.ensures.on (ap Ok c.in-Ok-On.field-0-is) in
    let same = subst (λ (k : ℕ). SaysWords saved k sends c.args.task.words.items) c.requires.kinds on.0 in
    if_ok_is c.resumed_ready.result (λ r. (old : LogView) → HasFound old now log (Some c.args.point.now) → OpensAt start sends old now (started version r.silo.history.setup)) (λ r is old f.
    subst (λ (s : Setup). OpensAt start sends old now (started version s)) (sym (rw is at c.resumed_ready.ensures.setup))
    (opens_own start sends old now log c.args.point.now f saved c.in-Ok.ensures.says c.args.task.words.items c.requires.words same on.1.0 on.1.1
    (subst (λ (n : ℕ). HasNumber c.args.task.words.items (spelled n) on.1.0) c.requires.number on.1.2)))

pub returns-in-Ok-On-clause-fault : goal.returns-in-Ok-On-clause-fault
returns-in-Ok-On-clause-fault g c =
    let start = starting (version_of g.L.GrainLogic.logic c.args.start.kinds) c.args.start.tenants c.args.start.age c.args.start.ages in
    let now = log_view g.F.LogHost.begun g.F.LogHost.acts g.F.LogHost.past g.F.LogHost.failed c.args.files.now in
    let log = option_map (λ (bytes : Vec ℕ Global). bytes.items) c.args.task.log in
    IfErr-weaker c.resumed_ready.result _ _ (λ why fails old f.
    resume_fails start c.args.task.sends old now log c.args.point.now f (saved_in c.in-Ok.saved) c.in-Ok.ensures.says c.in-Ok.saved.kept refl why fails) c.resumed_ready.ensures.fault

-- ---- a log is begun in the place of the one whose place it takes

pub returns-in-Err-resumed_ready-clause-fault : goal.returns-in-Err-resumed_ready-clause-fault
returns-in-Err-resumed_ready-clause-fault g c old f =
    let start = starting (version_of g.L.GrainLogic.logic c.args.start.kinds) c.args.start.tenants c.args.start.age c.args.start.ages in
    let now = log_view g.F.LogHost.begun g.F.LogHost.acts g.F.LogHost.past g.F.LogHost.failed c.args.files.now in
    let log = option_map (λ (bytes : Vec ℕ Global). bytes.items) c.args.task.log in
    resume_fails start c.args.task.sends old now log c.args.point.now f (saved_in c.in-Ok.saved) c.in-Ok.ensures.says c.in-Ok.saved.kept refl
    c.in-Err-resumed_ready.why c.in-Err-resumed_ready.ensures.fault

pub returns-in-Ok-resumed_ready-clause-ready : goal.returns-in-Ok-resumed_ready-clause-ready
returns-in-Ok-resumed_ready-clause-ready g c =
    let version = version_of g.L.GrainLogic.logic c.args.start.kinds in
    let start = starting version c.args.start.tenants c.args.start.age c.args.start.ages in
    let sends = c.args.task.sends in
    let view = log_view g.F.LogHost.begun g.F.LogHost.acts g.F.LogHost.past g.F.LogHost.failed in
    let now = view c.args.files.now in
    let log = option_map (λ (bytes : Vec ℕ Global). bytes.items) c.args.task.log in
    let new = view c.begun_anew.new.files in
    let saved = saved_in c.in-Ok.saved in
    let anew = c.in-Ok-Anew.ensures.anew (ap Ok c.in-Ok-Anew.field-0-is) in
    let same = subst (λ (k : ℕ). SaysWords saved k sends c.args.task.words.items) c.requires.kinds anew.0 in
    let given = c.in-Ok-resumed_ready.ensures.task in
    if_ok_is c.begun_anew.result (λ r. (old : LogView) → HasFound old now log (Some c.args.point.now) → IsReady version sends new r.silo.history r.silo.stopped r.silo.keeps r.task) (λ r is old f.
    let silo = rw is at c.begun_anew.ensures.silo in
    let task = rw is at c.begun_anew.ensures.task in
    let begun = rw is at c.begun_anew.ensures.begun in
    let words = ap (λ (v : Vec ℕ Global). v.items) task.0 ∙ ap (λ (t : LogTask). t.words.items) given in
    goes_on start sends old now log new saved r.task (words ∙ c.requires.words) (task.1 ∙ ap (λ (t : LogTask). t.kinds) given ∙ c.requires.kinds)
    (task.2 ∙ ap (λ (t : LogTask). t.sends) given) (subst (λ (ws : List ℕ). SaysWords saved version.number sends ws) (sym words) same) r.silo.history r.silo.stopped r.silo.keeps
    (rw (sym silo) at c.in-Ok-resumed_ready.ensures.setup) (rw (sym silo) at c.in-Ok-resumed_ready.ensures.opened)
    (rw (sym silo) at c.in-Ok-resumed_ready.ensures.ready) (rw (sym silo) at c.in-Ok-resumed_ready.ensures.drops)
    (λ known. (begun (sym c.begun_anew.ensures.acts ∙ known)).1 ∙ sym task.3))

pub returns-in-Ok-resumed_ready-clause-opens : goal.returns-in-Ok-resumed_ready-clause-opens
returns-in-Ok-resumed_ready-clause-opens g c =
    let version = version_of g.L.GrainLogic.logic c.args.start.kinds in
    let start = starting version c.args.start.tenants c.args.start.age c.args.start.ages in
    let sends = c.args.task.sends in
    let view = log_view g.F.LogHost.begun g.F.LogHost.acts g.F.LogHost.past g.F.LogHost.failed in
    let now = view c.args.files.now in
    let log = option_map (λ (bytes : Vec ℕ Global). bytes.items) c.args.task.log in
    let new = view c.begun_anew.new.files in
    let saved = saved_in c.in-Ok.saved in
    let anew = c.in-Ok-Anew.ensures.anew (ap Ok c.in-Ok-Anew.field-0-is) in
    let same = subst (λ (k : ℕ). SaysWords saved k sends c.args.task.words.items) c.requires.kinds anew.0 in
    let given = c.in-Ok-resumed_ready.ensures.task in
    if_ok_is c.begun_anew.result (λ r. (old : LogView) → HasFound old now log (Some c.args.point.now) → OpensAt start sends old new (started version r.silo.history.setup)) (λ r is old f.
    let silo = rw is at c.begun_anew.ensures.silo in
    let begun = subst (λ (n : ℕ). Begins now.acts new.acts new.begun (head_text c.args.task.words.items (spelled n))) c.requires.number
    (subst (λ (t : LogTask). Begins now.acts new.acts new.begun (head_text t.words.items (spelled t.number))) given (rw is at c.begun_anew.ensures.begun)) in
    subst (λ (s : Setup). OpensAt start sends old new (started version s)) (sym (rw (sym silo) at c.in-Ok-resumed_ready.ensures.setup))
    (opens_old start sends old now log c.args.point.now f saved c.in-Ok.ensures.says c.args.task.words.items c.requires.words same anew.1.1.0 anew.1.1.1 anew.1.0 anew.1.1.2 new begun
    c.begun_anew.ensures.past))

pub returns-in-Ok-resumed_ready-clause-lasts : goal.returns-in-Ok-resumed_ready-clause-lasts
returns-in-Ok-resumed_ready-clause-lasts g c =
    let version = version_of g.L.GrainLogic.logic c.args.start.kinds in
    let start = starting version c.args.start.tenants c.args.start.age c.args.start.ages in
    let sends = c.args.task.sends in
    let view = log_view g.F.LogHost.begun g.F.LogHost.acts g.F.LogHost.past g.F.LogHost.failed in
    let now = view c.args.files.now in
    let log = option_map (λ (bytes : Vec ℕ Global). bytes.items) c.args.task.log in
    let new = view c.begun_anew.new.files in
    let saved = saved_in c.in-Ok.saved in
    let anew = c.in-Ok-Anew.ensures.anew (ap Ok c.in-Ok-Anew.field-0-is) in
    let same = subst (λ (k : ℕ). SaysWords saved k sends c.args.task.words.items) c.requires.kinds anew.0 in
    let given = c.in-Ok-resumed_ready.ensures.task in
    on_err_so c.begun_anew.result (MayBegin now.acts now.begun new.acts new.begun (head_text c.in-Ok-resumed_ready.ready.task.words.items (spelled c.in-Ok-resumed_ready.ready.task.number)))
    ((old : LogView) → HasFound old now log (Some c.args.point.now) → FolderLasts start sends (since old new)) (λ may old f.
    lasts_old start sends old now log c.args.point.now f saved c.in-Ok.ensures.says c.args.task.words.items c.requires.words same anew.1.1.0 anew.1.1.1 anew.1.0 anew.1.1.2 new
    (subst (λ (n : ℕ). MayBegin now.acts now.begun new.acts new.begun (head_text c.args.task.words.items (spelled n))) c.requires.number
    (subst (λ (t : LogTask). MayBegin now.acts now.begun new.acts new.begun (head_text t.words.items (spelled t.number))) given may)) c.begun_anew.ensures.past) c.begun_anew.ensures.err
