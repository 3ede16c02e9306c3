use Rattle.std.proofs.Common.{◌∙◌, Ok, ap, refl, subst, sym, ℕ}
use Rattle.std.specs.Prelude.{Vec, option_map}
use Rattle.std.specs.declared.alloc.Global.{Global}
use Rattle.silo_model.specs.Opening.{Setup}
use Rattle.log_text.specs.Sums.{spelled}
use Rattle.silo_checkpoint.specs.Answers.{saved_in}
use Rattle.command_parts.specs.Setups.{started, starting, version_of}
use Rattle.data_command.specs.Data.{log_view}
use Rattle.data_command.specs.Words.{head_words}
use Rattle.data_command.specs.inside.Rewording.{FailsToBegin, HasSwitched, MayChange, MayNotChange}
use Rattle.data_command.proofs.LeftOut.{nobody_left}
use Rattle.data_command.proofs.Rewordings.{begin_fails, begin_lasts, goes_too_far, may_not, log_then, opens_other}
use Rattle.data_command.proofs.reworded.reworded_ready.Goals as goal

pub returns-in-Err-clause-fault : goal.returns-in-Err-clause-fault
returns-in-Err-clause-fault g c old h =
    let start = starting (version_of g.L.GrainLogic.logic c.args.start.kinds) c.args.start.tenants c.args.start.age c.args.start.ages in
    let sends = c.args.task.sends in
    let view = log_view g.F.LogHost.begun g.F.LogHost.acts g.F.LogHost.past g.F.LogHost.failed in
    let log = option_map (λ (bytes : Vec ℕ Global). bytes.items) c.args.task.log in
    let saved = saved_in c.args.saved in
    may_not start sends old (view c.args.files.now) c.args.task.number log saved h c.args.saved.kept c.args.saved.rows.items refl refl c.in-Err.why
    (subst (λ (k : ℕ). MayNotChange c.args.start.tenants k c.args.task.number log c.args.saved.kept c.args.saved.rows.items saved c.in-Err.why) c.requires.kinds c.in-Err.ensures.fault)

pub returns-in-Ok-None-clause-fault : goal.returns-in-Ok-None-clause-fault
returns-in-Ok-None-clause-fault g c old h =
    let start = starting (version_of g.L.GrainLogic.logic c.args.start.kinds) c.args.start.tenants c.args.start.age c.args.start.ages in
    let sends = c.args.task.sends in
    let view = log_view g.F.LogHost.begun g.F.LogHost.acts g.F.LogHost.past g.F.LogHost.failed in
    let log = option_map (λ (bytes : Vec ℕ Global). bytes.items) c.args.task.log in
    let saved = saved_in c.args.saved in
    goes_too_far start sends old (view c.args.files.now) c.args.task.number log saved h c.args.saved.kept refl (c.in-Ok-None.ensures.none (ap Ok c.in-Ok-None.field-0-is))

pub returns-in-Err-begin_words-clause-fault : goal.returns-in-Err-begin_words-clause-fault
returns-in-Err-begin_words-clause-fault g c old h =
    let start = starting (version_of g.L.GrainLogic.logic c.args.start.kinds) c.args.start.tenants c.args.start.age c.args.start.ages in
    let sends = c.args.task.sends in
    let view = log_view g.F.LogHost.begun g.F.LogHost.acts g.F.LogHost.past g.F.LogHost.failed in
    let log = option_map (λ (bytes : Vec ℕ Global). bytes.items) c.args.task.log in
    let saved = saved_in c.args.saved in
    let may = subst (λ (k : ℕ). MayChange k c.args.task.number log saved) c.requires.kinds c.in-Ok.ensures.ok.0 in
    let silo = c.in-Ok-Some.silo in
    let setup = rw c.in-Ok-Some.field-0-is at c.in-Ok-Some.ensures.setup in
    begin_fails view c.args.files.now c.begin_words.new.files start sends old c.args.task.number log saved h may silo.history.setup setup c.args.task.words.items c.requires.words c.in-Err-begin_words.why
    (subst (λ (k : ℕ). FailsToBegin view (version_of g.L.GrainLogic.logic k) sends (spelled c.args.task.number) silo.history.setup c.args.task.words.items c.args.files.now c.begin_words.new.files c.in-Err-begin_words.why) c.requires.kinds c.in-Err-begin_words.ensures.fault)

pub returns-in-Err-begin_words-clause-lasts : goal.returns-in-Err-begin_words-clause-lasts
returns-in-Err-begin_words-clause-lasts g c old h =
    let start = starting (version_of g.L.GrainLogic.logic c.args.start.kinds) c.args.start.tenants c.args.start.age c.args.start.ages in
    let sends = c.args.task.sends in
    let view = log_view g.F.LogHost.begun g.F.LogHost.acts g.F.LogHost.past g.F.LogHost.failed in
    let log = option_map (λ (bytes : Vec ℕ Global). bytes.items) c.args.task.log in
    let saved = saved_in c.args.saved in
    let may = subst (λ (k : ℕ). MayChange k c.args.task.number log saved) c.requires.kinds c.in-Ok.ensures.ok.0 in
    let silo = c.in-Ok-Some.silo in
    let setup = rw c.in-Ok-Some.field-0-is at c.in-Ok-Some.ensures.setup in
    let nobody = nobody_left c.args.start.tenants saved.setup c.args.saved.kept c.args.saved.rows.items refl refl c.in-Ok.ensures.ok.1 in
    begin_lasts view c.args.files.now c.begin_words.new.files start sends old c.args.task.number log saved h may silo.history.setup setup c.args.task.words.items c.requires.words nobody c.in-Err-begin_words.why
    (subst (λ (k : ℕ). FailsToBegin view (version_of g.L.GrainLogic.logic k) sends (spelled c.args.task.number) silo.history.setup c.args.task.words.items c.args.files.now c.begin_words.new.files c.in-Err-begin_words.why) c.requires.kinds c.in-Err-begin_words.ensures.fault)

pub returns-in-Ok-begin_words-clause-ready : goal.returns-in-Ok-begin_words-clause-ready
returns-in-Ok-begin_words-clause-ready g c old h =
    let version = version_of g.L.GrainLogic.logic c.args.start.kinds in
    let sends = c.args.task.sends in
    let view = log_view g.F.LogHost.begun g.F.LogHost.acts g.F.LogHost.past g.F.LogHost.failed in
    let setup = rw c.in-Ok-Some.field-0-is at c.in-Ok-Some.ensures.setup in
    record {
      runs = rw c.in-Ok-Some.field-0-is at c.in-Ok-Some.ensures.ready;
      drops = rw c.in-Ok-Some.field-0-is at c.in-Ok-Some.ensures.drops;
      opens = rw c.in-Ok-Some.field-0-is at c.in-Ok-Some.ensures.opened;
      words = c.requires.words ∙ ap (λ (s : Setup). head_words (started version s) sends) (sym setup);
      kinds = c.requires.kinds;
      sends_are = refl;
      found = log_then (view c.args.files.now) (view c.begin_words.new.files) c.in-Ok-begin_words.ensures.begun.text c.in-Ok-begin_words.head.items c.in-Ok-begin_words.ensures.unknown c.in-Ok-begin_words.ensures.begun.done;
    }

pub returns-in-Ok-begin_words-clause-opens : goal.returns-in-Ok-begin_words-clause-opens
returns-in-Ok-begin_words-clause-opens g c old h =
    let start = starting (version_of g.L.GrainLogic.logic c.args.start.kinds) c.args.start.tenants c.args.start.age c.args.start.ages in
    let sends = c.args.task.sends in
    let view = log_view g.F.LogHost.begun g.F.LogHost.acts g.F.LogHost.past g.F.LogHost.failed in
    let log = option_map (λ (bytes : Vec ℕ Global). bytes.items) c.args.task.log in
    let saved = saved_in c.args.saved in
    let may = subst (λ (k : ℕ). MayChange k c.args.task.number log saved) c.requires.kinds c.in-Ok.ensures.ok.0 in
    let silo = c.in-Ok-Some.silo in
    let setup = rw c.in-Ok-Some.field-0-is at c.in-Ok-Some.ensures.setup in
    let nobody = nobody_left c.args.start.tenants saved.setup c.args.saved.kept c.args.saved.rows.items refl refl c.in-Ok.ensures.ok.1 in
    let switched = subst (λ (k : ℕ). HasSwitched view (version_of g.L.GrainLogic.logic k) sends (spelled c.args.task.number) silo.history.setup c.args.task.words.items c.args.files.now c.begin_words.new.files c.in-Ok-begin_words.head.items) c.requires.kinds c.in-Ok-begin_words.ensures.begun in
    opens_other start sends old (view c.args.files.now) c.args.task.number log saved h may silo.history.setup setup nobody c.args.task.words.items switched.text c.in-Ok-begin_words.head.items c.requires.words switched.are (view c.begin_words.new.files) switched.done
