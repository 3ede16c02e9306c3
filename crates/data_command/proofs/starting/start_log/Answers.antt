use Rattle.std.proofs.Common.{◌∙◌, List, ℕ, ap, refl, subst, sym}
use Rattle.std.specs.Prelude.{Vec, option_map}
use Rattle.std.specs.declared.alloc.Global.{Global}
use Rattle.log_host.specs.Files.{Begins, MayBegin}
use Rattle.log_text.specs.Head.{head_text}
use Rattle.log_text.specs.Sums.{spelled}
use Rattle.command_parts.specs.Setups.{started, version_of}
use Rattle.data_command.specs.Data.{log_view, place_of}
use Rattle.data_command.proofs.Starts.{begun_lasts, begun_started}
use Rattle.data_command.proofs.starting.start_log.Goals as goal

pub returns-in-Ok-clause-started : goal.returns-in-Ok-clause-started
returns-in-Ok-clause-started g c =
    let words = c.as_slice-2.ensures.value ∙ c.requires.words in
    let n = c.args.task.now.number in
    begun_started (started (version_of g.L.GrainLogic.logic c.args.task.now.kinds) c.args.silo.now.history.setup) c.args.task.now.sends
    (log_view g.F.LogHost.begun g.F.LogHost.acts g.F.LogHost.past g.F.LogHost.failed c.args.files.now) (log_view g.F.LogHost.begun g.F.LogHost.acts g.F.LogHost.past g.F.LogHost.failed c.begin_log.new.files) n
    (λ e. c.requires.found e ∙ ap (option_map (λ (bytes : Vec ℕ Global). bytes.items)) (sym c.take.ensures.value ∙ c.in_default.is)) c.begin_log.ensures.past c.args.silo.now.keeps c.args.silo.now.history _ refl c.requires.opened (c.journal.ensures.idle c.requires.ready)
    (c.in-Ok.ensures.place ∙ ap (λ (ws : List ℕ). place_of ws (spelled n)) words) c.spell.ensures
    (subst (λ (ws : List ℕ). Begins (g.F.LogHost.acts c.args.files.now) (g.F.LogHost.acts c.begin_log.new.files) (g.F.LogHost.begun c.begin_log.new.files) (head_text ws (spelled n))) words c.in-Ok.ensures.begun)

pub returns-in-Err-clause-lasts : goal.returns-in-Err-clause-lasts
returns-in-Err-clause-lasts g c =
    let words = c.as_slice-2.ensures.value ∙ c.requires.words in
    let n = c.args.task.now.number in
    begun_lasts (started (version_of g.L.GrainLogic.logic c.args.task.now.kinds) c.args.silo.now.history.setup) c.args.task.now.sends
    (log_view g.F.LogHost.begun g.F.LogHost.acts g.F.LogHost.past g.F.LogHost.failed c.args.files.now) (log_view g.F.LogHost.begun g.F.LogHost.acts g.F.LogHost.past g.F.LogHost.failed c.begin_log.new.files) n
    (λ e. c.requires.found e ∙ ap (option_map (λ (bytes : Vec ℕ Global). bytes.items)) (sym c.take.ensures.value ∙ c.in_default.is)) c.begin_log.ensures.past
    (subst (λ (ws : List ℕ). MayBegin (g.F.LogHost.acts c.args.files.now) (g.F.LogHost.begun c.args.files.now) (g.F.LogHost.acts c.begin_log.new.files) (g.F.LogHost.begun c.begin_log.new.files) (head_text ws (spelled n))) words c.in-Err.ensures.err)
