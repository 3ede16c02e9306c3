use Rattle.std.proofs.Common.{◌≡◌, ◌+◌, ◌-◌, ◌++◌, ◌∙◌, List, ℕ, Some, [], ap, inl, length, refl, subst, sym, take, arith, true≢false}
use Rattle.log_text.specs.Head.{IsNumber, head_text}
use Rattle.log_text.specs.Lines.{whole_lines}
use Rattle.log_text.specs.Sums.{after}
use Rattle.log_host.specs.Files.{Cuts}
use Rattle.command_parts.specs.Setups.{started, version_of}
use Rattle.data_command.specs.Data.{log_view}
use Rattle.data_command.specs.Words.{head_words}
use Rattle.data_command.proofs.Starts.{cut_fresh, cut_kept, cut_lasts, headed, kept_few, kept_sized, not_again, on_err, on_ok, placed, started_again}
use Rattle.data_command.specs.inside.Starts.{again_fault}
use Rattle.data_command.proofs.starting.resume_log.Goals as goal

pub returns-then-is_log-clause-fault : goal.returns-then-is_log-clause-fault
returns-then-is_log-clause-fault g c =
    let form = c.is_log.ensures.0 c.if-is_log.true in (
      (λ e. ((e, refl), refl)),
      record {
        found = c.args.bytes.now;
        was = λ e. sym (c.requires.found e);
        rest = form.0;
        form = form.1;
        other = subst (λ (ws : List ℕ). (number bytes : List ℕ) → IsNumber number → ¬ (c.args.bytes.now ≡ head_text ws number ++ bytes)) (c.as_slice.ensures.value ∙ c.requires.words) (rw c.in_default.is at c.cut_head.ensures);
      },
    )

pub returns-in_default-clause-fault : goal.returns-in_default-clause-fault
returns-in_default-clause-fault g c = (
  (λ e. ((e, refl), refl)),
  inl (record { found = c.args.bytes.now; was = λ e. sym (c.requires.found e); other = λ rest is. true≢false (sym (c.is_log.ensures.1 (rest, is)) ∙ c.if-is_log.false) }, refl),
)

pub returns-in-Err-clause-fault : goal.returns-in-Err-clause-fault
returns-in-Err-clause-fault g c =
    let number = c.in-Some.number.now in
    let behind = c.in-Some.behind.now in
    let words = head_words (started (version_of g.L.GrainLogic.logic c.args.task.now.kinds) c.args.silo.now.history.setup) c.args.task.now.sends in
    let cuts = rw c.in-Some.is at c.cut_head.ensures in
    let text : c.args.bytes.now ≡ head_text words number ++ behind = cuts.1 ∙ ap (λ (ws : List ℕ). head_text ws number ++ behind) (c.as_slice.ensures.value ∙ c.requires.words) in
    let head = headed words number behind c.args.bytes.now _ text refl in
    let place = placed words number c.behind_head-place.result c.behind_head-place.ensures.name (c.behind_head-place.ensures.sum ∙ ap (λ (bs : List ℕ). after 0 bs) head) c.behind_head-place.ensures.told in
    let before = log_view g.F.LogHost.begun g.F.LogHost.acts g.F.LogHost.past g.F.LogHost.failed c.args.files.now in
    not_again (started (version_of g.L.GrainLogic.logic c.args.task.now.kinds) c.args.silo.now.history.setup) c.args.task.now.sends before number behind cuts.0 (λ e. c.requires.found e ∙ ap Some text) c.args.silo.now.history c.behind_head-place.result c.in-Err.why c.again_fault.result c.requires.opened place
    c.in-Err.ensures.stops (c.again_fault.ensures ∙ ap (λ (bs : List ℕ). again_fault (length (whole_lines bs)) c.in-Err.why) head)

pub returns-then-is_err-clause-lasts : goal.returns-then-is_err-clause-lasts
returns-then-is_err-clause-lasts g c =
    let number = c.in-Some.number.now in
    let behind = c.in-Some.behind.now in
    let words = head_words (started (version_of g.L.GrainLogic.logic c.args.task.now.kinds) c.args.silo.now.history.setup) c.args.task.now.sends in
    let cuts = rw c.in-Some.is at c.cut_head.ensures in
    let text : c.args.bytes.now ≡ head_text words number ++ behind = cuts.1 ∙ ap (λ (ws : List ℕ). head_text ws number ++ behind) (c.as_slice.ensures.value ∙ c.requires.words) in
    let head = headed words number behind c.args.bytes.now _ text refl in
    let place = placed words number c.behind_head-place.result c.behind_head-place.ensures.name (c.behind_head-place.ensures.sum ∙ ap (λ (bs : List ℕ). after 0 bs) head) c.behind_head-place.ensures.told in
    let start = started (version_of g.L.GrainLogic.logic c.args.task.now.kinds) c.args.silo.now.history.setup in
    let before = log_view g.F.LogHost.begun g.F.LogHost.acts g.F.LogHost.past g.F.LogHost.failed c.args.files.now in
    let there : before.acts ≡ Some [] → before.begun ≡ Some (head_text words number ++ behind) = λ e. c.requires.found e ∙ ap Some text in
    let long = kept_sized start c.args.task.now.sends before number behind cuts.0 there _ c.in-Ok.again c.behind_head-place.result head place c.in-Ok.ensures.kept in
    cut_lasts start c.args.task.now.sends before number behind cuts.0 there (log_view g.F.LogHost.begun g.F.LogHost.acts g.F.LogHost.past g.F.LogHost.failed c.cut_end.new.files) _ long c.cut_end.ensures.past
    (on_err c.cut_end.result _ (sym c.is_err.ensures.value ∙ c.if-is_err.true) c.cut_end.ensures.err)

pub digits_of-requires : goal.digits_of-requires
digits_of-requires g c = (rw c.in-Some.is at c.cut_head.ensures).0.0

pub returns-clause-started : goal.returns-clause-started
returns-clause-started g c =
    let number = c.in-Some.number.now in
    let behind = c.in-Some.behind.now in
    let words = head_words (started (version_of g.L.GrainLogic.logic c.args.task.now.kinds) c.args.silo.now.history.setup) c.args.task.now.sends in
    let cuts = rw c.in-Some.is at c.cut_head.ensures in
    let text : c.args.bytes.now ≡ head_text words number ++ behind = cuts.1 ∙ ap (λ (ws : List ℕ). head_text ws number ++ behind) (c.as_slice.ensures.value ∙ c.requires.words) in
    let head = headed words number behind c.args.bytes.now _ text refl in
    let place = placed words number c.behind_head-place.result c.behind_head-place.ensures.name (c.behind_head-place.ensures.sum ∙ ap (λ (bs : List ℕ). after 0 bs) head) c.behind_head-place.ensures.told in
    let before = log_view g.F.LogHost.begun g.F.LogHost.acts g.F.LogHost.past g.F.LogHost.failed c.args.files.now in
    let start = started (version_of g.L.GrainLogic.logic c.args.task.now.kinds) c.args.silo.now.history.setup in
    let sends = c.args.task.now.sends in
    let there : before.acts ≡ Some [] → before.begun ≡ Some (head_text words number ++ behind) = λ e. c.requires.found e ∙ ap Some text in
    let long = kept_sized start sends before number behind cuts.0 there _ c.in-Ok.again c.behind_head-place.result head place c.in-Ok.ensures.kept in
    let after_it = log_view g.F.LogHost.begun g.F.LogHost.acts g.F.LogHost.past g.F.LogHost.failed c.cut_end.new.files in
    let cut : before.begun ≡ Some (head_text words number ++ behind) → Cuts before.acts before.begun after_it.acts after_it.begun (length (take (length c.args.bytes.now - length behind) c.args.bytes.now) + c.in-Ok.again.length) =
    λ is. on_ok c.cut_end.result _ (sym c.is_err.ensures.value ∙ c.if-is_err.false) (c.cut_end.ensures.ok (is ∙ ap Some (sym text))) in
    started_again start sends before number behind cuts.0 there c.args.silo.now.keeps after_it c.args.silo.now.history c.answer_again.new.silo.history c.in-Ok.again c.behind_head-place.result _ refl c.requires.opened place
    refl c.digits_of.ensures (λ no. grind (arith, no)) c.in-Ok.ensures.answered
    (cut_fresh start sends before number behind cuts.0 there after_it _ cut)
    (cut_kept start sends before number behind cuts.0 there after_it _ long cut) c.cut_end.ensures.past

pub overflow_add-head : goal.overflow_add-head
overflow_add-head g c =
    let number = c.in-Some.number.now in
    let behind = c.in-Some.behind.now in
    let words = head_words (started (version_of g.L.GrainLogic.logic c.args.task.now.kinds) c.args.silo.now.history.setup) c.args.task.now.sends in
    let cuts = rw c.in-Some.is at c.cut_head.ensures in
    let text : c.args.bytes.now ≡ head_text words number ++ behind = cuts.1 ∙ ap (λ (ws : List ℕ). head_text ws number ++ behind) (c.as_slice.ensures.value ∙ c.requires.words) in
    let head = headed words number behind c.args.bytes.now _ text refl in
    let place = placed words number c.behind_head-place.result c.behind_head-place.ensures.name (c.behind_head-place.ensures.sum ∙ ap (λ (bs : List ℕ). after 0 bs) head) c.behind_head-place.ensures.told in
    omega (arith, kept_few words number behind c.args.bytes.now _ c.behind_head-place.result c.in-Ok.again.length text head place c.in-Ok.ensures.kept)
