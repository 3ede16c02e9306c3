-- A silo at work is at work still, whatever a step was answered.
use Rattle.std.proofs.Common.{◌≡◌, ℕ, ◌+◌, ◌-◌, ◌≤◌, true, false, Bool, List, [], ◌++◌, length, drop, take, Option, Some, None, refl, ap, sym, ◌∙◌, subst, arith, true≢false}
use Rattle.std.specs.Prelude.{◌==◌, not, Result, Ok, Err, IfOk, OnErr}
use Rattle.std.proofs.Math.Seq.{take-length}
use Rattle.std.proofs.lemmas.List.{length-append}
use Rattle.indexmap.specs.IndexMap.{IndexMap}
use Rattle.grain_id.specs.Names.{Client, Grain}
use Rattle.grain_logic.specs.Laws.{ReadersAskNothing}
use Rattle.grain_logic.specs.Logic.{Logic}
use Rattle.silo_event.specs.declared.opened_turn.OpenedTurn.{OpenedTurn}
use Rattle.silo_event.specs.Failed.{as_failed}
use Rattle.silo_event.specs.declared.reply.Reply.{Reply}
use Rattle.silo_event.specs.declared.step.Step.{Step}
use Rattle.silo_event.specs.declared.step.Step.TheVariants.{Begin, End}
use Rattle.silo_event.specs.declared.step.Answer.{Answer}
use Rattle.silo_event.specs.declared.step.Answer.TheVariants.{Done, Failed, NotNow}
use Rattle.silo_event.specs.declared.step.StepFault.{StepFault}
use Rattle.silo_event.specs.declared.step.StepFault.TheVariants.{Memory, Stranger}
use Rattle.silo_model.specs.Journal.{LeadsTo}
use Rattle.silo_model.specs.Opening.{Setup, nothing_kept, opening}
use Rattle.silo_model.specs.Pending.{has_pending}
use Rattle.silo_model.specs.Whole.{Whole, shown_to}
use Rattle.silo_model.proofs.Journals.{journals_begin, journals_grow}
use Rattle.lane_model.specs.Asking.{asker_of, ids_asked, ids_told}
use Rattle.lane_model.specs.Pacing.{is_paced}
use Rattle.lane_model.proofs.CountsOfAll.{pending_by_counts, told_within}
use Rattle.silo_state.specs.Moves.{done_if}
use Rattle.silo_core.specs.History.{Advances, Answered, History}
use Rattle.silo_core.specs.AtOnce.{Serves}
use Rattle.silo_core.specs.Turns.{AnsweredTurn}
use Rattle.silo_core.proofs.Steps.{done_parts}
use Rattle.lane_workers.specs.declared.owed.Owed.{Owed}
use Rattle.lane_workers.specs.Owing.{asks_once, is_told, owing_to}
use Rattle.worker_host.specs.inside.Working.{IsWorking, ServedOrAnswered, may_ask_in, was_done, was_taken, with_answer}
use Rattle.lane_workers.proofs.Owing.{owed_less, owed_on, owes_some, told_parts}
use Rattle.worker_host.proofs.Paced.{asker_failed, paced_answer}

-- ---- after a step

module _ {S : Type 0} (logic : Logic) (old new : History) (owing : IndexMap Client Owed S) (seen : ℕ) (had : IsWorking logic old owing seen) where
  -- where nothing changed
  pub working_same : (after : IndexMap Client Owed S) → new ≡ old → ((client : Client) → owing_to after client ≡ owing_to owing client) → IsWorking logic new after seen
  working_same after stays same =
      subst (λ (h : History). IsWorking logic h after seen) (sym stays)
      (record {
        leads = had.leads;
        paced = had.paced;
        new = had.new;
        within = had.within;
        owed = λ client. ap (λ n. n + length (ids_told client (take seen old.whole.replies))) (same client) ∙ had.owed client;
      })

  -- where it was done
  working_on : (s : Step) (n : ℕ) → Advances logic old s n new → is_paced logic new.setup new.journal ≡ true → (after : IndexMap Client Owed S)
      → ((client : Client) → owing_to after client ≡ owing_to owing client + asks_once (asker_of s) client) → IsWorking logic new after seen
  working_on s n step paced after asks =
      let parts = done_parts logic old.setup old.journal old.whole new.whole s had.leads step.whole in
      record {
        leads =
            subst (λ (setup : Setup). LeadsTo logic setup new.journal new.whole) (sym step.setup)
            (subst (λ (journal : List Step). LeadsTo logic old.setup journal new.whole) (sym step.journal) (journals_grow logic old.setup old.journal old.whole new.whole s had.leads step.whole));
        paced = paced;
        new = ap (λ (setup : Setup). setup.kept) step.setup ∙ had.new;
        within = within_more seen old.whole.replies parts.added new.whole.replies parts.replies had.within;
        owed = λ client.
            subst (λ (replies : List Reply). owing_to after client + length (ids_told client (take seen replies)) ≡ length (ids_asked client new.journal)) (sym parts.replies)
            (subst (λ (journal : List Step). owing_to after client + length (ids_told client (take seen (old.whole.replies ++ parts.added))) ≡ length (ids_asked client journal)) (sym step.journal)
            (owed_on client (owing_to owing client) (owing_to after client) seen old.whole.replies parts.added old.journal s had.within (had.owed client) (asks client)));
      }
    where
      within_more : (seen : ℕ) (replies added more : List Reply) → more ≡ replies ++ added → seen ≤ length replies → seen ≤ length more
      within_more seen replies added more is within = omega (arith, ap length is, length-append replies added, within)

  -- whatever it was answered, once what was asked by it is accounted for
  pub working_settled : (s : Step) → may_ask_in old.whole (asker_of s) ≡ true → (r : Result Answer StepFault) → Answered logic old s r new → (asked after : IndexMap Client Owed S)
      → ((client : Client) → owing_to asked client ≡ owing_to owing client + asks_once (asker_of s) client)
      → (was_done r ≡ true → (client : Client) → owing_to after client ≡ owing_to asked client)
      → (was_done r ≡ false → (client : Client) → owing_to after client ≡ owing_to asked client - asks_once (asker_of s) client) → IsWorking logic new after seen
  working_settled s may r h asked after asks done back = by r h done back (paced_answer logic old new had.paced had.leads s r may h)
    where
      taken_back : (new ≡ old) → ((client : Client) → owing_to after client ≡ owing_to asked client - asks_once (asker_of s) client) → IsWorking logic new after seen
      taken_back stays back = working_same after stays (λ client. omega (arith, asks client, back client))

      by : (r : Result Answer StepFault) → Answered logic old s r new → (was_done r ≡ true → (client : Client) → owing_to after client ≡ owing_to asked client)
          → (was_done r ≡ false → (client : Client) → owing_to after client ≡ owing_to asked client - asks_once (asker_of s) client) → is_paced logic new.setup new.journal ≡ true → IsWorking logic new after seen
      by (Ok Done) h done back paced = working_on s 0 h paced after (λ client. done refl client ∙ asks client)
      by (Ok Failed) h done back paced = working_on (as_failed s) 1 h.advances paced after (λ client. done refl client ∙ asks client ∙ ap (λ asker. owing_to owing client + asks_once asker client) (sym (asker_failed s)))
      by (Ok NotNow) h done back paced = taken_back h.unchanged (back refl)
      by (Err Memory) h done back paced = taken_back h (back refl)
      by (Err Stranger) h done back paced = absurd h

  -- where nobody asks by it
  working_unasked : (s : Step) → asker_of s ≡ None → (r : Result Answer StepFault) → Answered logic old s r new → IsWorking logic new owing seen
  working_unasked s none r h =
      working_settled s (ap (may_ask_in old.whole) none) r h owing owing (λ client. omega (arith, ap (λ asker. asks_once asker client) none)) (λ done client. refl)
      (λ not_done client. omega (arith, ap (λ asker. asks_once asker client) none))

  -- a turn was opened, or not
  pub working_begun : (grain : Grain) (r : Result (Option OpenedTurn) StepFault) → IfOk r (λ turn. Answered logic old (Begin grain) (Ok (done_if turn)) new) → OnErr r (new ≡ old) → IsWorking logic new owing seen
  working_begun grain (Ok turn) answered stays = working_unasked (Begin grain) refl (Ok (done_if turn)) answered
  working_begun grain (Err why) answered stays = working_same owing stays (λ client. refl)

  -- a turn was closed, or not
  pub working_closed : (s : Step) → asker_of s ≡ None → (input : OpenedTurn) (r : Result Answer StepFault) → AnsweredTurn logic old s input r new → IsWorking logic new owing seen
  working_closed s none input (Ok a) h = working_unasked s none (Ok a) h.0
  working_closed s none input (Err Memory) h = working_same owing h (λ client. refl)
  working_closed s none input (Err Stranger) h = working_same owing h.1 (λ client. refl)

-- a call was served: its own step was done, and then its turn's two, by which nobody asks
pub working_served : {S : Type 0} (logic : Logic) (old new : History) (owing after : IndexMap Client Owed S) (seen : ℕ) → IsWorking logic old owing seen
    → (s : Step) → may_ask_in old.whole (asker_of s) ≡ true → Serves logic old s new
    → ((client : Client) → owing_to after client ≡ owing_to owing client + asks_once (asker_of s) client) → IsWorking logic new after seen
working_served logic old new owing after seen had s may h asks =
    let called = working_on logic old h.called owing seen had s 0 h.calls (paced_answer logic old h.called had.paced had.leads s (Ok Done) may h.calls) after asks in
    let begun = working_unasked logic h.called h.begun after seen called (Begin h.grain) refl (Ok Done) h.begins in
    working_unasked logic h.begun new after seen begun (End h.grain h.turn) refl (Ok Done) h.ends

-- the step was served, or answered as any, and what was asked by it is accounted for
pub working_taken : {S : Type 0} (logic : Logic) (old new : History) (owing asked after : IndexMap Client Owed S) (seen : ℕ) → IsWorking logic old owing seen
    → (s : Step) → may_ask_in old.whole (asker_of s) ≡ true → (r : Result (Option Answer) StepFault) → ServedOrAnswered logic old s r new
    → ((client : Client) → owing_to asked client ≡ owing_to owing client + asks_once (asker_of s) client)
    → (was_taken r ≡ true → (client : Client) → owing_to after client ≡ owing_to asked client)
    → (was_taken r ≡ false → (client : Client) → owing_to after client ≡ owing_to asked client - asks_once (asker_of s) client) → IsWorking logic new after seen
working_taken logic old new owing asked after seen had s may (Ok None) h asks done back =
    working_served logic old new owing after seen had s may h (λ client. done refl client ∙ asks client)
working_taken logic old new owing asked after seen had s may (Ok (Some a)) h asks done back = working_settled logic old new owing seen had s may (Ok a) h asked after asks done back
working_taken logic old new owing asked after seen had s may (Err why) h asks done back = working_settled logic old new owing seen had s may (Err why) h asked after asks done back

-- it was answered as any
pub answered_so : (logic : Logic) (old new : History) (s : Step) (r : Result Answer StepFault) → Answered logic old s r new → ServedOrAnswered logic old s (with_answer r) new
answered_so logic old new s (Ok answer) h = h
answered_so logic old new s (Err why) h = h

-- ---- what a client is owed

module _ {S : Type 0} (logic : Logic) (law : ReadersAskNothing logic) (h : History) (owing : IndexMap Client Owed S) (seen : ℕ) (had : IsWorking logic h owing seen) where
  -- once all replies were looked at
  pub working_seen : (after : IndexMap Client Owed S) → ((client : Client) → owing_to after client ≡ owing_to owing client - length (ids_told client (drop seen h.whole.replies))) → IsWorking logic h after (length h.whole.replies)
  working_seen after less = record {
    leads = had.leads;
    paced = had.paced;
    new = had.new;
    within = omega arith;
    owed = λ client.
        ap (λ (replies : List Reply). owing_to after client + length (ids_told client replies)) (take-length h.whole.replies)
        ∙ owed_less (owing_to owing client) (owing_to after client) (length (ids_told client (take seen h.whole.replies))) (length (ids_told client (drop seen h.whole.replies))) (length (ids_told client h.whole.replies)) (length (ids_asked client h.journal))
        (had.owed client) (told_parts client seen h.whole.replies) (told_within logic law h.setup h.journal h.whole client had.leads) (less client);
  }

  -- a client is owed more than the new replies tell it exactly if something of it waits or is open
  pub is_owed : (client : Client) → not (owing_to owing client == length (ids_told client (drop seen h.whole.replies))) ≡ has_pending client (shown_to client.tenant h.whole)
  is_owed client =
      let counts = pending_by_counts logic law h.setup h.journal h.whole client had.leads in
      owes_some (has_pending client (shown_to client.tenant h.whole)) (owing_to owing client) (length (ids_told client (take seen h.whole.replies))) (length (ids_told client (drop seen h.whole.replies))) (length (ids_told client h.whole.replies))
      (length (ids_asked client h.journal)) (told_parts client seen h.whole.replies) (had.owed client) counts.0 counts.1

  not_not : (b : Bool) → not (not b) ≡ b
  not_not true = refl
  not_not false = refl

  -- a client may ask exactly if it is told as often as it is owed
  may_by_told : (asker : Option Client) → is_told owing (drop seen h.whole.replies) asker ≡ may_ask_in h.whole asker
  may_by_told None = refl
  may_by_told (Some client) = sym (not_not (owing_to owing client == length (ids_told client (drop seen h.whole.replies)))) ∙ ap not (is_owed client)

  -- told by the replies, as they stand there
  pub told_is : (now : History) → h ≡ now → (replies : List Reply) → replies ≡ h.whole.replies → (asker : Option Client) → is_told owing (drop seen replies) asker ≡ may_ask_in now.whole asker
  told_is now view replies at asker =
      ap (λ (rs : List Reply). is_told owing (drop seen rs) asker) at ∙ may_by_told asker ∙ ap (λ (h : History). may_ask_in h.whole asker) view

-- ---- where a silo opens

pub working_at_opening : {S : Type 0} (logic : Logic) (h : History) (owing : IndexMap Client Owed S) → h.whole ≡ opening h.setup → h.journal ≡ [] → h.setup.kept ≡ nothing_kept → ((client : Client) → owing_to owing client ≡ 0) → IsWorking logic h owing 0
unfolding opening
working_at_opening logic h owing opens none fresh nobody = record {
  leads = subst (λ (j : List Step). LeadsTo logic h.setup j h.whole) (sym none) (subst (λ (w : Whole). LeadsTo logic h.setup [] w) (sym opens) (journals_begin logic h.setup));
  paced = ap (is_paced logic h.setup) none;
  new = fresh;
  within = omega arith;
  owed = λ client.
      let asked : length (ids_asked client h.journal) ≡ 0 = ap (λ (j : List Step). length (ids_asked client j)) none in
      omega (arith, nobody client, asked);
}
