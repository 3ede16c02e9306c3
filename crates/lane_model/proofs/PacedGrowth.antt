-- Paced journals.
use Rattle.silo_model.proofs.Common.{◌&&◌, ◌++◌, ◌∙◌, ◌∷◌, ◌≡◌, Bool, Client, LeadsTo, List, Logic, Setup, Step, Whole, [], ap, append-nil}
use Rattle.silo_model.proofs.Common.{append_assoc, machine_run, restricted_to, shown_to, start_of, sym, ℕ}
use Rattle.std.proofs.Math.Bool.{and-true, and_assoc}
use Rattle.silo_model.proofs.Journals.{journals_replay}
use Rattle.silo_model.proofs.Opening.{replay_is_run}
use Rattle.lane_model.specs.Asking.{asker_of}
use Rattle.lane_model.specs.Pacing.{PacedGrows, is_paced, machine_of, may_ask, paced_from}

pub paced_more : (logic : Logic) (setup : Setup) (before journal : List Step) (s : Step)
    → paced_from logic setup before (journal ++ s ∷ []) ≡ (paced_from logic setup before journal && may_ask (machine_of logic setup (before ++ journal)) (asker_of s))
paced_more logic setup before [] s = and-true _ ∙ ap (λ b. may_ask (machine_of logic setup b) (asker_of s)) (sym (append-nil before))
paced_more logic setup before (r ∷ journal) s =
    let asks : Bool = may_ask (machine_of logic setup before) (asker_of r) in
    ap (λ b. asks && b) (paced_more logic setup (before ++ r ∷ []) journal s ∙ ap (λ b. paced_from logic setup (before ++ r ∷ []) journal && may_ask (machine_of logic setup b) (asker_of s)) (append_assoc before (r ∷ []) journal))
    ∙ sym (and_assoc asks (paced_from logic setup (before ++ r ∷ []) journal) _)

-- what a tenant is shown of a whole that a journal leads to
pub part_is_run : (logic : Logic) (setup : Setup) (journal : List Step) (w : Whole) (tenant : List ℕ) → LeadsTo logic setup journal w → machine_run logic (start_of setup tenant) (restricted_to tenant journal) ≡ shown_to tenant w
part_is_run logic setup journal w tenant leads = sym (replay_is_run logic setup tenant journal) ∙ ap (shown_to tenant) (journals_replay logic setup journal w leads)

pub paced_grows : PacedGrows
paced_grows logic setup journal w s leads =
    paced_more logic setup [] journal s
    ∙ (λ i. is_paced logic setup journal && may_ask (λ (client : Client). part_is_run logic setup journal w client.tenant leads i) (asker_of s))
