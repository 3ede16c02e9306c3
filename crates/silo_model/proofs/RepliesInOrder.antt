-- The replies of all tenants, step by step.
use Rattle.silo_model.proofs.Common.{◌++◌, ◌∙◌, ◌∷◌, ◌≡◌, List, Logic, Machine, None, Option, Setup, Some, Step, Whole, [], ap, append-nil}
use Rattle.silo_model.proofs.Common.{append_assoc, arith, concerns_by, length, machine_run, machine_step, opening, owner_of, refl}
use Rattle.silo_model.proofs.Common.{restricted_to, shown_to, start_of, subst, sym, unwrap_or, whole_run, whole_step, ℕ}
use Rattle.std.proofs.Common.{drop}
use Rattle.std.proofs.lemmas.List.{drop_all}
use Rattle.std.proofs.Math.Seq.{drop-append_seam}
use Rattle.silo_model.specs.Replies.{RepliesInOrder, owner_adds, owners_add, replies_added}
use Rattle.silo_model.proofs.Sound.{IsSound}
use Rattle.silo_model.proofs.Tests.{on_found}
use Rattle.silo_model.proofs.Contexts.{same_text-itself}
use Rattle.silo_model.proofs.SharedSteps.{shared_leaves}
use Rattle.silo_model.proofs.Isolation.{not_now, owners_part, shared_by}
use Rattle.silo_model.proofs.Runs.{run_sound, whole_after, whole_run-append}
use Rattle.silo_model.proofs.Opening.{opening_sound, replay_is_run}
use Rattle.silo_model.proofs.Journals.{adds_owned, journals_replay}

module _ (logic : Logic) (w : Whole) (sound : IsSound w) (s : Step) where
  -- what the owner's machine adds, by what the step does
  machine_adds : (owner : List ℕ) (q : Option Machine) → machine_step logic (shown_to owner w) s ≡ q → replies_added logic (shown_to owner w) s ≡ drop (length (shown_to owner w).replies) (unwrap_or q (shown_to owner w)).replies
  machine_adds owner q is = ap (λ o. drop (length (shown_to owner w).replies) (unwrap_or o (shown_to owner w)).replies) is

  -- the replies after one step are those before it, and then what its owner's machine adds
  owner_next : (owner : List ℕ) → owner_of s ≡ Some owner → (whole_after logic w s).replies ≡ w.replies ++ replies_added logic (shown_to owner w) s
  owner_next owner is =
      let mine = (shown_to owner w).replies in
      on_found (λ r. (unwrap_or r w).replies ≡ w.replies ++ replies_added logic (shown_to owner w) s) (whole_step logic w s)
      (λ none.
      let same = machine_adds owner None (not_now logic w s owner (ap (concerns_by owner) is ∙ same_text-itself owner) none) in
      sym (append-nil w.replies) ∙ ap (λ rs. w.replies ++ rs) (sym (same ∙ drop_all (length mine) mine (omega arith))))
      (λ after step.
      let adds = adds_owned logic w after s sound step in
      let same = machine_adds owner (Some (shown_to owner after)) (owners_part logic w after s owner sound is step) in
      let added = same ∙ ap (drop (length mine)) (adds.own_replies owner is) ∙ drop-append_seam mine adds.added in
      adds.replies ∙ ap (λ rs. w.replies ++ rs) (sym added))

  nobody_next : owner_of s ≡ None → (whole_after logic w s).replies ≡ w.replies ++ []
  nobody_next is =
      on_found (λ r. (unwrap_or r w).replies ≡ w.replies ++ []) (whole_step logic w s) (λ _. sym (append-nil w.replies))
      (λ after e. (shared_leaves w after s (sym (shared_by logic w s is) ∙ e)).replies ∙ sym (append-nil w.replies))

-- where the whole is after the steps before, and what a step then adds
module _ (logic : Logic) (setup : Setup) (before : List Step) (w : Whole) (at : whole_run logic (opening setup) before ≡ w) (sound : IsSound w) (s : Step) where
  part_is : (t : List ℕ) → shown_to t w ≡ machine_run logic (start_of setup t) (restricted_to t before)
  part_is t = ap (shown_to t) (sym at) ∙ replay_is_run logic setup t before

  next_by : (o : Option (List ℕ)) → owner_of s ≡ o → (whole_after logic w s).replies ≡ w.replies ++ owner_adds logic setup before s o
  next_by None is = nobody_next logic w sound s is
  next_by (Some owner) is = owner_next logic w sound s owner is ∙ ap (λ m. w.replies ++ replies_added logic m s) (part_is owner)

in_order : (logic : Logic) (setup : Setup) (before : List Step) (w : Whole) (steps : List Step) → whole_run logic (opening setup) before ≡ w → IsSound w → (whole_run logic w steps).replies ≡ w.replies ++ owners_add logic setup before steps
in_order logic setup before w [] at sound = sym (append-nil w.replies)
in_order logic setup before w (s ∷ steps) at sound =
    let next = whole_after logic w s in
    let there = whole_run-append logic (opening setup) before (s ∷ []) ∙ ap (λ x. whole_after logic x s) at in
    let next_sound = run_sound logic (s ∷ []) w sound in
    let added = owner_adds logic setup before s (owner_of s) in
    let rest = owners_add logic setup (before ++ s ∷ []) steps in
    in_order logic setup (before ++ s ∷ []) next steps there next_sound
    ∙ ap (λ rs. rs ++ rest) (next_by logic setup before w at sound s (owner_of s) refl)
    ∙ append_assoc w.replies added rest

pub replies_in_order : RepliesInOrder
replies_in_order logic setup journal w steps leads =
    let at = journals_replay logic setup journal w leads in
    in_order logic setup journal w steps at (subst IsSound at (run_sound logic journal (opening setup) (opening_sound setup)))
