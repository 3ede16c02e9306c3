-- What waits or is open, by counts.
use Rattle.silo_model.proofs.Common.{◌+◌, ◌∙◌, ◌∷◌, ◌≡◌, ◌≤◌, Client, LeadsTo, List, Logic, Machine, Party, ReadersAskNothing, Request}
use Rattle.silo_model.proofs.Common.{Setup, Step, Whole, [], all_pending, ap, arith, concerns, false, false_from_ne_true, is_of_client}
use Rattle.silo_model.proofs.Common.{length, list_any, refl, restricted_to, shown_to, start_of, subst, sum_alike, sum_by, sum_by-cons}
use Rattle.silo_model.proofs.Common.{sum_flat, sym, true, ℕ}
use Rattle.finite_maps.proofs.Sums.{sum_one}
use Rattle.std.proofs.lemmas.Bool.{or_from}
use Rattle.silo_model.proofs.Fair.{pend}
use Rattle.silo_model.proofs.Moves.{asked_by, replied, sent}
use Rattle.silo_model.proofs.FairRuns.{pending_weight, run_balance, start_balance, start_fair}
use Rattle.lane_model.specs.Asking.{asking_of, id_asked, id_of, ids_asked, ids_told}
use Rattle.lane_model.specs.Counting.{PendingByCounts}
use Rattle.lane_model.proofs.Askers.{apart_asks_nothing, asked_weight, none_pending, one_told, told_weight, weigh, weigh_quiet}
use Rattle.lane_model.proofs.Filtered.{flat_map-filter}
use Rattle.lane_model.proofs.PacedGrowth.{part_is_run}
use Rattle.lane_model.proofs.AnswerOrder.{shown_replies, told_shown}

-- ---- a client

-- the converse of `light`: what weighs nothing has nothing of the client
heavy : (client : Client) (p : Party) → is_of_client client p ≡ true → weigh client (λ x. 1) p ≡ 0 → ⊥
heavy client p is none = omega (arith, none, one_told client p is, sum_one (id_of client p))

light_none : (client : Client) (queue : List Request) → sum_by (sent (weigh client (λ x. 1))) queue ≡ 0 → list_any (λ q. is_of_client client q.sender) queue ≡ false
light_none client [] none = refl
light_none client (q ∷ queue) none =
    let both = sum_by-cons (sent (weigh client (λ x. 1))) q queue in
    or_from (is_of_client client q.sender) _
    (false_from_ne_true _ (λ is. heavy client q.sender is (omega (arith, none, both)))) (light_none client queue (omega (arith, none, both)))

-- the client's steps all concern its tenant
ids_struck : (client : Client) (steps : List Step) → ids_asked client (restricted_to client.tenant steps) ≡ ids_asked client steps
ids_struck client steps = flat_map-filter (λ s. id_asked client (asking_of s)) (concerns client.tenant) steps (apart_asks_nothing client)

module _ (logic : Logic) (law : ReadersAskNothing logic) (setup : Setup) (journal : List Step) (w : Whole) (client : Client) (leads : LeadsTo logic setup journal w) where
  abbrev one : Party → ℕ
  one = weigh client (λ x. 1)

  abbrev part : Machine
  part = shown_to client.tenant w

  -- what the client was told, and what of it waits or is open, are as much as it asked
  client_balance : length (ids_told client w.replies) + pend (sent one) part.entries ≡ length (ids_asked client journal)
  client_balance =
      let start : Machine = start_of setup client.tenant in
      let struck : List Step = restricted_to client.tenant journal in
      let balance : replied one part.replies + pend (sent one) part.entries ≡ sum_by (asked_by one) struck = subst (λ (x : Machine). replied one x.replies + pend (sent one) x.entries ≡ sum_by (asked_by one) struck) (part_is_run logic setup journal w client.tenant leads)
      (omega (arith, run_balance logic law one (weigh_quiet client (λ x. 1)) start struck (start_fair logic setup client.tenant), start_balance setup client.tenant one)) in
      let asked : sum_by (asked_by one) struck ≡ length (ids_asked client journal) = sum_alike (asked_by one) (λ s. sum_by (λ x. 1) (id_asked client (asking_of s))) struck (asked_weight client (λ x. 1))
      ∙ sym (sum_flat (λ x. 1) (λ s. id_asked client (asking_of s)) struck)
      ∙ ap (sum_by (λ x. 1)) (ids_struck client journal)
      ∙ sum_one (ids_asked client journal) in
      let told : replied one part.replies ≡ length (ids_told client w.replies) = told_weight client (λ x. 1) part.replies
      ∙ ap (λ replies. sum_by (λ x. 1) (ids_told client replies)) (shown_replies client.tenant w)
      ∙ ap (sum_by (λ x. 1)) (told_shown client w.replies)
      ∙ sum_one (ids_told client w.replies) in
      omega (arith, balance, asked, told)

  -- it was told no more often than it asked
  pub told_within : length (ids_told client w.replies) ≤ length (ids_asked client journal)
  told_within = omega (arith, client_balance)

pub pending_by_counts : PendingByCounts
pending_by_counts logic law setup journal w client leads =
    let f : Party → ℕ = weigh client (λ x. 1) in
    let m : Machine = shown_to client.tenant w in
    let balance = client_balance logic law setup journal w client leads in (
      λ none. omega (arith, balance, none_pending client (λ x. 1) m none),
      λ same. light_none client (all_pending m) (omega (arith, balance, same, pending_weight (sent f) m)),
    )
