-- A counter's first call is served in its client's lane.
use Rattle.silo_model.proofs.Common.{◌&&◌, ◌||◌, ◌∙◌, ◌∷◌, ◌≡◌, Account, All-from_recursion, AllByRecursion, Call, Client, Entry, FinMap}
use Rattle.silo_model.proofs.Common.{Grain, Limits, List, Machine, Ok, Request, Setup, Some, [], ap, arith, as_failed, client_eq, client_eq_decides}
use Rattle.silo_model.proofs.Common.{cond, counters, entries-none, false, flat_map, fresh_account, grain_cmp, grain_cmp_exact}
use Rattle.silo_model.proofs.Common.{all_pending, grain_cmp_total, has_pending, integer, is_of, is_of_client, length, limits_of, list_any, map_list, nat_cmp}
use Rattle.silo_model.proofs.Common.{nat_cmp-IsAntisymmetric, nat_cmp_total, none-some, not, opening, option_map, pending_at, refl}
use Rattle.silo_model.proofs.Common.{same_Some, shown_to, start_of, sym, text_cmp, text_cmp_total, told, total, total-none, true, ℕ, ℤ}
use Rattle.std.specs.FinMap as map
use Rattle.finite_maps.proofs.Maps.{insert-insert, taken_back}
use Rattle.silo_model.proofs.Tests.{on_found}
use Rattle.finite_maps.proofs.Totals.{total-insert, total_alike}
use Rattle.finite_maps.proofs.Sums.{sum_zero}
use Rattle.silo_event.specs.declared.reply.Party.TheVariants as party
use Rattle.silo_model.specs.FirstCall.{add_call, first_call}
use Rattle.silo_model.specs.Opening.{fresh_accounts, nothing_kept}
use Rattle.silo_model.proofs.FirstCall.{after_end, first_call_leads, first_call_replies}
use Rattle.silo_model.proofs.Opening.{accounts_new, get-fresh_accounts, none_active, none_up, opening_shown}
use Rattle.silo_model.specs.Pending.{AllQuiet}
use Rattle.lane_model.specs.Lanes.{LaneStands, LanesStand, has_giver, lane_of}
use Rattle.lane_model.specs.Pacing.{is_paced}
use Rattle.lane_model.specs.Serving.{FirstCallServed, lane_of_one_call, replies_to}
use Rattle.silo_model.proofs.QuietCounts.{quiet_by_counts}

-- ---- the journal

-- nothing waits or is open at the start
start_has_none : (setup : Setup) (client : Client) → setup.kept ≡ nothing_kept → has_pending client (start_of setup client.tenant) ≡ false
unfolding shown_to
start_has_none setup client new =
    ap (λ (m : Machine). list_any (λ (q : Request). is_of_client client q.sender) (all_pending m)) (sym (opening_shown setup client.tenant))
    ∙ ap (λ es. list_any (λ (q : Request). is_of_client client q.sender) (flat_map pending_at (map_list (λ (e : Grain × Entry). e.1) es)))
    (entries-none (map.retain_keys (opening setup).entries (is_of client.tenant)) (none_active setup new client.tenant))

module _ (caller : Client) (id : ℕ) (grain : Grain) (n : ℤ) where
  itself : client_eq caller caller ≡ true
  itself = (client_eq_decides caller caller).1 refl

  pub is_paced_first : (setup : Setup) → setup.kept ≡ nothing_kept → is_paced counters setup (first_call caller id grain n) ≡ true
  is_paced_first setup new = ap (λ b. not b && true) (start_has_none setup caller new)

  stands : AllByRecursion (λ lane. LaneStands lane (first_call caller id grain n)) (lane_of_one_call caller id grain n ∷ [])
  stands = (ap (λ b. map_list as_failed (cond b (Call caller id grain (add_call n) ∷ []) [])) itself, tt)

  given : AllByRecursion (λ s. has_giver (lane_of_one_call caller id grain n ∷ []) (lane_of s) ≡ true) (first_call caller id grain n)
  given = (ap (λ b. b || false) itself, (refl, (refl, (refl, (refl, tt)))))

  pub lane_stands : LanesStand (lane_of_one_call caller id grain n ∷ []) (first_call caller id grain n)
  lane_stands = record {
    each = All-from_recursion (λ lane. LaneStands lane (first_call caller id grain n)) (lane_of_one_call caller id grain n ∷ []) stands;
    given = All-from_recursion (λ s. has_giver (lane_of_one_call caller id grain n ∷ []) (lane_of s) ≡ true) (first_call caller id grain n) given;
  }

  pub answered_one : told (party.Client caller id) (Ok (integer n)) ≡ replies_to (Some caller) (told (party.Client caller id) (Ok (integer n)))
  answered_one = sym (ap (λ b. cond b (told (party.Client caller id) (Ok (integer n))) []) itself)

-- ---- nothing is left to do

-- an entry that is written over weighs nothing
over : (f : Entry → ℕ) (m : FinMap grain_cmp Entry) (g : Grain) (e x : Entry) → total f (map.insert (map.insert m g e) g x) ≡ total f (map.insert m g x)
over f m g e x = ap (total f) (insert-insert grain_cmp_total grain_cmp_exact m g e x)

-- the weight of the only entry, which weighs nothing
weightless : (f : Entry → ℕ) (m : FinMap grain_cmp Entry) (g : Grain) (e : Entry) → m ≡ map.empty → f e ≡ 0 → total f (map.insert m g e) ≡ 0
weightless f m g e empty none =
    ap (λ (x : FinMap grain_cmp Entry). total f (map.insert x g e)) empty
    ∙ omega (arith, total-insert grain_cmp_total f map.empty g e, total-none f (map.empty {R = grain_cmp}) (map.len-empty grain_cmp Entry), none)

-- a turn that was opened alone and closed
no_turns : (k : ℕ) (request : Request) → map.values (map.remove (map.insert (map.empty {R = nat_cmp}) k request) k) ≡ []
no_turns k request = ap map.values (taken_back nat_cmp_total nat_cmp-IsAntisymmetric map.empty k request (map.get-empty nat_cmp k)) ∙ ap (λ es. map_list (λ (e : ℕ × Request). e.1) es) (entries-none (map.empty {X = Request} {R = nat_cmp}) (map.len-empty nat_cmp Request))

nothing_sent : (setup : Setup) → setup.kept ≡ nothing_kept → (tenant : List ℕ) (account : Account) → account.sends ≡ []
    → total (λ (a : Account). length a.sends) (map.insert (opening setup).accounts tenant account) ≡ 0
nothing_sent setup new tenant account none =
    let f : Account → ℕ = λ a. length a.sends in
    let all = fresh_accounts setup.tenants in
    let nothing = total_alike text_cmp_total f (λ a. 0) all (λ t a h.
    on_found (λ o. option_map fresh_account o ≡ Some a → f a ≡ 0) (limits_of setup.tenants t) (λ _ none. absurd (none-some a none))
    (λ limits _ is. ap f (sym (same_Some (fresh_account limits) a is))) (sym (get-fresh_accounts setup.tenants t) ∙ h)) in
    ap (λ (m : FinMap text_cmp Account). total f (map.insert m tenant account)) (accounts_new setup new)
    ∙ omega (arith, total-insert text_cmp_total f all tenant account, nothing, sum_zero (map.values all), ap length none)

quiet_at_end : (setup : Setup) (limits : Limits) (caller : Client) (id : ℕ) (grain : Grain) (n : ℤ) → setup.kept ≡ nothing_kept → AllQuiet (after_end (opening setup) (fresh_account limits) caller id grain n)
quiet_at_end setup limits caller id grain n new =
    let f : Entry → ℕ = λ e. length (pending_at e) in
    (quiet_by_counts (after_end (opening setup) (fresh_account limits) caller id grain n)).1 (
      over f _ grain _ _ ∙ over f _ grain _ _ ∙ over f _ grain _ _ ∙ over f _ grain _ _ ∙ weightless f (opening setup).entries grain _ (none_up setup new) (ap length (no_turns 1 _)),
      nothing_sent setup new caller.tenant _ refl,
    )

-- ---- the law

pub first_call_served : FirstCallServed
first_call_served setup limits caller id grain n new known may own kind none fits =
    let replies = first_call_replies setup limits caller id grain n none fits in (
      after_end (opening setup) (fresh_account limits) caller id grain n,
      record {
        leads = first_call_leads setup limits caller id grain n new known may own kind;
        paced = is_paced_first caller id grain n setup new;
        stand = lane_stands caller id grain n;
        quiet = quiet_at_end setup limits caller id grain n new;
        failed = refl;
        answered = ap (λ rs. rs ∷ []) (answered_one caller id grain n ∙ ap (replies_to (Some caller)) (sym replies));
      },
    )
