-- The tenants that are known, and their limits, are those of the table along every journal.
use Rattle.silo_model.proofs.Common.{◌∙◌, ◌≡◌, Account, Change, Context, Effect, Equal-is, Grain, LeadsTo, Limits, List, Logic, None, Option, Setup, Some, Step, [], ◌∷◌}
use Rattle.silo_model.proofs.Common.{Whole, ap, change_at, change_option, context_at, drop, eq_by_cmp, keep, limits_of, opening, option_map, owner_of, put, refl}
use Rattle.silo_model.proofs.Common.{shown_to, spread, sym, text_cmp, text_cmp_exact, text_cmp_total, whole_step, ℕ}
use Rattle.std.specs.FinMap as map
use Rattle.grain_logic.specs.Logic.{Outgoing}
use Rattle.silo_model.specs.Turns.{with_sends}
use Rattle.silo_model.specs.Opening.{Kept, account_at}
use Rattle.silo_model.proofs.Changes.{get-change_other, get-change_same}
use Rattle.silo_model.proofs.EffectKinds.{Does, Remains, Role, accepts, closes, goes_on, opens, pokes, tells, unloads, untouched, without}
use Rattle.silo_model.proofs.Isolation.{by_owner, did_does, place_in}
use Rattle.silo_model.proofs.Journals.{all_keep}
use Rattle.silo_model.proofs.Opening.{account_limits, get-opening_accounts}
use Rattle.silo_model.proofs.SharedSteps.{shared_leaves}
use Rattle.silo_model.proofs.Tests.{either_way}

abbrev pub limits_at : Option Account → Option Limits
limits_at o = option_map (λ (a : Account). a.limits) o

remains_limits : {o : Option Account} {c : Change Account} → Remains o c → limits_at (change_option o c) ≡ limits_at o
remains_limits untouched = refl
remains_limits (without a g found is first) = ap limits_at (sym is)

sends_limits : (g : Grain) (o : Option Account) (sends : List Outgoing) → limits_at (change_option o (with_sends g o sends)) ≡ limits_at o
sends_limits g o [] = refl
sends_limits g None (x ∷ xs) = refl
sends_limits g (Some a) (x ∷ xs) = refl

does_limits : (logic : Logic) (s : Context) (step : Step) {role : Role} {grain : Option Grain} {e : Effect} → Does logic s step role grain e
    → limits_at (change_option s.account e.account) ≡ limits_at s.account
does_limits logic s step (tells p grain left outcome remains) = remains_limits remains
does_limits logic s step (accepts p g call left a own remains known) = ap limits_at (sym known) ∙ remains_limits remains
does_limits logic s step (closes g turn e request left sends row outcome found open_turn is_left by_sends by_row) = sends_limits g s.account sends
does_limits logic s step _ = refl

-- the accounts of both have the same tenants with the same limits
abbrev SameLimits : Whole → Whole → Type 0
SameLimits w after = (t : List ℕ) → limits_at (map.get after.accounts t) ≡ limits_at (map.get w.accounts t)

step_limits : (logic : Logic) (w after : Whole) (s : Step) → whole_step logic w s ≡ Some after → SameLimits w after
unfolding spread context_at shown_to
step_limits logic w after s h =
    by_owner logic w after s (SameLimits w after) h
    (λ _ nobodys t. ap (λ accounts. limits_at (map.get accounts t)) (shared_leaves w after s nobodys).accounts)
    (λ owner is d t.
    ap (λ (x : Whole). limits_at (map.get x.accounts t)) (sym d.leaves)
    ∙ either_way (eq_by_cmp text_cmp t owner)
    (λ tied.
    let own = text_cmp_exact t owner ((Equal-is (text_cmp t owner)).0 tied) in
    ap (λ k. limits_at (map.get (change_at w.accounts owner d.what.account) k)) own
    ∙ ap limits_at (get-change_same text_cmp_total text_cmp_exact w.accounts owner d.what.account)
    ∙ does_limits logic _ s (did_does logic w after s owner d)
    ∙ ap (λ k. limits_at (map.get w.accounts k)) (sym own))
    (λ apart. ap limits_at (get-change_other text_cmp_total text_cmp_exact w.accounts owner t d.what.account apart)))

opens_limits : (kept : Kept) (t : List ℕ) (o : Option Limits) → limits_at (option_map (account_at kept t) o) ≡ o
opens_limits kept t None = refl
opens_limits kept t (Some limits) = ap Some (account_limits t limits (map.get kept.accounts t))

pub journal_limits : (logic : Logic) (setup : Setup) (journal : List Step) (w : Whole) → LeadsTo logic setup journal w → (t : List ℕ)
    → limits_at (map.get w.accounts t) ≡ limits_of setup.tenants t
unfolding opening
journal_limits logic setup journal w leads t =
    all_keep (whole_step logic) (λ x. limits_at (map.get x.accounts t) ≡ limits_of setup.tenants t)
    (λ m next s was step. step_limits logic m next s step t ∙ was) (opening setup) w journal
    (ap limits_at (get-opening_accounts setup.tenants setup.kept t) ∙ opens_limits setup.kept t (limits_of setup.tenants t)) leads
