-- The opening whole is sound, and shows each tenant the start of its own machine.
use Rattle.silo_model.proofs.Common.{◌∙◌, ◌∷◌, ◌≡◌, Account, Entry, FinMap, Grain, Limits, List, None, Option, Setup, Some, [], active_of, ap, cond, get-part}
use Rattle.silo_model.proofs.Common.{grain_cmp, grain_cmp_exact, grain_cmp_total, is_of, limits_of, machine_run, map_list, none-some, opening}
use Rattle.silo_model.proofs.Common.{option_map, refl, restricted_to, same_Some, same_text, same_text_decides, shown_to, some_if_passes, start_of}
use Rattle.silo_model.proofs.Common.{subst, sym, text_cmp, text_cmp_exact, text_cmp_total, texts, ℕ}
use Rattle.std.specs.FinMap as map
use Rattle.std.specs.Map.{lookup}
use Rattle.finite_maps.specs.Mapped.{map_values}
use Rattle.finite_maps.proofs.Entries.{get-lookup}
use Rattle.finite_maps.proofs.Mapped.{get-mapped, mapped-empty}
use Rattle.finite_maps.proofs.Maps.{alike, part-empty}
use Rattle.tenant_gate.specs.Table.{Table}
pub use Rattle.tenant_accounts.proofs.Tables.{get-fresh_accounts}
use Rattle.silo_model.specs.Laws.{AgreeingLists, ReplayIsRun}
use Rattle.silo_model.specs.Opening.{Kept, KeptAccount, KeptGrain, account_at, account_by, awake, fresh_account, fresh_accounts, nothing_kept, opening_accounts}
use Rattle.silo_model.proofs.Sound.{IsEntryOf, IsSound, none_open}
use Rattle.silo_model.proofs.Runs.{run_shown}
use Rattle.silo_model.proofs.Tests.{on_test}

-- ---- entries

mapped_from : {A B : Type 0} (f : A → B) (o : Option A) (b : B) → option_map f o ≡ Some b → (a : A) × (o ≡ Some a) × (f a ≡ b)
mapped_from f None b e = absurd (none-some b e)
mapped_from f (Some a) b e = (a, refl, same_Some (f a) b e)

-- each entry of the opening is that of a grain that was kept
pub woken : (grains : FinMap grain_cmp KeptGrain) (g : Grain) (e : Entry) → map.get (map_values awake grains) g ≡ Some e
    → (k : KeptGrain) × (map.get grains g ≡ Some k) × (awake k ≡ e)
woken grains g e found = mapped_from awake (map.get grains g) e (sym (get-mapped grain_cmp_total grain_cmp_exact awake grains g) ∙ found)

-- and so is each entry of a tenant's machine at the start
pub woken_of : (setup : Setup) (t : List ℕ) (g : Grain) (e : Entry) → map.get (start_of setup t).entries g ≡ Some e → (k : KeptGrain) × (awake k ≡ e)
unfolding start_of
woken_of setup t g e found =
    let all = map_values awake setup.kept.grains in
    let k = woken setup.kept.grains g e (some_if_passes (is_of t g) (map.get all g) e (sym (get-part all (is_of t) g) ∙ found)).1 in
    (k.0, k.2)

awake_of : (t : List ℕ) (k : KeptGrain) → IsEntryOf t (awake k)
awake_of t k = record { queue = tt; turns = none_open t }

pub opening_sound : (setup : Setup) → IsSound (opening setup)
unfolding opening
opening_sound setup g e found =
    let k = woken setup.kept.grains g e found in
    subst (IsEntryOf g.tenant) k.2 (awake_of g.tenant k.0)

-- ---- accounts

looked_up : (f : List ℕ → Limits → Account) (t : List ℕ) (es : Table)
    → lookup (same_text t) (map_list (λ (e : List ℕ × Limits). (e.0, f e.0 e.1)) es) ≡ option_map (f t) (lookup (same_text t) es)
looked_up f t [] = refl
looked_up f t (e ∷ es) =
    on_test (λ b. cond b (Some (f e.0 e.1)) (lookup (same_text t) (map_list (λ (x : List ℕ × Limits). (x.0, f x.0 x.1)) es)) ≡ option_map (f t) (cond b (Some e.1) (lookup (same_text t) es)))
    (same_text t e.0) (λ is. ap (λ x. Some (f x e.1)) (sym ((same_text_decides t e.0).0 is))) (λ _. looked_up f t es)

-- whatever is kept of a tenant, its limits are the table's
pub account_limits : (t : List ℕ) (limits : Limits) (k : Option KeptAccount) → (account_by t limits k).limits ≡ limits
account_limits t limits None = refl
account_limits t limits (Some k) = refl

-- what is known of a tenant as a silo opens: the limits that the table has of it, and what was kept of it
pub get-opening_accounts : (tenants : Table) (kept : Kept) (t : List ℕ) → map.get (opening_accounts tenants kept) t ≡ option_map (account_at kept t) (limits_of tenants t)
get-opening_accounts tenants kept t = get-lookup texts (map_list (λ (e : List ℕ × Limits). (e.0, account_at kept e.0 e.1)) tenants) t ∙ looked_up (account_at kept) t tenants

pub opening_shown : (setup : Setup) (t : List ℕ) → shown_to t (opening setup) ≡ start_of setup t
unfolding opening start_of shown_to
opening_shown setup t = λ i. record {
  tenant = t;
  account = get-opening_accounts setup.tenants setup.kept t i;
  age = setup.age;
  ages = setup.ages;
  clock = setup.kept.clock;
  entries = map.retain_keys (map_values awake setup.kept.grains) (is_of t);
  rows = map.retain_keys setup.rows (is_of t);
  replies = [];
}

pub replay_is_run : ReplayIsRun
replay_is_run logic setup tenant steps =
    run_shown logic tenant steps (opening setup) (opening_sound setup)
    ∙ ap (λ m. machine_run logic m (restricted_to tenant steps)) (opening_shown setup tenant)

pub agreeing_lists : AgreeingLists
agreeing_lists logic setup other tenant steps others same_start same_steps =
    replay_is_run logic setup tenant steps
    ∙ ap (λ m. machine_run logic m (restricted_to tenant steps)) same_start
    ∙ ap (machine_run logic (start_of other tenant)) same_steps
    ∙ sym (replay_is_run logic other tenant others)

-- ---- a silo that is new

pub none_awake : map_values {R = grain_cmp} awake map.empty ≡ map.empty
none_awake = mapped-empty grain_cmp_total grain_cmp_exact awake

pub new_account : (t : List ℕ) (limits : Limits) → account_at nothing_kept t limits ≡ fresh_account limits
new_account t limits = ap (account_by t limits) (map.get-empty text_cmp t)

pub new_account_of : (t : List ℕ) (o : Option Limits) → option_map (account_at nothing_kept t) o ≡ option_map fresh_account o
new_account_of t None = refl
new_account_of t (Some limits) = ap Some (new_account t limits)

pub new_accounts : (tenants : Table) → opening_accounts tenants nothing_kept ≡ fresh_accounts tenants
new_accounts tenants =
    alike text_cmp_total text_cmp_exact _ _ (λ t.
    get-opening_accounts tenants nothing_kept t ∙ new_account_of t (limits_of tenants t) ∙ sym (get-fresh_accounts tenants t))

module _ (setup : Setup) (new : setup.kept ≡ nothing_kept) where
  pub accounts_new : (opening setup).accounts ≡ fresh_accounts setup.tenants
  unfolding opening
  accounts_new = ap (opening_accounts setup.tenants) new ∙ new_accounts setup.tenants

  pub clock_new : (opening setup).clock ≡ 0
  unfolding opening
  clock_new = ap (λ (k : Kept). k.clock) new

  pub none_up : (opening setup).entries ≡ map.empty
  unfolding opening
  none_up = ap (λ (k : Kept). map_values awake k.grains) new ∙ none_awake

  pub none_at : (g : Grain) → map.get (opening setup).entries g ≡ None
  none_at g = ap (λ entries. map.get entries g) none_up ∙ map.get-empty grain_cmp g

  pub none_active : (t : List ℕ) → active_of (opening setup) t ≡ 0
  none_active t =
      ap (λ entries. map.len (map.retain_keys entries (is_of t))) none_up
      ∙ ap map.len (part-empty grain_cmp_total grain_cmp_exact (is_of t)) ∙ map.len-empty grain_cmp Entry

  pub known_new : (t : List ℕ) (limits : Limits) → limits_of setup.tenants t ≡ Some limits → map.get (opening setup).accounts t ≡ Some (fresh_account limits)
  known_new t limits known = ap (λ accounts. map.get accounts t) accounts_new ∙ get-fresh_accounts setup.tenants t ∙ ap (option_map fresh_account) known
