-- A step that is done is the machine's on the part of each tenant that it concerns, and leaves every other part as it was.
use Rattle.silo_model.proofs.Common.{◌++◌, ◌∙◌, ◌∷◌, ◌≡◌, ◌≢◌, Change, Effect, Entry, Grain, List, Logic, Machine, None, Option, Reply}
use Rattle.silo_model.proofs.Common.{Some, Step, Whole, [], ap, append-nil, applied, concerns, concerns_by, cond, context_at, drop}
use Rattle.silo_model.proofs.Common.{effect_of, eq_by_cmp, eq_by_cmp-Decides, false, false_from_ne_true, filter, get-part, grain_cmp_exact}
use Rattle.silo_model.proofs.Common.{grain_cmp_total, grain_of, is_of, is_to, keep, machine_step, none-some, none_from_option_map}
use Rattle.silo_model.proofs.Common.{option_map, owner_of, put, refl, same_Some, same_text_decides, shared_step, shown_to, some_if_passes}
use Rattle.silo_model.proofs.Common.{spread, subst, sym, tenant_of, text_cmp, text_cmp_exact, text_cmp_total, true, true≢false, whole_step}
use Rattle.silo_model.proofs.Common.{ℕ}
use Rattle.std.specs.FinMap as map
use Rattle.std.proofs.lemmas.List.Elements.{filter-append}
use Rattle.silo_model.specs.Step.{owned_step, step_by}
use Rattle.silo_model.specs.Whole.{whole_shared_step, whole_step_by}
use Rattle.silo_model.proofs.Changes.{OfPut, OfPutAt, TestsAt, WhereChanged, WhereChanged-map, changed_all, get-change_other}
use Rattle.silo_model.proofs.Changes.{get-change_same, part-changed_in, part-changed_out}
use Rattle.silo_model.proofs.Tests.{on_found}
use Rattle.silo_model.proofs.Contexts.{same_text-apart, shown_account, step_by_context}
use Rattle.silo_model.proofs.SharedSteps.{shared_not, shared_shown, shared_sound}
use Rattle.silo_model.proofs.Sound.{IsEntryOf, IsSound}
use Rattle.silo_model.proofs.EffectKinds.{Does, effect_kind, owner_is, role_of}
use Rattle.silo_model.proofs.Proper.{AllTo, IsAt, IsProper, SeesOwn, does_proper}

-- ---- replies

all_own : (tenant : List ℕ) (replies : List Reply) → AllTo tenant replies → filter (is_to tenant) replies ≡ replies
all_own tenant [] own = refl
all_own tenant (r ∷ replies) own =
    ap (λ b. cond b (r ∷ filter (is_to tenant) replies) (filter (is_to tenant) replies)) ((same_text_decides (tenant_of r.recipient) tenant).1 own.0)
    ∙ ap (λ (rs : List Reply). r ∷ rs) (all_own tenant replies own.1)

none_of_other : (owner tenant : List ℕ) (replies : List Reply) → tenant ≢ owner → AllTo owner replies → filter (is_to tenant) replies ≡ []
none_of_other owner tenant [] apart own = refl
none_of_other owner tenant (r ∷ replies) apart own =
    ap (λ b. cond b (r ∷ filter (is_to tenant) replies) (filter (is_to tenant) replies)) (same_text-apart (tenant_of r.recipient) tenant (λ same. apart (sym same ∙ own.0)))
    ∙ none_of_other owner tenant replies apart own.1

-- ---- what a step did, in each part

-- what is said of the tenant's own grain, as a test on grains answers it
as_own : (owner : List ℕ) (grain : Option Grain) → IsAt owner grain → TestsAt (is_of owner) true grain
as_own owner None own = tt
as_own owner (Some g) own = (same_text_decides g.tenant owner).1 own

as_apart : (owner tenant : List ℕ) (grain : Option Grain) → tenant ≢ owner → IsAt owner grain → TestsAt (is_of tenant) false grain
as_apart owner tenant None apart own = tt
as_apart owner tenant (Some g) apart own = same_text-apart g.tenant tenant (λ same. apart (sym same ∙ own))

module _ (w : Whole) (owner : List ℕ) (grain : Option Grain) (e : Effect) (proper : IsProper owner grain e) where
  -- the owner's part changes as its machine does
  pub spread_own : shown_to owner (spread w owner grain e) ≡ applied (shown_to owner w) grain e
  unfolding shown_to spread applied
  spread_own =
      let own = as_own owner grain in
      λ i. record {
        tenant = owner;
        account = get-change_same text_cmp_total text_cmp_exact w.accounts owner e.account i;
        age = w.age;
        ages = w.ages;
        clock = w.clock;
        entries = part-changed_in grain_cmp_total grain_cmp_exact w.entries (is_of owner) grain e.entry (WhereChanged-map e.entry own proper.entry) i;
        rows = part-changed_in grain_cmp_total grain_cmp_exact w.rows (is_of owner) grain e.row (WhereChanged-map e.row own proper.row) i;
        replies = (filter-append (is_to owner) w.replies e.replies ∙ ap (λ rs. filter (is_to owner) w.replies ++ rs) (all_own owner e.replies proper.replies)) i;
      }

  -- every other part stays
  pub spread_other : (tenant : List ℕ) → tenant ≢ owner → shown_to tenant (spread w owner grain e) ≡ shown_to tenant w
  unfolding shown_to spread
  spread_other tenant apart =
      let other = as_apart owner tenant grain apart in
      let another_key = false_from_ne_true (eq_by_cmp text_cmp tenant owner) (λ tied. apart ((eq_by_cmp-Decides text_cmp_total text_cmp_exact tenant owner).0 tied)) in
      λ i. record {
        tenant = tenant;
        account = get-change_other text_cmp_total text_cmp_exact w.accounts owner tenant e.account another_key i;
        age = w.age;
        ages = w.ages;
        clock = w.clock;
        entries = part-changed_out grain_cmp_total grain_cmp_exact w.entries (is_of tenant) grain e.entry (WhereChanged-map e.entry other proper.entry) i;
        rows = part-changed_out grain_cmp_total grain_cmp_exact w.rows (is_of tenant) grain e.row (WhereChanged-map e.row other proper.row) i;
        replies = (filter-append (is_to tenant) w.replies e.replies ∙ ap (λ rs. filter (is_to tenant) w.replies ++ rs) (none_of_other owner tenant e.replies apart proper.replies) ∙ append-nil (filter (is_to tenant) w.replies)) i;
      }

-- ---- a step of a tenant

-- the grain at which the owner's step is taken
abbrev pub place_in : Whole → List ℕ → Step → Option Grain
place_in w owner s = grain_of (map.get w.accounts owner) s

-- what a step that is done did
pub record Did (logic : Logic) (w : Whole) (s : Step) (owner : List ℕ) (after : Whole) : Type 0 where
  pub what : Effect
  pub does : effect_of logic (context_at (shown_to owner w) (place_in w owner s)) s ≡ Some what
  pub leaves : spread w owner (place_in w owner s) what ≡ after

pub did : (logic : Logic) (w after : Whole) (s : Step) (owner : List ℕ) → owner_of s ≡ Some owner → whole_step logic w s ≡ Some after → Did logic w s owner after
did logic w after s owner is h =
    let place = place_in w owner s in
    on_found (λ e. option_map (spread w owner place) e ≡ Some after → Did logic w s owner after)
    (effect_of logic (context_at (shown_to owner w) place) s) (λ _ none. absurd (none-some after none))
    (λ what does is_so. record { what = what; does = does; leaves = same_Some _ after is_so })
    (sym (step_by_context logic w s owner place _ is refl refl) ∙ h)

-- a tenant sees an entry of its own
sees_own : (w : Whole) (tenant : List ℕ) (grain : Option Grain) → IsSound w → SeesOwn tenant (context_at (shown_to tenant w) grain).entry
unfolding context_at shown_to
sees_own w tenant None sound e found = absurd (none-some e found)
sees_own w tenant (Some g) sound e found =
    let part = some_if_passes (is_of tenant g) (map.get w.entries g) e (sym (get-part w.entries (is_of tenant) g) ∙ found) in
    subst (λ (t : List ℕ). IsEntryOf t e) ((same_text_decides g.tenant tenant).0 part.0) (sound g e part.1)

pub did_does : (logic : Logic) (w after : Whole) (s : Step) (owner : List ℕ) (d : Did logic w s owner after)
    → Does logic (context_at (shown_to owner w) (place_in w owner s)) s (role_of s) (place_in w owner s) d.what
unfolding context_at shown_to
did_does logic w after s owner d = effect_kind logic _ s d.what d.does

pub did_proper : (logic : Logic) (w after : Whole) (s : Step) (owner : List ℕ) → owner_of s ≡ Some owner → IsSound w → (d : Did logic w s owner after) → IsProper owner (place_in w owner s) d.what
unfolding context_at shown_to
did_proper logic w after s owner is sound d = does_proper logic _ s owner (owner_is s ∙ is) refl (sees_own w owner (place_in w owner s) sound) (did_does logic w after s owner d)

-- the machine's step, by what it does
pub machine_step_by : (logic : Logic) (m : Machine) (s : Step) (owner : List ℕ) (grain : Option Grain) (e : Option Effect)
    → owner_of s ≡ Some owner → grain_of m.account s ≡ grain → effect_of logic (context_at m grain) s ≡ e → machine_step logic m s ≡ option_map (applied m grain) e
unfolding machine_step
machine_step_by logic m s owner grain e is place does = ap (step_by logic m s) is ∙ ap (owned_step logic m s) place ∙ ap (λ x. option_map (applied m grain) x) does

place_shown : (w : Whole) (owner : List ℕ) (s : Step) → grain_of (shown_to owner w).account s ≡ place_in w owner s
place_shown w owner s = ap (λ a. grain_of a s) (shown_account w owner)

pub owners_part : (logic : Logic) (w after : Whole) (s : Step) (owner : List ℕ) → IsSound w → owner_of s ≡ Some owner → whole_step logic w s ≡ Some after → machine_step logic (shown_to owner w) s ≡ Some (shown_to owner after)
owners_part logic w after s owner sound is h =
    let d = did logic w after s owner is h in
    machine_step_by logic (shown_to owner w) s owner (place_in w owner s) (Some d.what) is (place_shown w owner s) d.does
    ∙ ap Some (sym (spread_own w owner (place_in w owner s) d.what (did_proper logic w after s owner is sound d)) ∙ ap (shown_to owner) d.leaves)

pub others_parts : (logic : Logic) (w after : Whole) (s : Step) (owner tenant : List ℕ) → IsSound w → owner_of s ≡ Some owner → tenant ≢ owner → whole_step logic w s ≡ Some after → shown_to tenant after ≡ shown_to tenant w
others_parts logic w after s owner tenant sound is apart h =
    let d = did logic w after s owner is h in
    sym (ap (shown_to tenant) d.leaves) ∙ spread_other w owner (place_in w owner s) d.what (did_proper logic w after s owner is sound d) tenant apart

pub owner_not_now : (logic : Logic) (w : Whole) (s : Step) (owner : List ℕ) → owner_of s ≡ Some owner → whole_step logic w s ≡ None → machine_step logic (shown_to owner w) s ≡ None
owner_not_now logic w s owner is h =
    let place = place_in w owner s in
    let none = none_from_option_map (spread w owner place) (effect_of logic (context_at (shown_to owner w) place) s) (sym (step_by_context logic w s owner place _ is refl refl) ∙ h) in
    machine_step_by logic (shown_to owner w) s owner place None is (place_shown w owner s) none

-- ---- a step of nobody

pub shared_by : (logic : Logic) (w : Whole) (s : Step) → owner_of s ≡ None → whole_step logic w s ≡ whole_shared_step w s
unfolding whole_step
shared_by logic w s is = ap (whole_step_by logic w s) is

machine_shared_by : (logic : Logic) (m : Machine) (s : Step) → owner_of s ≡ None → machine_step logic m s ≡ shared_step m s
unfolding machine_step
machine_shared_by logic m s is = ap (step_by logic m s) is

-- what holds after a step of nobody, and after one of an owner, holds after every step that is done
pub by_owner : (logic : Logic) (w after : Whole) (s : Step) (P : Type 0) → whole_step logic w s ≡ Some after
    → (owner_of s ≡ None → whole_shared_step w s ≡ Some after → P)
    → ((owner : List ℕ) → owner_of s ≡ Some owner → Did logic w s owner after → P) → P
by_owner logic w after s P h nobodys owned =
    on_found (λ _. P) (owner_of s) (λ is. nobodys is (sym (shared_by logic w s is) ∙ h))
    (λ owner is. owned owner is (did logic w after s owner is h))

-- ---- every step, by whether it concerns the tenant

module _ (logic : Logic) (w : Whole) (s : Step) (tenant : List ℕ) where
  own_by : (o : Option (List ℕ)) → owner_of s ≡ o → concerns_by tenant o ≡ true → (after : Whole) → IsSound w → whole_step logic w s ≡ Some after → machine_step logic (shown_to tenant w) s ≡ Some (shown_to tenant after)
  own_by None is concerned after sound h = machine_shared_by logic (shown_to tenant w) s is ∙ shared_shown w tenant after s (sym (shared_by logic w s is) ∙ h)
  own_by (Some owner) is concerned after sound h = owners_part logic w after s tenant sound (is ∙ ap Some ((same_text_decides owner tenant).0 concerned)) h

  pub own_part : (after : Whole) → IsSound w → concerns tenant s ≡ true → whole_step logic w s ≡ Some after → machine_step logic (shown_to tenant w) s ≡ Some (shown_to tenant after)
  own_part after sound concerned h = own_by (owner_of s) refl concerned after sound h

  other_by : (o : Option (List ℕ)) → owner_of s ≡ o → concerns_by tenant o ≡ false → (after : Whole) → IsSound w → whole_step logic w s ≡ Some after → shown_to tenant after ≡ shown_to tenant w
  other_by None is apart after sound h = absurd (true≢false apart)
  other_by (Some owner) is apart after sound h = others_parts logic w after s owner tenant sound is (λ same. true≢false (sym ((same_text_decides owner tenant).1 (sym same)) ∙ apart)) h

  pub other_parts : (after : Whole) → IsSound w → concerns tenant s ≡ false → whole_step logic w s ≡ Some after → shown_to tenant after ≡ shown_to tenant w
  other_parts after sound apart h = other_by (owner_of s) refl apart after sound h

  not_by : (o : Option (List ℕ)) → owner_of s ≡ o → concerns_by tenant o ≡ true → whole_step logic w s ≡ None → machine_step logic (shown_to tenant w) s ≡ None
  not_by None is concerned h = machine_shared_by logic (shown_to tenant w) s is ∙ shared_not w tenant s (sym (shared_by logic w s is) ∙ h)
  not_by (Some owner) is concerned h = owner_not_now logic w s tenant (is ∙ ap Some ((same_text_decides owner tenant).0 concerned)) h

  pub not_now : concerns tenant s ≡ true → whole_step logic w s ≡ None → machine_step logic (shown_to tenant w) s ≡ None
  not_now concerned h = not_by (owner_of s) refl concerned h

-- ---- it holds again

-- an entry of the owner, at a grain of the owner
left_at : (owner : List ℕ) (grain : Option Grain) (c : Change Entry) → WhereChanged c (IsAt owner grain) → OfPut (IsEntryOf owner) c → OfPutAt (λ (g : Grain). IsEntryOf g.tenant) grain c
left_at owner grain keep own left = tt
left_at owner None (put x) own left = tt
left_at owner (Some g) (put x) own left = subst (λ (t : List ℕ). IsEntryOf t x) (sym own) left
left_at owner grain drop own left = tt

spread_sound : (w : Whole) (owner : List ℕ) (grain : Option Grain) (e : Effect) → IsSound w → IsProper owner grain e → IsSound (spread w owner grain e)
unfolding spread
spread_sound w owner grain e sound proper = changed_all grain_cmp_total grain_cmp_exact (λ (g : Grain). IsEntryOf g.tenant) w.entries grain e.entry sound (left_at owner grain e.entry proper.entry proper.left)

pub step_sound : (logic : Logic) (w after : Whole) (s : Step) → IsSound w → whole_step logic w s ≡ Some after → IsSound after
step_sound logic w after s sound h =
    by_owner logic w after s (IsSound after) h (λ _. shared_sound w after s sound)
    (λ owner is d. subst IsSound d.leaves (spread_sound w owner (place_in w owner s) d.what sound (did_proper logic w after s owner is sound d)))
