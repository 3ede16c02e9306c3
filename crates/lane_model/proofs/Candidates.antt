-- After a step there is something new to do at the step's own grains alone.
use Rattle.silo_model.proofs.Common.{◌||◌, ◌∙◌, ◌∷◌, ◌≡◌, Account, Activate, Begin, Bool, Change, Deliver, Effect, Entries, Entry, Grain, List, Load}
use Rattle.silo_model.proofs.Common.{Logic, None, Option, Some, Step, Whole, ap, changed_at, delivery_of, eq_by_cmp, false, fresh_account, grain_cmp}
use Rattle.silo_model.proofs.Common.{grain_cmp_exact, grain_cmp_total, grain_eq, grain_eq_decides, is_among, is_some, limits_of, Limits}
use Rattle.silo_model.proofs.Common.{list_any-append, not-true, opening, option_map, or_parts, owner_of, refl, sender_by, spread, sym, true, true≢false}
use Rattle.silo_model.proofs.Common.{whole_step, ℕ}
use Rattle.std.specs.Prelude.{option_to_list}
use Rattle.std.specs.FinMap as map
use Rattle.grain_id.proofs.Keys.{grains}
use Rattle.finite_maps.proofs.Entries.{ties_turned}
use Rattle.silo_model.proofs.Opening.{accounts_new, get-fresh_accounts, none_at}
use Rattle.silo_model.proofs.Changes.{get-change_other}
use Rattle.silo_model.proofs.Tests.{on_found, on_test}
use Rattle.silo_model.proofs.SharedSteps.{shared_leaves}
use Rattle.silo_model.proofs.Isolation.{did, place_in, shared_by}
use Rattle.silo_model.specs.Todo.{work_on}
use Rattle.silo_model.proofs.OwnSends.{delivers, sends_stay}
use Rattle.silo_model.proofs.WorkAtGrains.{nothing_at_entry, nothing_to_deliver}
use Rattle.lane_model.specs.Candidates.{Covers, CoversBegin, CoversGrow, NothingToDo, grain_by_owner, grain_changed_by}

grain_apart : (p g : Grain) → grain_eq p g ≡ false → eq_by_cmp grain_cmp g p ≡ false
grain_apart p g apart = ties_turned grains p g ∙ apart

-- a change at a grain leaves the entry of another
get-elsewhere : (entries : Entries) (place : Option Grain) (c : Change Entry) (g : Grain) → is_among (option_to_list place) g ≡ false → map.get (changed_at entries place c) g ≡ map.get entries g
get-elsewhere entries None c g apart = refl
get-elsewhere entries (Some p) c g apart = get-change_other grain_cmp_total grain_cmp_exact entries p g c (grain_apart p g ((or_parts (grain_eq p g) false apart).0))

spread_elsewhere : (w : Whole) (owner : List ℕ) (place : Option Grain) (e : Effect) (g : Grain) → is_among (option_to_list place) g ≡ false → map.get (spread w owner place e).entries g ≡ map.get w.entries g
unfolding spread
spread_elsewhere w owner place e g apart = get-elsewhere w.entries place e.entry g apart

-- the entry of another grain was there
pub was_there : (logic : Logic) (w after : Whole) (s : Step) (g : Grain) (o : Option (List ℕ)) → owner_of s ≡ o → whole_step logic w s ≡ Some after → is_among (grain_by_owner w s o) g ≡ false
    → (e : Entry) → map.get after.entries g ≡ Some e → map.get w.entries g ≡ Some e
was_there logic w after s g None is step apart e found = (shared_leaves w after s (sym (shared_by logic w s is) ∙ step)).entries g e found
was_there logic w after s g (Some owner) is step apart e found =
    let d = did logic w after s owner is step in
    sym (spread_elsewhere w owner (place_in w owner s) d.what g apart) ∙ ap (λ (x : Whole). map.get x.entries g) d.leaves ∙ found

work_stays : (logic : Logic) (w after : Whole) (s : Step) (g : Grain) → whole_step logic w s ≡ Some after → is_among (grain_changed_by w s) g ≡ false → is_some (work_on logic g (map.get after.entries g)) ≡ true
    → work_on logic g (map.get w.entries g) ≡ work_on logic g (map.get after.entries g)
work_stays logic w after s g step apart =
    on_found (λ o. is_some (work_on logic g o) ≡ true → work_on logic g (map.get w.entries g) ≡ work_on logic g o) (map.get after.entries g)
    (λ _ h. absurd (true≢false (sym h))) (λ e is _. ap (work_on logic g) (was_there logic w after s g (owner_of s) refl step apart e is))

-- ---- the law

pub or_by : (a b : Bool) → (b ≡ false → a ≡ true) → (a || b) ≡ true
or_by true b h = refl
or_by false true h = refl
or_by false false h = h refl

pub covers_grow : CoversGrow
covers_grow logic w after s candidates step covers = record {
  entries = λ g h.
      list_any-append (λ x. grain_eq x g) candidates.entries (grain_changed_by w s)
      ∙ or_by (is_among candidates.entries g) (is_among (grain_changed_by w s) g) (λ apart. covers.entries g (ap is_some (work_stays logic w after s g step apart h) ∙ h));
  senders = λ g h.
      list_any-append (λ x. grain_eq x g) candidates.senders (sender_by s)
      ∙ or_by (is_among candidates.senders g) (is_among (sender_by s) g)
      (λ apart. covers.senders g (delivers g (map.get w.accounts g.tenant) ∙ sends_stay logic w after s g g.tenant (owner_of s) refl step apart (sym (delivers g (map.get after.accounts g.tenant)) ∙ h)));
}

-- ---- where a silo opens

-- nothing was sent from a fresh account
none_sent : (g : Grain) (o : Option Account) (limits : Option Limits) → o ≡ option_map fresh_account limits → is_some (delivery_of g o) ≡ true → false ≡ true
none_sent g o None is h = ap (λ x. is_some (delivery_of g x)) (sym is) ∙ h
none_sent g o (Some l) is h = ap (λ x. is_some (delivery_of g x)) (sym is) ∙ h

pub covers_begin : CoversBegin
covers_begin logic setup new = record {
  entries = λ g h. ap (λ o. is_some (work_on logic g o)) (sym (none_at setup new g)) ∙ h;
  senders = λ g h.
      none_sent g (map.get (opening setup).accounts g.tenant) (limits_of setup.tenants g.tenant)
      (ap (λ accounts. map.get accounts g.tenant) (accounts_new setup new) ∙ get-fresh_accounts setup.tenants g.tenant) h;
}

-- ---- a candidate at which nothing is to do is left out

pub other_than : (P : Grain → Bool) (g h : Grain) (among : Bool) → P g ≡ false → P h ≡ true → (grain_eq g h || among) ≡ true → among ≡ true
other_than P g h among none some =
    on_test (λ b. (b || among) ≡ true → among ≡ true) (grain_eq g h)
    (λ is _. absurd (true≢false (sym some ∙ ap P (sym ((grain_eq_decides g h).0 is)) ∙ none))) (λ _ e. e)

pub sender_left_out : (logic : Logic) (w : Whole) (g : Grain) (entries senders : List Grain) → delivery_of g (map.get w.accounts g.tenant) ≡ None → Covers logic w (record { entries = entries; senders = g ∷ senders })
    → Covers logic w (record { entries = entries; senders = senders })
sender_left_out logic w g entries senders none covers = record {
  entries = covers.entries;
  senders = λ h some. other_than (λ x. is_some (delivery_of x (map.get w.accounts x.tenant))) g h (is_among senders h) (ap is_some none) some (covers.senders h some);
}

-- ---- no candidate is left

not_some : (o : Option Step) → (is_some o ≡ true → false ≡ true) → o ≡ None
not_some None h = refl
not_some (Some s) h = absurd (true≢false (sym (h refl)))

pub nothing_to_do : NothingToDo
nothing_to_do logic w covers (Activate g) work = (nothing_at_entry logic w g (not_some _ (covers.entries g))).0
nothing_to_do logic w covers (Load g failed) work = (nothing_at_entry logic w g (not_some _ (covers.entries g))).1 failed (not-true failed work)
nothing_to_do logic w covers (Begin g) work = (nothing_at_entry logic w g (not_some _ (covers.entries g))).2
nothing_to_do logic w covers (Deliver g) work = nothing_to_deliver logic w g (not_some _ (covers.senders g))
nothing_to_do logic w covers _ work = absurd (true≢false (sym work))
