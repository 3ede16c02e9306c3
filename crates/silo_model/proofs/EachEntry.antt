-- What holds of every entry along a run: of each that a step puts, where it held of the entry that the step sees.
use Rattle.silo_model.proofs.Common.{◌∙◌, ◌≡◌, Change, Context, Effect, Entry, Grain, LeadsTo, List, Logic, None, Option, Setup, Some, Step}
use Rattle.silo_model.proofs.Common.{Whole, context_at, drop, get-part, grain_cmp, grain_cmp_exact, grain_cmp_total, is_of, keep, none-some}
use Rattle.silo_model.proofs.Common.{opening, put, shown_to, some_if_passes, spread, subst, sym, whole_step, ℕ}
use Rattle.std.specs.FinMap as map
use Rattle.silo_model.proofs.Changes.{OfPut, OfPutAt, changed_all}
use Rattle.silo_model.proofs.SharedSteps.{shared_leaves}
use Rattle.silo_model.proofs.EffectKinds.{Does, Role, role_of}
use Rattle.silo_model.proofs.Isolation.{by_owner, did_does, place_in}
use Rattle.silo_model.proofs.Journals.{all_keep}
use Rattle.silo_model.specs.Opening.{KeptGrain, awake}
use Rattle.silo_model.proofs.Opening.{woken}

-- what an owner sees at a grain is an entry there
pub seen_there : (w : Whole) (owner : List ℕ) (g : Grain) (e : Entry) → (context_at (shown_to owner w) (Some g)).entry ≡ Some e → map.get w.entries g ≡ Some e
unfolding context_at shown_to
seen_there w owner g e found = (some_if_passes (is_of owner g) (map.get w.entries g) e (sym (get-part w.entries (is_of owner) g) ∙ found)).1

module _ (P : Entry → Type 0) where
  abbrev pub Each : Whole → Type 0
  Each w = (g : Grain) (e : Entry) → map.get w.entries g ≡ Some e → P e

  -- a step puts only such entries, where it sees such a one
  abbrev pub Puts : Logic → Type 0
  Puts logic = (s : Context) (step : Step) (role : Role) (grain : Option Grain) (e : Effect) → ((x : Entry) → s.entry ≡ Some x → P x)
      → Does logic s step role grain e → OfPut P e.entry

  sees : (w : Whole) (owner : List ℕ) (grain : Option Grain) → Each w → (x : Entry) → (context_at (shown_to owner w) grain).entry ≡ Some x → P x
  unfolding context_at shown_to
  sees w owner None each x found = absurd (none-some x found)
  sees w owner (Some g) each x found = each g x (seen_there w owner g x found)

  put_at : (grain : Option Grain) (c : Change Entry) → OfPut P c → OfPutAt (λ (g : Grain). P) grain c
  put_at grain keep h = tt
  put_at None (put x) h = tt
  put_at (Some g) (put x) h = h
  put_at grain drop h = tt

  module _ (logic : Logic) (puts : Puts logic) where
    pub step_each : (w after : Whole) (s : Step) → Each w → whole_step logic w s ≡ Some after → Each after
    unfolding spread
    step_each w after s each h =
        by_owner logic w after s (Each after) h (λ _ nobodys g e found. each g e ((shared_leaves w after s nobodys).entries g e found))
        (λ owner is d.
        let place = place_in w owner s in
        let seen = sees w owner place each in
        let put = puts (context_at (shown_to owner w) place) s (role_of s) place d.what seen (did_does logic w after s owner d) in
        subst Each d.leaves
        (changed_all grain_cmp_total grain_cmp_exact (λ (g : Grain). P) w.entries place d.what.entry each (put_at place d.what.entry put)))

    -- it holds of each grain that was kept
    abbrev pub OfKept : Setup → Type 0
    OfKept setup = (g : Grain) (k : KeptGrain) → map.get setup.kept.grains g ≡ Some k → P (awake k)

    at_first : (setup : Setup) → OfKept setup → Each (opening setup)
    unfolding opening
    at_first setup kept g e found = let k = woken setup.kept.grains g e found in subst P k.2 (kept g k.0 k.1)

    pub journal_each : (setup : Setup) (journal : List Step) (w : Whole) → OfKept setup → LeadsTo logic setup journal w → Each w
    journal_each setup journal w kept leads = all_keep (whole_step logic) Each step_each (opening setup) w journal (at_first setup kept) leads
