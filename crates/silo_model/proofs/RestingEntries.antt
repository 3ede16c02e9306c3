-- An entry that rests goes as soon as it is idle.
use Rattle.silo_model.proofs.Common.{◌&&◌, ◌++◌, ◌==◌, ◌∙◌, ◌∷◌, ◌≡◌, Bool, Change, End, Entry, Grain, Keep, List, Logic, None, Option}
use Rattle.silo_model.proofs.Common.{Phase, Plan, Request, Some, Whole, [], and_from, and_right, ap, change_at, closed_entry, drop, eq-eqb}
use Rattle.silo_model.proofs.Common.{false, false_from_ne_true, get-insert_same, get-none, grain_cmp_exact, grain_cmp_total, inl, inr}
use Rattle.silo_model.proofs.Common.{is_idle, length, nat_cmp-IsAntisymmetric, nat_cmp_total, none-some, outcome_of, plan_of, refl}
use Rattle.silo_model.proofs.Common.{reply_to, resting_by, stays_or_goes, sym, true, true≢false, whole_step, with_request, with_sends, ℕ}
use Rattle.std.specs.FinMap as map
use Rattle.std.proofs.lemmas.Bool.{and_left}
use Rattle.finite_maps.proofs.Maps.{get-remove_same}
use Rattle.grain_logic.specs.Logic.{rest}
use Rattle.silo_model.specs.Resting.{IsEnding, IsLast, RestingGoes, RestingIsUsed}
use Rattle.silo_model.proofs.Changes.{OfPut}
use Rattle.silo_model.proofs.Leaving.{idle_parts, resting_goes}
use Rattle.silo_model.proofs.IdleEntries.{idle_is}
use Rattle.silo_model.proofs.EffectKinds.{IsEntered, IsLeft, accepts, closes, goes, goes_on, opens, stays}
use Rattle.silo_model.proofs.EachEntry.{Puts, journal_each}
use Rattle.silo_model.specs.Opening.{awake}
use Rattle.silo_model.proofs.TurnSteps.{end_turn}
use Rattle.silo_model.proofs.SavedStates.{loads_row}

-- ---- no entry that rests is idle

-- it doesn't rest, or isn't idle
abbrev pub IsUsed : Entry → Type 0
IsUsed e = e.resting && is_idle e ≡ false

used_if_busy : (e : Entry) → (is_idle e ≡ true → ⊥) → IsUsed e
used_if_busy e busy = and_right e.resting (is_idle e) (false_from_ne_true (is_idle e) busy)

used_if_awake : (e : Entry) → e.resting ≡ false → IsUsed e
used_if_awake e awake = and_left e.resting (is_idle e) awake

some_waits : (queue : List Request) (q : Request) → queue ++ q ∷ [] ≡ [] → ⊥
some_waits [] q none = cc
some_waits (first ∷ queue) q none = cc

with_request_used : (clock : ℕ) (q : Request) (found : Option Entry) → IsUsed (with_request clock q found)
with_request_used clock q None = refl
with_request_used clock q (Some e) = used_if_busy (with_request clock q (Some e)) (λ idle. some_waits e.queue q (idle_parts (with_request clock q (Some e)) idle).1)

entered_used : (e : Entry) (phase : Phase) (until : ℕ) (resting : Bool) → IsEntered e phase until resting → IsUsed (record e { phase = phase; until = until; resting = resting })
entered_used e phase until resting (inl (unready, same_until, same_resting)) =
    let new : Entry = record e { phase = phase; until = until; resting = resting } in
    used_if_busy new (λ idle. true≢false (sym (idle_parts new idle).0 ∙ unready))
entered_used e phase until resting (inr (none, awake)) = used_if_awake (record e { phase = phase; until = until; resting = resting }) awake

begun_used : (e : Entry) (first : Request) (others : List Request) → IsUsed (record e { queue = others; turns = map.insert e.turns first.number first })
begun_used e first others =
    let new : Entry = record e { queue = others; turns = map.insert e.turns first.number first } in
    used_if_busy new (λ idle.
    none-some first
    (sym (get-none new.turns first.number (idle_parts new idle).2)
    ∙ get-insert_same nat_cmp_total nat_cmp-IsAntisymmetric e.turns first.number first))

left_used : (logic : Logic) (g : Grain) (e : Entry) (request : Request) (c : Change Entry) → IsLeft logic g e request c → OfPut IsUsed c
left_used logic g e request _ (stays new queue turns rests said) = said.busy
left_used logic g e request _ (goes none alone) = tt

puts_used : (logic : Logic) → Puts IsUsed logic
puts_used logic s step _ _ _ old (accepts p g call left a own remains known) = with_request_used s.clock _ s.entry
puts_used logic s step _ _ _ old (goes_on g e phase until resting found rests entered) = entered_used e phase until resting entered
puts_used logic s step _ _ _ old (opens g e first others found is_open queue may) = begun_used e first others
puts_used logic s step _ _ _ old (closes g turn e request left sends row outcome found open_turn is_left by_sends by_row) =
    left_used logic g e request left is_left
puts_used logic s step _ _ _ old _ = tt

pub resting_is_used : RestingIsUsed
resting_is_used logic setup journal w grain e leads found rests idle =
    true≢false (sym (and_from e.resting (is_idle e) rests (idle_is e idle)) ∙ journal_each IsUsed logic (puts_used logic) setup journal w (λ g k _. used_if_awake (awake k) refl) leads grain e found)

-- ---- the end of a turn that says something of the activation

module _ (logic : Logic) (w : Whole) (g : Grain) (turn : ℕ) (said : Keep) (ending : IsEnding logic w g turn said) where
  abbrev plan : Plan
  plan = plan_of logic g ending.state ending.request

  abbrev pub entry_left : Entry
  entry_left = closed_entry w.clock ending.entry ending.request plan.state ending.version plan.keep

  abbrev pub ended : Whole
  ended = record w {
    accounts = change_at w.accounts g.tenant (with_sends g (map.get w.accounts g.tenant) plan.sends);
    entries = change_at w.entries g (stays_or_goes entry_left);
    replies = w.replies ++ reply_to ending.request.sender (outcome_of plan.outcome);
  }

  pub end_is : whole_step logic w (End g turn) ≡ Some ended
  end_is = end_turn logic w g turn ending.entry ending.found ending.request ending.open_turn ending.state ending.version ending.phase plan refl ending.asks

-- ---- the end of the last turn

module _ (logic : Logic) (w : Whole) (g : Grain) (turn : ℕ) (ending : IsEnding logic w g turn rest) (last : IsLast ending.entry ending.request) where
  abbrev left : Entry
  left = entry_left logic w g turn rest ending

  left_idle : is_idle left ≡ true
  left_idle =
      and_from (length left.queue == 0) (map.len left.turns == 0) (ap (λ (queue : List Request). length queue == 0) last.nothing_waits)
      (eq-eqb (map.len left.turns) 0 last.no_other)

  left_goes : stays_or_goes left ≡ drop
  left_goes = resting_goes left (ap (λ said. resting_by said ending.entry.resting) ending.says) left_idle

  gone_is : map.get (ended logic w g turn rest ending).entries g ≡ None
  gone_is = ap (λ c. map.get (change_at w.entries g c) g) left_goes ∙ get-remove_same grain_cmp_total grain_cmp_exact w.entries g

pub resting_goes_at_end : RestingGoes
resting_goes_at_end logic w g turn ending last =
    let after = ended logic w g turn rest ending in
    (after, end_is logic w g turn rest ending, gone_is logic w g turn ending last, refl, loads_row logic after g)
