-- How the open turns of all grains change where a step is done.
use Rattle.silo_model.proofs.Common.{◌∙◌, ◌≡◌, ◌≢◌, ◌⊎◌, Account, Begin, Bool, Change, Effect, Entry, Grain, List, Logic, None, Option}
use Rattle.silo_model.proofs.Common.{ReadersAskNothing, Request, Some, Step, Whole, ap, change_option, changed_at, cond, context_at, drop}
use Rattle.silo_model.proofs.Common.{eq_by_cmp, eq_by_cmp-Decides, false, get-none, grain_cmp, grain_cmp_exact, grain_cmp_total, grain_of}
use Rattle.silo_model.proofs.Common.{inl, inr, is_kept, keep, kept_entries, kind_age, none-some, put, refl, same_Some, shown_to, spread}
use Rattle.silo_model.proofs.Common.{subst, sym, true, whole_step, ℕ}
use Rattle.std.proofs.Common.{⊎_elim}
use Rattle.std.specs.FinMap as map
use Rattle.silo_model.proofs.Changes.{WhereChanged, get-change_other, get-change_same}
use Rattle.silo_model.proofs.Moves.{ClosesTurn, KeepsTurns, OpensTurn, TurnsMove, does_moves, turn_in}
use Rattle.silo_model.proofs.StepMoves.{IsFairMachine, due_is_bare, sees_fair}
use Rattle.silo_model.proofs.Contexts.{seen_own}
use Rattle.silo_model.proofs.SharedSteps.{AgeOf, after_shared, get-kept}
use Rattle.silo_model.proofs.Sound.{IsSound}
use Rattle.silo_model.proofs.Tests.{either_way}
use Rattle.silo_model.proofs.Proper.{IsAt}
use Rattle.silo_model.proofs.Isolation.{Did, by_owner, did, did_does, did_proper, place_in}

abbrev pub AllFair : Logic → Whole → Type 0
AllFair logic w = (tenant : List ℕ) → IsFairMachine logic (shown_to tenant w)

-- what the owner sees at the place
abbrev seen_in : Whole → List ℕ → Option Grain → Option Entry
seen_in w owner place = (context_at (shown_to owner w) place).entry

-- the turns of a grain, where its entry stays
stays : {old new : Option Entry} → new ≡ old → KeepsTurns old new
stays same n q open_turn = ap (λ o. turn_in o n) same ∙ open_turn

-- a grain's turns stay, or the step is at the grain and they move by it
abbrev Turned : Logic → Step → Grain → Option Entry → Option Entry → Type 0
Turned logic s h old new = KeepsTurns old new ⊎ (((a : Option Account) × (grain_of a s ≡ Some h)) × TurnsMove logic s old new)

-- ---- a step of a tenant

module _ (logic : Logic) (s : Step) (w : Whole) (owner : List ℕ) (e : Effect) where
  -- the turns that the owner sees at the place move by the step
  abbrev MovesSeen : Option Grain → Type 0
  MovesSeen place = TurnsMove logic s (seen_in w owner place) (change_option (seen_in w owner place) e.entry)

  turns_at : (g : Grain) → g.tenant ≡ owner → MovesSeen (Some g)
      → TurnsMove logic s (map.get w.entries g) (map.get (spread w owner (Some g) e).entries g)
  unfolding spread
  turns_at g own moves =
      subst (TurnsMove logic s (map.get w.entries g)) (sym (get-change_same grain_cmp_total grain_cmp_exact w.entries g e.entry))
      (subst (λ o. TurnsMove logic s o (change_option o e.entry)) (seen_own w owner g own) moves)

  module _ (h : Grain) where
    abbrev TurnedBy : Option Grain → Type 0
    TurnedBy place = Turned logic s h (map.get w.entries h) (map.get (spread w owner place e).entries h)

    move_there : (a : Option Account) (g : Grain) → grain_of a s ≡ Some g → h ≡ g → g.tenant ≡ owner → MovesSeen (Some g)
        → TurnedBy (Some g)
    move_there a g at same own moves =
        subst (λ (k : Grain). Turned logic s k (map.get w.entries k) (map.get (spread w owner (Some g) e).entries k)) (sym same)
        (inr ((a, at), turns_at g own moves))

    by_change : (a : Option Account) (g : Grain) (c : Change Entry) → grain_of a s ≡ Some g → e.entry ≡ c → h ≡ g
        → WhereChanged c (g.tenant ≡ owner) → MovesSeen (Some g) → TurnedBy (Some g)
    unfolding spread
    by_change a g keep at is same own moves = inl (stays (ap (λ c. map.get (changed_at w.entries (Some g) c) h) is))
    by_change a g (put x) at is same own moves = move_there a g at same own moves
    by_change a g drop at is same own moves = move_there a g at same own moves

    turned_at : (a : Option Account) (place : Option Grain) → grain_of a s ≡ place → WhereChanged e.entry (IsAt owner place)
        → MovesSeen place → TurnedBy place
    unfolding spread
    turned_at a None at own moves = inl (stays refl)
    turned_at a (Some g) at own moves =
        either_way (eq_by_cmp grain_cmp h g)
        (λ tied. by_change a g e.entry at refl ((eq_by_cmp-Decides grain_cmp_total grain_cmp_exact h g).0 tied) own moves)
        (λ apart. inl (stays (get-change_other grain_cmp_total grain_cmp_exact w.entries g h e.entry apart)))

module _ (logic : Logic) (law : ReadersAskNothing logic) (w after : Whole) (s : Step) (sound : IsSound w) (fair : AllFair logic w)
    (step : whole_step logic w s ≡ Some after) where
  moves_seen : (owner : List ℕ) (d : Did logic w s owner after) → MovesSeen logic s w owner d.what (place_in w owner s)
  moves_seen owner d =
      let place = place_in w owner s in
      let seen = sees_fair logic (shown_to owner w) place (fair owner) in
      (does_moves logic law (context_at (shown_to owner w) place) s seen (did_does logic w after s owner d)).turns

  -- ---- a step of nobody

  kept_turn : (clock age : ℕ) (o : Option Entry) (b : Bool) → is_kept clock age o ≡ b → KeepsTurns o (cond b o None)
  kept_turn clock age o true is n q open_turn = open_turn
  kept_turn clock age None false is n q open_turn = open_turn
  kept_turn clock age (Some e) false is n q open_turn = absurd (none-some q (sym (get-none e.turns n (due_is_bare clock age e is).1) ∙ open_turn))

  sweep_keeps : (age_of : AgeOf) (h : Grain) → KeepsTurns (map.get w.entries h) (map.get (kept_entries w.clock age_of w.entries) h)
  sweep_keeps age_of h n q open_turn =
      ap (λ o. turn_in o n) (get-kept w.clock age_of w.entries h)
      ∙ kept_turn w.clock (age_of h.kind) (map.get w.entries h) (is_kept w.clock (age_of h.kind) (map.get w.entries h)) refl n q open_turn

  -- ---- every step

  turned : (h : Grain) → Turned logic s h (map.get w.entries h) (map.get after.entries h)
  turned h =
      by_owner logic w after s (Turned logic s h (map.get w.entries h) (map.get after.entries h)) step
      (λ _ nobodys.
      inl (after_shared w after (λ x. KeepsTurns (map.get w.entries h) (map.get x.entries h)) (λ now on n q open_turn. open_turn)
      (sweep_keeps (kind_age w.ages w.age) h) s nobodys))
      (λ owner is d.
      subst (λ (x : Whole). Turned logic s h (map.get w.entries h) (map.get x.entries h)) d.leaves
      (turned_at logic s w owner d.what h (map.get w.accounts owner) (place_in w owner s) refl
      (did_proper logic w after s owner is sound d).entry (moves_seen owner d)))

  -- a step that closes no turn leaves each open
  pub keeps_turns : ((old new : Option Entry) → TurnsMove logic s old new → KeepsTurns old new) → (h : Grain) → KeepsTurns (map.get w.entries h) (map.get after.entries h)
  keeps_turns keeps h = ⊎_elim (λ same. same) (λ moved. keeps _ _ moved.1) (turned h)

  -- and one that closes a turn each other
  pub closes_turn : (g : Grain) (turn : ℕ) → ((a : Option Account) → grain_of a s ≡ Some g)
      → ((old new : Option Entry) → TurnsMove logic s old new → ClosesTurn turn old new)
      → (h : Grain) (n : ℕ) (q : Request) → (h ≡ g → n ≢ turn) → turn_in (map.get w.entries h) n ≡ Some q
      → turn_in (map.get after.entries h) n ≡ Some q
  closes_turn g turn at closes h n q apart open_turn =
      ⊎_elim (λ same. same n q open_turn)
      (λ moved. closes _ _ moved.1 n q (apart (same_Some h g (sym moved.0.1 ∙ at moved.0.0))) open_turn) (turned h)

-- a Begin that is done opens the turn of the first that waits
pub begin_opens : (logic : Logic) → ReadersAskNothing logic → (w after : Whole) (g : Grain) → IsSound w → AllFair logic w → whole_step logic w (Begin g) ≡ Some after → OpensTurn logic g (map.get w.entries g) (map.get after.entries g)
begin_opens logic law w after g sound fair step =
    let done = did logic w after (Begin g) g.tenant refl step in
    subst (λ (x : Whole). OpensTurn logic g (map.get w.entries g) (map.get x.entries g)) done.leaves
    (turns_at logic (Begin g) w g.tenant done.what g refl (moves_seen logic law w after (Begin g) sound fair step g.tenant done))
