-- How an entry comes to be ready and its turns are opened, as steps of the machine.
use Rattle.silo_model.proofs.Common.{◌++◌, ◌∙◌, ◌≡◌, Activate, Begin, Bool, Entries, Entry, Err, Grain, List, Load, Logic, Machine, None, Ok, Option, Phase, Reply, Result, Rows, Some, StorageFailed, Tree, activated, ap, append-nil, applied, content_or, context_at, effect_of, false, flat_map, loaded, loading, machine_step, on_entry, opened_if_ready, option_and_then, option_map, ready, refl, reply_to, sym, true, version_of, waiting, ℕ}
use Rattle.std.specs.Prelude.{IfOk, OnErr}
use Rattle.std.specs.FinMap as map
use Rattle.silo_state.specs.Entries.{Starts, Opens, Begins}
use Rattle.silo_state.specs.Reads.{is_loading}
use Rattle.tenant_machine.specs.Machines.{StepAnswers}
use Rattle.tenant_machine.specs.inside.Requests.{seen_at}

module _ (logic : Logic) (m : Machine) (g : Grain) where
  -- the machine with other entries
  abbrev pub with_entries : Entries → Machine
  with_entries entries = record m { entries = entries }

  entry_put : (e : Entry) → applied m (Some g) (on_entry e) ≡ with_entries (map.insert m.entries g e)
  unfolding applied
  entry_put e = λ i. record m { entries = map.insert m.entries g e; replies = append-nil m.replies i }

  -- ---- activating

  pub activate_done : (new : Entries) → Starts m.entries g new → machine_step logic m (Activate g) ≡ Some (with_entries new)
  unfolding machine_step effect_of context_at
  activate_done new d =
      ap (λ o. option_map (applied m (Some g)) (option_and_then (λ (e : Entry). activated e e.phase) o)) d.found
      ∙ ap (λ p. option_map (applied m (Some g)) (activated d.before p)) d.waits
      ∙ ap Some (entry_put (record d.before { phase = loading }) ∙ ap with_entries (sym d.put))

  activate_not : option_and_then (λ e. activated e e.phase) (map.get m.entries g) ≡ None → machine_step logic m (Activate g) ≡ None
  unfolding machine_step effect_of context_at
  activate_not none = ap (option_map (applied m (Some g))) none

  pub activate_stays : (new : Entries) → (option_and_then (λ e. activated e e.phase) (map.get m.entries g) ≡ None) × (new ≡ m.entries) → (machine_step logic m (Activate g) ≡ None) × (with_entries new ≡ m)
  activate_stays new d = (activate_not d.0, ap with_entries d.1)

  -- ---- opening a turn

  begin_done : (new : Entries) → Opens logic m.entries g new → machine_step logic m (Begin g) ≡ Some (with_entries new)
  unfolding machine_step effect_of context_at
  begin_done new d =
      ap (λ o. option_map (applied m (Some g)) (option_and_then (λ (e : Entry). opened_if_ready logic g e e.phase) o)) d.found
      ∙ ap (option_map (applied m (Some g))) d.does
      ∙ ap Some (entry_put d.after ∙ ap with_entries (sym d.put))

  begin_not : option_and_then (λ e. opened_if_ready logic g e e.phase) (map.get m.entries g) ≡ None → machine_step logic m (Begin g) ≡ None
  unfolding machine_step effect_of context_at
  begin_not none = ap (option_map (applied m (Some g))) none

  pub begins : {E : Type 0} (result : Result Bool E) (new : Entries) → IfOk result (λ opened. Begins logic m.entries g opened new) → OnErr result (new ≡ m.entries) → StepAnswers logic m (Begin g) result (with_entries new)
  begins (Ok true) new d k = begin_done new d
  begins (Ok false) new d k = (begin_not d.0, ap with_entries d.1)
  begins (Err e) new d k = ap with_entries k

  -- ---- loading

  module _ (failed : Bool) where
    load_at : (found : Option Entry) → map.get m.entries g ≡ found → machine_step logic m (Load g failed) ≡ option_map (applied m (Some g)) (option_and_then (λ e. loaded logic (seen_at m g) g failed e e.phase) found)
    unfolding machine_step effect_of context_at
    load_at found is = ap (λ o. option_map (applied m (Some g)) (option_and_then (λ (e : Entry). loaded logic (seen_at m g) g failed e e.phase) o)) is

    pub load_absent : map.get m.entries g ≡ None → machine_step logic m (Load g failed) ≡ None
    load_absent is = load_at None is

    module _ (e : Entry) (found : map.get m.entries g ≡ Some e) where
      not_loading : (phase : Phase) → is_loading phase ≡ false → loaded logic (seen_at m g) g failed e phase ≡ None
      not_loading waiting not = refl
      not_loading loading not = absurd cc
      not_loading (ready state version) not = refl

      pub load_not : is_loading e.phase ≡ false → machine_step logic m (Load g failed) ≡ None
      load_not not = load_at (Some e) found ∙ ap (option_map (applied m (Some g))) (not_loading e.phase not)

      module _ (is : e.phase ≡ loading) (new : Entries) where
        loads_as : (b : Bool) → failed ≡ b → machine_step logic m (Load g failed) ≡ option_map (applied m (Some g)) (loaded logic (seen_at m g) g b e loading)
        loads_as b mark = load_at (Some e) found ∙ (λ i. option_map (applied m (Some g)) (loaded logic (seen_at m g) g (mark i) e (is i)))

        -- it is ready, with what its row gives
        pub load_done : failed ≡ false → (state : Tree) (version : Option ℕ) (rows : Rows) → new ≡ map.insert m.entries g (record e { phase = ready state version; until = 0; resting = false })
            → state ≡ content_or (logic.empty g.kind) (map.get m.rows g) → version ≡ version_of (map.get m.rows g) → rows ≡ m.rows → machine_step logic m (Load g failed) ≡ Some (record m { entries = new; rows = rows })
        load_done mark state version rows put s v r =
            loads_as false mark
            ∙ ap Some (entry_put (record e { phase = ready (content_or (logic.empty g.kind) (map.get m.rows g)) (version_of (map.get m.rows g)); until = 0; resting = false }))
            ∙ (λ i. Some (record m { entries = sym (put ∙ (λ j. map.insert m.entries g (record e { phase = ready (s j) (v j); until = 0; resting = false }))) i; rows = sym r i }))

        -- the storage failed
        pub load_failed : failed ≡ true → (replies : List Reply) → new ≡ map.remove m.entries g → replies ≡ m.replies ++ flat_map (λ q. reply_to q.sender (Err StorageFailed)) e.queue
            → machine_step logic m (Load g failed) ≡ Some (record m { entries = new; replies = replies })
        unfolding applied
        load_failed mark replies gone told = loads_as true mark ∙ (λ i. Some (record m { entries = sym gone i; replies = sym told i }))
