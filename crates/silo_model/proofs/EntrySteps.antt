-- When an entry is activated, loaded, and a turn of it begun: by what the whole has at the grain.
use Rattle.silo_model.proofs.Common.{if◌then◌else◌, ◌++◌, ◌∙◌, ◌∷◌, ◌≡◌, Activate, Begin, Bool, Effect, Entry, Err, Grain, List, Load}
use Rattle.silo_model.proofs.Common.{Logic, None, Option, Request, Some, StorageFailed, Tree, Whole, activated, ap, append-nil, content_or}
use Rattle.silo_model.proofs.Common.{context_of, effect_of, false, flat_map, loaded, loading, may_open, on_entry, opened, opened_if_ready}
use Rattle.silo_model.proofs.Common.{option_and_then, option_map, ready, refl, reply_to, spread, true, unloaded, version_of, waiting}
use Rattle.silo_model.proofs.Common.{whole_step, ℕ}
use Rattle.std.specs.FinMap as map
use Rattle.silo_model.proofs.Contexts.{step_at_own}

-- what is done to an entry that is there
pub at_entry : (does : Entry → Option Effect) (found : Option Entry) (e : Entry) (r : Option Effect) → found ≡ Some e → does e ≡ r → option_and_then does found ≡ r
at_entry does found e r is h = ap (option_and_then does) is ∙ h

-- an entry that is put, and nothing else
pub spread-on_entry : (w : Whole) (tenant : List ℕ) (g : Grain) (e : Entry) → spread w tenant (Some g) (on_entry e) ≡ record w { entries = map.insert w.entries g e }
unfolding spread
spread-on_entry w tenant g e = λ i. record w { entries = map.insert w.entries g e; replies = append-nil w.replies i }

module _ (logic : Logic) (w : Whole) (g : Grain) where
  -- a grain without an entry
  pub load_absent : (failed : Bool) → map.get w.entries g ≡ None → whole_step logic w (Load g failed) ≡ None
  unfolding effect_of
  load_absent failed none = step_at_own logic w (Load g failed) g.tenant g None refl refl refl (ap (option_and_then (λ e. loaded logic (context_of w g.tenant g) g failed e e.phase)) none)

module _ (logic : Logic) (w : Whole) (g : Grain) (e : Entry) (found : map.get w.entries g ≡ Some e) where
  -- ---- Activate

  pub activate_found : (r : Option Effect) → activated e e.phase ≡ r → whole_step logic w (Activate g) ≡ option_map (spread w g.tenant (Some g)) r
  unfolding effect_of
  activate_found r h = step_at_own logic w (Activate g) g.tenant g r refl refl refl (at_entry (λ x. activated x x.phase) (map.get w.entries g) e r found h)

  pub activate_does : (new : Entry) → activated e e.phase ≡ Some (on_entry new) → whole_step logic w (Activate g) ≡ Some (record w { entries = map.insert w.entries g new })
  activate_does new h = activate_found (Some (on_entry new)) h ∙ ap Some (spread-on_entry w g.tenant g new)

  -- an entry that waits begins to load
  pub activate_waiting : e.phase ≡ waiting → whole_step logic w (Activate g) ≡ Some (record w { entries = map.insert w.entries g (record e { phase = loading }) })
  activate_waiting is = activate_does (record e { phase = loading }) (ap (activated e) is)

  -- ---- Load

  pub load_found : (failed : Bool) (r : Option Effect) → loaded logic (context_of w g.tenant g) g failed e e.phase ≡ r → whole_step logic w (Load g failed) ≡ option_map (spread w g.tenant (Some g)) r
  unfolding effect_of
  load_found failed r h = step_at_own logic w (Load g failed) g.tenant g r refl refl refl (at_entry (λ x. loaded logic (context_of w g.tenant g) g failed x x.phase) (map.get w.entries g) e r found h)

  pub load_waiting : (failed : Bool) → e.phase ≡ waiting → whole_step logic w (Load g failed) ≡ None
  load_waiting failed is = load_found failed None (ap (loaded logic (context_of w g.tenant g) g failed e) is)

  pub load_ready : (failed : Bool) (state : Tree) (version : Option ℕ) → e.phase ≡ ready state version → whole_step logic w (Load g failed) ≡ None
  load_ready failed state version is = load_found failed None (ap (loaded logic (context_of w g.tenant g) g failed e) is)

  abbrev loaded_entry : Entry
  loaded_entry = record e { phase = ready (content_or (logic.empty g.kind) (map.get w.rows g)) (version_of (map.get w.rows g)); until = 0; resting = false }

  -- an entry that loads gets the row's content, or the kind's empty state
  pub load_loading : e.phase ≡ loading
      → whole_step logic w (Load g false) ≡ Some (record w {
        entries = map.insert w.entries g (record e {
          phase = ready (content_or (logic.empty g.kind) (map.get w.rows g)) (version_of (map.get w.rows g));
          until = 0;
          resting = false;
        });
      })
  load_loading is =
      load_found false (Some (on_entry loaded_entry)) (ap (loaded logic (context_of w g.tenant g) g false e) is)
      ∙ ap Some (spread-on_entry w g.tenant g loaded_entry)

  -- where the storage failed, each request that waits is told so, and the entry goes
  pub load_fails : e.phase ≡ loading → whole_step logic w (Load g true) ≡ Some (record w { entries = map.remove w.entries g; replies = w.replies ++ flat_map (λ q. reply_to q.sender (Err StorageFailed)) e.queue })
  unfolding spread
  load_fails is = load_found true (Some (unloaded e)) (ap (loaded logic (context_of w g.tenant g) g true e) is)

  -- ---- Begin

  pub begin_found : (r : Option Effect) → opened_if_ready logic g e e.phase ≡ r → whole_step logic w (Begin g) ≡ option_map (spread w g.tenant (Some g)) r
  unfolding effect_of
  begin_found r h = step_at_own logic w (Begin g) g.tenant g r refl refl refl (at_entry (λ x. opened_if_ready logic g x x.phase) (map.get w.entries g) e r found h)

  pub begin_does : (new : Entry) → opened_if_ready logic g e e.phase ≡ Some (on_entry new) → whole_step logic w (Begin g) ≡ Some (record w { entries = map.insert w.entries g new })
  begin_does new h = begin_found (Some (on_entry new)) h ∙ ap Some (spread-on_entry w g.tenant g new)

  abbrev with_turn : Request → List Request → Entry
  with_turn first others = record e { queue = others; turns = map.insert e.turns first.number first }

  -- the first waiting request becomes an open turn
  pub begin_first : (state : Tree) (version : Option ℕ) (first : Request) (others : List Request) → e.phase ≡ ready state version → e.queue ≡ first ∷ others → may_open logic g e first ≡ true
      → whole_step logic w (Begin g) ≡ Some (record w { entries = map.insert w.entries g (record e { queue = others; turns = map.insert e.turns first.number first }) })
  begin_first state version first others is queue test =
      begin_does (with_turn first others) (ap (opened_if_ready logic g e) is ∙ ap (opened logic g e) queue ∙ ap (λ b. if b then Some (on_entry (with_turn first others)) else None) test)
