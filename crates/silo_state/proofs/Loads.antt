-- What a load comes to, as a step of the whole.
use Rattle.std.proofs.Common.{◌≡◌, ℕ, ◌+◌, Bool, true, false, List, [], ◌∷◌, ◌++◌, Option, Some, None, refl, ap, sym, ◌∙◌}
use Rattle.std.specs.Prelude.{Ok, Err, flat_map, map as map_list}
use Rattle.std.specs.FinMap as map
use Rattle.grain_id.specs.Names.{Grain}
use Rattle.grain_storage.specs.Rows.{Rows, version_of, content_or}
use Rattle.grain_logic.specs.Logic.{Logic}
use Rattle.request_codec.specs.Tree.{Tree}
use Rattle.turn_mailbox.specs.declared.request.Request.{Request}
use Rattle.silo_event.specs.declared.fault.Fault.TheVariants.{StorageFailed}
use Rattle.silo_event.specs.declared.reply.Reply.{Reply}
use Rattle.silo_event.specs.declared.step.Answer.TheVariants.{Done, Failed}
use Rattle.silo_event.specs.declared.step.Step.TheVariants.{Load}
use Rattle.silo_model.specs.Machine.{Entry, Phase, waiting, loading, ready}
use Rattle.silo_model.specs.Calls.{reply_to}
use Rattle.silo_model.specs.Whole.{whole_step}
use Rattle.silo_model.proofs.EntrySteps.{load_waiting, load_ready, load_loading, load_fails}
use Rattle.silo_state.specs.inside.Activations.{Activations}
use Rattle.silo_state.specs.inside.Held.{Held}
use Rattle.silo_state.specs.Moves.{Moves}
use Rattle.silo_state.proofs.Steps.{times_of}
use Rattle.silo_state.specs.Shown.{request_of}
use Rattle.silo_state.specs.Reads.{refused, is_loading}

-- what the waiting requests are told, by the mailbox and by the entry
pub refused_shown : (waiting : List Request) → flat_map refused waiting ≡ flat_map (λ q. reply_to q.sender (Err StorageFailed)) (map_list request_of waiting)
refused_shown [] = refl
refused_shown (r ∷ rs) = ap (λ (told : List Reply). refused r ++ told) (refused_shown rs)

pub loads : (phase : Phase) → is_loading phase ≡ true → phase ≡ loading
loads waiting e = absurd cc
loads loading e = refl
loads (ready state version) e = absurd cc

module _ (logic : Logic) (h : Held) (g : Grain) where
  pub load_not : (failed : Bool) (e : Entry) → map.get h.whole.entries g ≡ Some e → is_loading e.phase ≡ false → whole_step logic h.whole (Load g failed) ≡ None
  load_not failed e found not = by e.phase refl not
    where
      by : (phase : Phase) → e.phase ≡ phase → is_loading phase ≡ false → whole_step logic h.whole (Load g failed) ≡ None
      by waiting is not = load_waiting logic h.whole g e found failed is
      by loading is not = absurd cc
      by (ready state version) is not = load_ready logic h.whole g e found failed state version is

  module _ (e : Entry) (found : map.get h.whole.entries g ≡ Some e) (is : e.phase ≡ loading) (new : Activations) (aged : new.times ≡ times_of h) where
    -- it is ready, with what its row gives
    pub load_moves : (replies : List Reply) → replies ≡ h.whole.replies → (failed : Bool) (state : Tree) (version : Option ℕ) (rows : Rows) (failures : ℕ) → failed ≡ false → new.entries ≡ map.insert h.whole.entries g (record e { phase = ready state version; until = 0; resting = false })
        → state ≡ content_or (logic.empty g.kind) (map.get h.whole.rows g) → version ≡ version_of (map.get h.whole.rows g) → rows ≡ h.whole.rows → failures ≡ h.failures
        → Moves logic h (Load g failed) (Ok Done) (record { whole = record h.whole { clock = new.times.clock; age = new.times.age; ages = new.times.ages; entries = new.entries; rows = rows; replies = replies }; failures = failures })
    load_moves replies room failed state version rows failures mark put s v r f = (
      ap (λ b. whole_step logic h.whole (Load g b)) mark
          ∙ load_loading logic h.whole g e found is
          ∙ (λ i. Some (record h.whole { clock = (sym aged i).clock; age = (sym aged i).age; ages = (sym aged i).ages; entries = sym (put ∙ (λ j. map.insert h.whole.entries g (record e { phase = ready (s j) (v j); until = 0; resting = false }))) i; rows = sym r i; replies = sym room i })),
      f,
    )

    module _ (replies : List Reply) (gone : new.entries ≡ map.remove h.whole.entries g) (told : replies ≡ h.whole.replies ++ flat_map (λ q. reply_to q.sender (Err StorageFailed)) e.queue) where
      unloaded : (rows : Rows) → rows ≡ h.whole.rows → whole_step logic h.whole (Load g true) ≡ Some (record h.whole { clock = new.times.clock; age = new.times.age; ages = new.times.ages; entries = new.entries; rows = rows; replies = replies })
      unloaded rows r = load_fails logic h.whole g e found is ∙ (λ i. Some (record h.whole { clock = (sym aged i).clock; age = (sym aged i).age; ages = (sym aged i).ages; entries = sym gone i; rows = sym r i; replies = sym told i }))

      -- as one whose storage call failed
      pub load_marked : (failed : Bool) → failed ≡ true → Moves logic h (Load g failed) (Ok Done) (record h { whole = record h.whole { clock = new.times.clock; age = new.times.age; ages = new.times.ages; entries = new.entries; replies = replies } })
      load_marked failed mark = (ap (λ b. whole_step logic h.whole (Load g b)) mark ∙ unloaded h.whole.rows refl, refl)

      -- the storage failed
      pub load_failed : (failed : Bool) (rows : Rows) (failures : ℕ) → rows ≡ h.whole.rows → failures ≡ h.failures + 1
          → Moves logic h (Load g failed) (Ok Failed) (record { whole = record h.whole { clock = new.times.clock; age = new.times.age; ages = new.times.ages; entries = new.entries; rows = rows; replies = replies }; failures = failures })
      load_failed failed rows failures r f = (refl, unloaded rows r, f)
