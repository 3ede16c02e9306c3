-- What replies, refused lines and pokes come to, as steps of the whole.
use Rattle.std.proofs.Common.{◌≡◌, ℕ, Bool, true, false, not, List, ◌++◌, Option, Some, None, refl, ap, sym, ◌∙◌, subst, arith}
use Rattle.std.specs.Prelude.{Result, Ok, Err, if◌then◌else◌, nat_eq}
use Rattle.std.specs.FinMap as map
use Rattle.std.proofs.lemmas.Bool.Decides.{nat_tests}
use Rattle.grain_id.specs.Names.{Grain, Client}
use Rattle.request_codec.specs.Tree.{Tree}
use Rattle.grain_storage.specs.declared.row.Row.{Row}
use Rattle.grain_storage.specs.Rows.{Rows, stale, spent, is_spent, version_of, changed, written, poked}
use Rattle.silo_event.specs.declared.fault.Fault.{Fault}
use Rattle.silo_event.specs.declared.fault.Fault.TheVariants.{StorageFailed, VersionsSpent}
use Rattle.silo_event.specs.declared.reply.Party.{Party}
use Rattle.silo_event.specs.declared.reply.Party.TheVariants as party
use Rattle.silo_event.specs.declared.reply.Reply.{Reply}
use Rattle.silo_event.specs.declared.step.Step.{Step}
use Rattle.silo_event.specs.declared.step.Step.TheVariants.{Poke}
use Rattle.silo_event.specs.declared.step.Answer.{Answer}
use Rattle.silo_event.specs.declared.step.Answer.TheVariants.{Done, Failed, NotNow}
use Rattle.grain_logic.specs.Logic.{Logic}
use Rattle.silo_model.specs.Machine.{Account}
use Rattle.silo_model.specs.Calls.{told}
use Rattle.silo_model.specs.Stores.{row_poked, version_value}
use Rattle.silo_model.specs.Whole.{Whole, whole_step}
use Rattle.silo_model.proofs.Stored.{stores_at_one_row}
use Rattle.silo_model.proofs.AskSteps.{poke_unknown_tenant, poke_across, poke_unknown_kind, poke_failed, poke_spent, poke_done}
use Rattle.silo_state.specs.inside.Held.{Held}
use Rattle.silo_state.specs.Moves.{Moves}
use Rattle.silo_state.specs.inside.Requests.{with_told}
use Rattle.silo_state.specs.inside.Overwrites.{Overwrites}
use Rattle.silo_state.specs.Verdicts.{gated}
use Rattle.silo_state.proofs.Verdicts.{gated-cases}
use Rattle.silo_state.proofs.AtRows.{done_at, refused_at}

-- a step that only tells
pub told_moves : (logic : Logic) (h new : Held) (s : Step) (recipient : Party) (outcome : Result Tree Fault)
    → whole_step logic h.whole s ≡ Some (record h.whole { replies = h.whole.replies ++ told recipient outcome }) → new ≡ with_told h recipient outcome
    → (whole_step logic h.whole s ≡ Some new.whole) × (new.failures ≡ h.failures)
told_moves logic h new s recipient outcome step is = (step ∙ ap (λ (x : Held). Some x.whole) (sym is), ap (λ (x : Held). x.failures) is)

-- ---- pokes

-- a poke expects what is there
either_not_stale : {A : Type 0} (b : Bool) (x : A) (found : Option ℕ) → (if b then Err spent else Ok x) ≡ Err (stale found) → ⊥
either_not_stale true x found e = cc (e)
either_not_stale false x found e = cc (e)

same_number : (n : ℕ) → nat_eq n n ≡ true
same_number n = grind (arith, nat_tests)

changed_not_stale : {A : Type 0} (row : Option Row) (x : A) (found : Option ℕ) → changed (version_of row) row x ≡ Err (stale found) → ⊥
changed_not_stale None x found e = cc (e)
changed_not_stale (Some row) x found e =
    either_not_stale (is_spent (Some row)) x found (subst (λ b. (if not b then Err (stale (Some row.version)) else if is_spent (Some row) then Err spent else Ok x) ≡ Err (stale found)) (same_number row.version) e)

pub never_stale : (rows : Rows) (g : Grain) (content : Tree) (found : Option ℕ) → poked rows g content ≡ Err (stale found) → ⊥
unfolding poked written
never_stale rows g content found e = changed_not_stale (map.get rows g) _ found e

module _ (logic : Logic) (w : Whole) (caller : Client) (id : ℕ) (g : Grain) (state : Tree) (failed : Bool) where
  abbrev told_whole : Result Tree Fault → Whole
  told_whole outcome = record w { replies = w.replies ++ told (party.Client caller id) outcome }

  -- what the gate refuses, or that the poke passed
  abbrev GateSays : Result Account Fault → Type 0
  GateSays (Ok a) = (map.get w.accounts caller.tenant ≡ Some a) × (g.tenant ≡ caller.tenant) × (logic.knows g.kind ≡ true)
  GateSays (Err why) = whole_step logic w (Poke failed caller id g state) ≡ Some (told_whole (Err why))

  gate_says : GateSays (gated logic w caller.tenant g)
  gate_says = gated-cases logic w caller.tenant g GateSays
      (poke_unknown_tenant logic w caller id g state failed)
      (poke_across logic w caller id g state failed)
      (poke_unknown_kind logic w caller id g state failed)
      (λ a known own knows. (known, own, knows))

  pub poke_stopped : (why : Fault) → gated logic w caller.tenant g ≡ Err why → whole_step logic w (Poke failed caller id g state) ≡ Some (told_whole (Err why))
  poke_stopped why is = subst GateSays is gate_says

  module _ (a : Account) (passes : gated logic w caller.tenant g ≡ Ok a) where
    passed : GateSays (Ok a)
    passed = subst GateSays passes gate_says

    pub poke_marked : failed ≡ true → whole_step logic w (Poke failed caller id g state) ≡ Some (told_whole (Err StorageFailed))
    poke_marked is = poke_failed logic w caller id g state failed a passed.0 passed.1 passed.2 is

    pub poke_stored : (version : Option ℕ) (after : Rows) → poked w.rows g state ≡ Ok (version, after) → failed ≡ false
        → whole_step logic w (Poke failed caller id g state) ≡ Some (record w { rows = after; replies = w.replies ++ told (party.Client caller id) (Ok (version_value version)) })
    poke_stored version after is no_mark =
        let done = done_at w.rows g (row_poked (map.get w.rows g) state) version after (sym (stores_at_one_row.pokes w.rows g state) ∙ is) in
        poke_done logic w caller id g state failed a passed.0 passed.1 passed.2 version done.row no_mark done.answer
        ∙ (λ i. Some (record w { rows = done.rows_are i; replies = w.replies ++ told (party.Client caller id) (Ok (version_value version)) }))

    pub poke_refused : poked w.rows g state ≡ Err spent → failed ≡ false → whole_step logic w (Poke failed caller id g state) ≡ Some (told_whole (Err (VersionsSpent g)))
    poke_refused is no_mark =
        poke_spent logic w caller id g state failed a passed.0 passed.1 passed.2 no_mark
        (refused_at w.rows g (row_poked (map.get w.rows g) state) spent (sym (stores_at_one_row.pokes w.rows g state) ∙ is))

module _ (logic : Logic) (h : Held) (caller : Client) (id : ℕ) (g : Grain) (state : Tree) (failed : Bool) (a : Account) (passes : gated logic h.whole caller.tenant g ≡ Ok a) (no_mark : failed ≡ false) where
  abbrev left : Rows → List Reply → ℕ → Held
  left rows replies count = record { whole = record h.whole { rows = rows; replies = replies }; failures = count }

  -- what a poke that passed comes to
  pub poke_moves : (answer : Answer) (outcome : Result Tree Fault) (rows : Rows) (count : ℕ) (replies : List Reply) → Overwrites h.whole.rows h.failures g state answer outcome rows count
      → replies ≡ h.whole.replies ++ told (party.Client caller id) outcome → Moves logic h (Poke failed caller id g state) (Ok answer) (left rows replies count)
  poke_moves Done (Ok v) rows count replies o is = (
    poke_stored logic h.whole caller id g state failed a passes o.0 rows o.1 no_mark
        ∙ (λ i. Some (record h.whole { rows = rows; replies = h.whole.replies ++ told (party.Client caller id) (Ok (sym o.2 i)) }))
        ∙ (λ i. Some (record h.whole { rows = rows; replies = sym is i })),
    o.3,
  )
  poke_moves Done (Err why) rows count replies o is = (
    poke_refused logic h.whole caller id g state failed a passes o.0 no_mark
        ∙ (λ i. Some (record h.whole { rows = sym o.2 i; replies = h.whole.replies ++ told (party.Client caller id) (Err (sym o.1 i)) }))
        ∙ (λ i. Some (record h.whole { rows = rows; replies = sym is i })),
    o.3,
  )
  poke_moves Failed (Ok v) rows count replies o is = absurd o
  poke_moves Failed (Err why) rows count replies o is = (
    refl,
    poke_marked logic h.whole caller id g state true a passes refl
        ∙ (λ i. Some (record h.whole { rows = sym o.1 i; replies = h.whole.replies ++ told (party.Client caller id) (Err (sym o.0 i)) }))
        ∙ (λ i. Some (record h.whole { rows = rows; replies = sym is i })),
    o.2,
  )
  poke_moves NotNow outcome rows count replies o is = absurd o
