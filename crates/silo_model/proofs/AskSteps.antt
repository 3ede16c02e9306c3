-- What a refused line, a poke and a status come to: by what the whole has of the asker's tenant and at the grain.
use Rattle.silo_model.proofs.Common.{if◌then◌else◌, ◌++◌, ◌∙◌, ◌≡◌, ◌≢◌, Account, AcrossTenants, Bool, Change, Client, Context, Err, Fault}
use Rattle.silo_model.proofs.Common.{Grain, Logic, None, Ok, Option, Party, Poke, Refuse, Result, Row, RowFault, Some, Status}
use Rattle.silo_model.proofs.Common.{StorageFailed, Tree, UnknownKind, UnknownTenant, VersionsSpent, Whole, active_of, ap, change_at}
use Rattle.silo_model.proofs.Common.{context_at, context_of, effect_of, false, gate, only_replies, poke_settled, poked, refl, row_poked}
use Rattle.silo_model.proofs.Common.{row_told, shown_to, spent, spread, told, true, version_value, whole_step, ℕ}
use Rattle.std.specs.FinMap as map
use Rattle.silo_event.specs.Fault.{refusal_fault}
use Rattle.silo_event.specs.declared.refusal.Refusal.{Refusal}
use Rattle.silo_event.specs.declared.reply.Party.TheVariants as party
use Rattle.silo_model.specs.Asks.{refused, status_of, status_told}
use Rattle.silo_model.proofs.Contexts.{step_at_own, step_by_context}
use Rattle.silo_model.proofs.CallRule.{gate_across, gate_passed, gate_unknown_kind, gate_unknown_tenant}
use Rattle.silo_model.proofs.CallSteps.{spread-only_replies}

module _ (logic : Logic) (w : Whole) (caller : Client) (id : ℕ) where
  abbrev asker : Party
  asker = party.Client caller id

  abbrev told_whole : Result Tree Fault → Whole
  told_whole outcome = record w { replies = w.replies ++ told (party.Client caller id) outcome }

  -- ---- refused lines

  pub refuse_is : (code : Refusal) → whole_step logic w (Refuse caller id code) ≡ Some (told_whole (Err (refusal_fault code)))
  unfolding effect_of
  refuse_is code =
      step_by_context logic w (Refuse caller id code) caller.tenant None (Some (refused asker code)) refl refl refl
      ∙ ap Some (spread-only_replies w caller.tenant None asker (Err (refusal_fault code)))

  -- ---- status

  -- what the whole has of the tenant, at no grain
  abbrev tenant_context : Context
  tenant_context = record { tenant = caller.tenant; account = map.get w.accounts caller.tenant; clock = w.clock; active = active_of w caller.tenant; entry = None; row = None }

  status_by : (account : Option Account) → map.get w.accounts caller.tenant ≡ account → whole_step logic w (Status caller id) ≡ Some (spread w caller.tenant None (status_told tenant_context asker account))
  unfolding effect_of context_at shown_to
  status_by account known =
      step_by_context logic w (Status caller id) caller.tenant None (Some (status_told tenant_context asker account)) refl refl
      (ap (λ a. Some (status_told tenant_context asker a)) known)

  pub status_unknown_tenant : map.get w.accounts caller.tenant ≡ None → whole_step logic w (Status caller id) ≡ Some (told_whole (Err (UnknownTenant caller.tenant)))
  status_unknown_tenant none = status_by None none ∙ ap Some (spread-only_replies w caller.tenant None asker (Err (UnknownTenant caller.tenant)))

  pub status_is : (a : Account) → map.get w.accounts caller.tenant ≡ Some a → whole_step logic w (Status caller id) ≡ Some (told_whole (Ok (status_of tenant_context a)))
  status_is a known = status_by (Some a) known ∙ ap Some (spread-only_replies w caller.tenant None asker (Ok (status_of tenant_context a)))

  -- ---- pokes

  module _ (g : Grain) (state : Tree) (failed : Bool) where
    abbrev seen : Context
    seen = context_at (shown_to caller.tenant w) (Some g)

    poke_refused : (why : Fault) → gate logic seen seen.account g ≡ Err why → whole_step logic w (Poke failed caller id g state) ≡ Some (told_whole (Err why))
    unfolding effect_of poked
    poke_refused why is =
        step_by_context logic w (Poke failed caller id g state) caller.tenant (Some g) _ refl refl (ap (λ r. Some (poke_settled seen asker g state failed r)) is)
        ∙ ap Some (spread-only_replies w caller.tenant (Some g) asker (Err why))

    -- the asker's tenant isn't known
    pub poke_unknown_tenant : map.get w.accounts caller.tenant ≡ None → whole_step logic w (Poke failed caller id g state) ≡ Some (told_whole (Err (UnknownTenant caller.tenant)))
    unfolding context_at shown_to
    poke_unknown_tenant none = poke_refused (UnknownTenant caller.tenant) (gate_unknown_tenant logic seen g none)

    module _ (a : Account) (known : map.get w.accounts caller.tenant ≡ Some a) where
      -- the grain is another tenant's
      pub poke_across : g.tenant ≢ caller.tenant → whole_step logic w (Poke failed caller id g state) ≡ Some (told_whole (Err (AcrossTenants caller.tenant g.tenant)))
      unfolding context_at shown_to
      poke_across apart = poke_refused (AcrossTenants caller.tenant g.tenant) (gate_across logic seen g a known apart)

      module _ (own : g.tenant ≡ caller.tenant) where
        pub poke_unknown_kind : logic.knows g.kind ≡ false → whole_step logic w (Poke failed caller id g state) ≡ Some (told_whole (Err (UnknownKind g.kind)))
        unfolding context_at shown_to
        poke_unknown_kind unknown = poke_refused (UnknownKind g.kind) (gate_unknown_kind logic seen g a known own unknown)

        abbrev own_seen : Context
        own_seen = context_of w caller.tenant g

        module _ (knows : logic.knows g.kind ≡ true) where
          poke_passed : whole_step logic w (Poke failed caller id g state)
              ≡ Some (spread w caller.tenant (Some g) (if failed then only_replies (told asker (Err StorageFailed)) else row_told asker g (row_poked (map.get w.rows g) state)))
          unfolding effect_of poked
          poke_passed =
              step_at_own logic w (Poke failed caller id g state) caller.tenant g (Some (poke_settled own_seen asker g state failed (Ok a))) refl refl own
              (ap (λ r. Some (poke_settled own_seen asker g state failed r)) (gate_passed logic own_seen g a known own knows))

          -- the storage failed
          pub poke_failed : failed ≡ true → whole_step logic w (Poke failed caller id g state) ≡ Some (told_whole (Err StorageFailed))
          poke_failed is =
              poke_passed
              ∙ ap (λ b. Some (spread w caller.tenant (Some g) (if b then only_replies (told asker (Err StorageFailed)) else row_told asker g (row_poked (map.get w.rows g) state)))) is
              ∙ ap Some (spread-only_replies w caller.tenant (Some g) asker (Err StorageFailed))

          poke_answered : (r : Result (Option ℕ × Change Row) RowFault) → failed ≡ false → row_poked (map.get w.rows g) state ≡ r → whole_step logic w (Poke failed caller id g state) ≡ Some (spread w caller.tenant (Some g) (row_told asker g r))
          poke_answered r is answers =
              poke_passed
              ∙ ap (λ b. Some (spread w caller.tenant (Some g) (if b then only_replies (told asker (Err StorageFailed)) else row_told asker g (row_poked (map.get w.rows g) state)))) is
              ∙ ap (λ x. Some (spread w caller.tenant (Some g) (row_told asker g x))) answers

          -- the row has no version left
          pub poke_spent : failed ≡ false → row_poked (map.get w.rows g) state ≡ Err spent → whole_step logic w (Poke failed caller id g state) ≡ Some (told_whole (Err (VersionsSpent g)))
          poke_spent is answers = poke_answered (Err spent) is answers ∙ ap Some (spread-only_replies w caller.tenant (Some g) asker (Err (VersionsSpent g)))

          -- the row is overwritten, and its version is told
          pub poke_done : (version : Option ℕ) (row : Change Row) → failed ≡ false → row_poked (map.get w.rows g) state ≡ Ok (version, row)
              → whole_step logic w (Poke failed caller id g state) ≡ Some (record w { rows = change_at w.rows g row; replies = w.replies ++ told (party.Client caller id) (Ok (version_value version)) })
          unfolding spread
          poke_done version row is answers = poke_answered (Ok (version, row)) is answers
