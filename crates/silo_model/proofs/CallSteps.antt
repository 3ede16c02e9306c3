-- How a call is accepted or refused: by what the whole has of the caller's tenant and at the grain.
use Rattle.silo_model.proofs.Common.{◌++◌, ◌+◌, ◌==◌, ◌∙◌, ◌∷◌, ◌≡◌, ◌≢◌, Account, AcrossTenants, Call, Client, Context, Effect, Entry, Err}
use Rattle.silo_model.proofs.Common.{Fault, Grain, List, Logic, MailboxFull, NoActivation, NoNumber, None, Ok, Option, Party, Request}
use Rattle.silo_model.proofs.Common.{Result, Some, Tree, UnknownKind, UnknownTenant, Whole, [], accepted, active_of, ap, append-nil, called}
use Rattle.silo_model.proofs.Common.{context_at, context_of, effect_of, false, gate, last_number, length, nat_lt, only_replies, refl}
use Rattle.silo_model.proofs.Common.{shown_to, spread, told, true, waiting, whole_step, with_request, ℕ}
use Rattle.std.specs.FinMap as map
use Rattle.request_codec.specs.Call as codec
use Rattle.silo_event.specs.declared.reply.Party.TheVariants as party
use Rattle.silo_model.proofs.Contexts.{step_at_own, step_by_context}
use Rattle.silo_model.proofs.CallRule.{called_again, called_full, called_new, called_no_activation, called_no_number, called_refused}
use Rattle.silo_model.proofs.CallRule.{gate_across, gate_passed, gate_unknown_kind, gate_unknown_tenant}

-- the request that a call becomes, next after the account's last
abbrev pub next_request : Account → Party → codec.Call → Request
next_request account sender call = record { number = account.count + 1; sender = sender; call = call }

-- nothing but replies
pub spread-only_replies : (w : Whole) (tenant : List ℕ) (grain : Option Grain) (asker : Party) (outcome : Result Tree Fault)
    → spread w tenant grain (only_replies (told asker outcome)) ≡ record w { replies = w.replies ++ told asker outcome }
unfolding spread
spread-only_replies w tenant None asker outcome = refl
spread-only_replies w tenant (Some g) asker outcome = refl

module _ (logic : Logic) (w : Whole) (caller : Client) (id : ℕ) (g : Grain) (message : codec.Call) where
  abbrev seen : Context
  seen = context_at (shown_to caller.tenant w) (Some g)

  abbrev refused_whole : Fault → Whole
  refused_whole why = record w { replies = w.replies ++ told (party.Client caller id) (Err why) }

  by_called : (e : Effect) → called logic seen (party.Client caller id) g message ≡ e → whole_step logic w (Call caller id g message) ≡ Some (spread w caller.tenant (Some g) e)
  unfolding effect_of
  by_called e is = step_by_context logic w (Call caller id g message) caller.tenant (Some g) (Some e) refl refl (ap (λ (x : Effect). Some x) is)

  refused_by : (why : Fault) → gate logic seen seen.account g ≡ Err why → whole_step logic w (Call caller id g message) ≡ Some (refused_whole why)
  refused_by why is =
      by_called _ (called_refused logic seen g (party.Client caller id) message why is)
      ∙ ap Some (spread-only_replies w caller.tenant (Some g) (party.Client caller id) (Err why))

  -- the caller's tenant isn't known
  pub call_unknown_tenant : map.get w.accounts caller.tenant ≡ None → whole_step logic w (Call caller id g message) ≡ Some (refused_whole (UnknownTenant caller.tenant))
  unfolding context_at shown_to
  call_unknown_tenant none = refused_by (UnknownTenant caller.tenant) (gate_unknown_tenant logic seen g none)

  module _ (a : Account) (known : map.get w.accounts caller.tenant ≡ Some a) where
    -- the grain is another tenant's
    pub call_across : g.tenant ≢ caller.tenant → whole_step logic w (Call caller id g message) ≡ Some (refused_whole (AcrossTenants caller.tenant g.tenant))
    unfolding context_at shown_to
    call_across apart = refused_by (AcrossTenants caller.tenant g.tenant) (gate_across logic seen g a known apart)

    module _ (own : g.tenant ≡ caller.tenant) where
      pub call_unknown_kind : logic.knows g.kind ≡ false → whole_step logic w (Call caller id g message) ≡ Some (refused_whole (UnknownKind g.kind))
      unfolding context_at shown_to
      call_unknown_kind unknown = refused_by (UnknownKind g.kind) (gate_unknown_kind logic seen g a known own unknown)

      -- ---- behind the gate, what is seen is what the whole has
      abbrev own_seen : Context
      own_seen = context_of w caller.tenant g

      by_own : (e : Effect) → called logic own_seen (party.Client caller id) g message ≡ e → whole_step logic w (Call caller id g message) ≡ Some (spread w caller.tenant (Some g) e)
      unfolding effect_of
      by_own e is = step_at_own logic w (Call caller id g message) caller.tenant g (Some e) refl refl own (ap (λ (x : Effect). Some x) is)

      module _ (knows : logic.knows g.kind ≡ true) where
        passed : gate logic own_seen own_seen.account g ≡ Ok a
        passed = gate_passed logic own_seen g a known own knows

        told_why : (why : Fault) → called logic own_seen (party.Client caller id) g message ≡ only_replies (told (party.Client caller id) (Err why)) → whole_step logic w (Call caller id g message) ≡ Some (refused_whole why)
        told_why why is = by_own _ is ∙ ap Some (spread-only_replies w caller.tenant (Some g) (party.Client caller id) (Err why))

        -- no number is left
        pub call_no_number : (a.count == last_number) ≡ true → whole_step logic w (Call caller id g message) ≡ Some (refused_whole (NoNumber caller.tenant))
        call_no_number spent = told_why _ (called_no_number logic own_seen g (party.Client caller id) message a passed spent)

        module _ (left : (a.count == last_number) ≡ false) where
          -- the tenant has as many entries as it may have
          pub call_no_activation : map.get w.entries g ≡ None → nat_lt (active_of w caller.tenant) a.limits.activations ≡ false → whole_step logic w (Call caller id g message) ≡ Some (refused_whole (NoActivation caller.tenant))
          call_no_activation absent full = told_why _ (called_no_activation logic own_seen g (party.Client caller id) message a passed left absent full)

          -- as many requests wait as may
          pub call_mailbox_full : (e : Entry) → map.get w.entries g ≡ Some e → nat_lt (length e.queue) a.limits.mailbox ≡ false → whole_step logic w (Call caller id g message) ≡ Some (refused_whole (MailboxFull g))
          call_mailbox_full e found full = told_why _ (called_full logic own_seen g (party.Client caller id) message a passed left e found full)

          abbrev accepted_whole : Option Entry → Whole
          accepted_whole found = record w {
            accounts = map.insert w.accounts caller.tenant (record a { count = a.count + 1 });
            entries = map.insert w.entries g (with_request w.clock (next_request a (party.Client caller id) message) found);
          }

          spread-accepted : spread w caller.tenant (Some g) (accepted own_seen (party.Client caller id) message a) ≡ accepted_whole (map.get w.entries g)
          unfolding spread
          spread-accepted = λ i. record w {
            accounts = map.insert w.accounts caller.tenant (record a { count = a.count + 1 });
            entries = map.insert w.entries g (with_request w.clock (next_request a (party.Client caller id) message) (map.get w.entries g));
            replies = append-nil w.replies i;
          }

          -- the request is numbered and waits last, in an entry that is new
          pub call_new : map.get w.entries g ≡ None → nat_lt (active_of w caller.tenant) a.limits.activations ≡ true
              → whole_step logic w (Call caller id g message) ≡ Some (record w {
                accounts = map.insert w.accounts caller.tenant (record a { count = a.count + 1 });
                entries = map.insert w.entries g (record { phase = waiting; queue = next_request a (party.Client caller id) message ∷ []; turns = map.empty; last = w.clock; until = 0; resting = false });
              })
          call_new absent free =
              by_own _ (called_new logic own_seen g (party.Client caller id) message a passed left absent free) ∙ ap Some spread-accepted ∙ ap (λ o. Some (accepted_whole o)) absent

          -- or in the entry that is there
          pub call_again : (e : Entry) → map.get w.entries g ≡ Some e → nat_lt (length e.queue) a.limits.mailbox ≡ true
              → whole_step logic w (Call caller id g message) ≡ Some (record w {
                accounts = map.insert w.accounts caller.tenant (record a { count = a.count + 1 });
                entries = map.insert w.entries g (record e { queue = e.queue ++ next_request a (party.Client caller id) message ∷ []; last = w.clock });
              })
          call_again e found free =
              by_own _ (called_again logic own_seen g (party.Client caller id) message a passed left e found free) ∙ ap Some spread-accepted ∙ ap (λ o. Some (accepted_whole o)) found
