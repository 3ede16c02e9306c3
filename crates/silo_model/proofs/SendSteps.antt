-- How what a grain sent is delivered: by what the whole has of the grain's tenant and at the target.
use Rattle.silo_model.proofs.Common.{◌++◌, ◌+◌, ◌==◌, ◌∙◌, ◌≡◌, ◌≢◌, Account, AcrossTenants, Context, Deliver, Effect, Entry, Err, Fault}
use Rattle.silo_model.proofs.Common.{Grain, List, Logic, MailboxFull, NoActivation, NoNumber, None, Ok, Option, Send, Some, UnknownKind}
use Rattle.silo_model.proofs.Common.{Whole, accepted, active_of, ap, append-nil, called, context_at, context_of, effect_of, false}
use Rattle.silo_model.proofs.Common.{first_from, first_target, gate, grain_of, last_number, length, nat_lt, only_replies, option_and_then}
use Rattle.silo_model.proofs.Common.{option_map, refl, shown_to, spread, told, true, whole_step, with_request}
use Rattle.std.specs.FinMap as map
use Rattle.silo_event.specs.declared.reply.Party.TheVariants as party
use Rattle.silo_model.specs.Sends.{delivered, delivered_to, on_account}
use Rattle.silo_model.proofs.Contexts.{own_context, step_by_context}
use Rattle.silo_model.proofs.CallRule.{called_again, called_full, called_new, called_no_activation, called_no_number, called_refused}
use Rattle.silo_model.proofs.CallRule.{gate_across, gate_passed, gate_unknown_kind}
use Rattle.silo_model.proofs.CallSteps.{next_request}

module _ (logic : Logic) (w : Whole) (g : Grain) where
  nothing_sent : (account : Option Account) → map.get w.accounts g.tenant ≡ account → option_and_then (delivered logic (context_at (shown_to g.tenant w) None) g) account ≡ None → grain_of account (Deliver g) ≡ None → whole_step logic w (Deliver g) ≡ None
  unfolding effect_of context_at shown_to
  nothing_sent account known does place =
      step_by_context logic w (Deliver g) g.tenant None None refl (ap (λ a. first_target a g) known ∙ place)
      (ap (option_and_then (delivered logic (context_at (shown_to g.tenant w) None) g)) known ∙ does)

  -- the grain's tenant isn't known
  pub deliver_unknown : map.get w.accounts g.tenant ≡ None → whole_step logic w (Deliver g) ≡ None
  deliver_unknown none = nothing_sent None none refl refl

  module _ (a : Account) (known : map.get w.accounts g.tenant ≡ Some a) where
    -- the grain sent nothing
    pub deliver_nothing : first_from g a.sends ≡ None → whole_step logic w (Deliver g) ≡ None
    deliver_nothing none =
        nothing_sent (Some a) known (ap (option_map (delivered_to logic (context_at (shown_to g.tenant w) None) g a)) none) (ap (option_map (λ found. found.0.message.target)) none)

    module _ (sent : Send) (others : List Send) (first : first_from g a.sends ≡ Some (sent, others)) where
      abbrev rest : Account
      rest = record a { sends = others }

      abbrev target : Grain
      target = sent.message.target

      abbrev seen : Context
      seen = record (context_at (shown_to g.tenant w) (Some target)) { account = Some rest }

      place_is : grain_of (map.get w.accounts g.tenant) (Deliver g) ≡ Some target
      place_is = ap (λ x. first_target x g) known ∙ ap (option_map (λ found. found.0.message.target)) first

      pub by_called : (e : Effect) → called logic seen (party.Grain g) target sent.message.call ≡ e → whole_step logic w (Deliver g) ≡ Some (spread w g.tenant (Some target) (on_account rest e))
      unfolding effect_of context_at shown_to
      by_called e is =
          step_by_context logic w (Deliver g) g.tenant (Some target) (Some (on_account rest e)) refl place_is
          (ap (option_and_then (delivered logic (context_at (shown_to g.tenant w) (Some target)) g)) known
          ∙ ap (option_map (delivered_to logic (context_at (shown_to g.tenant w) (Some target)) g a)) first
          ∙ ap (λ (x : Effect). Some (on_account rest x)) is)

      -- the send is gone, and the grain is told why
      abbrev refused_whole : Fault → Whole
      refused_whole why = record w { accounts = map.insert w.accounts g.tenant rest; replies = w.replies ++ told (party.Grain g) (Err why) }

      refused_by : (why : Fault) → called logic seen (party.Grain g) target sent.message.call ≡ only_replies (told (party.Grain g) (Err why)) → whole_step logic w (Deliver g) ≡ Some (refused_whole why)
      unfolding spread
      refused_by why is = by_called _ is

      -- the target is another tenant's
      pub deliver_across : target.tenant ≢ g.tenant → whole_step logic w (Deliver g) ≡ Some (refused_whole (AcrossTenants g.tenant target.tenant))
      unfolding context_at shown_to
      deliver_across apart =
          let why : Fault = AcrossTenants g.tenant target.tenant in
          refused_by why (called_refused logic seen target (party.Grain g) sent.message.call why (gate_across logic seen target rest refl apart))

      module _ (own : target.tenant ≡ g.tenant) where
        pub deliver_unknown_kind : logic.knows target.kind ≡ false → whole_step logic w (Deliver g) ≡ Some (refused_whole (UnknownKind target.kind))
        unfolding context_at shown_to
        deliver_unknown_kind unknown =
            let why : Fault = UnknownKind target.kind in
            refused_by why
            (called_refused logic seen target (party.Grain g) sent.message.call why (gate_unknown_kind logic seen target rest refl own unknown))

        -- ---- behind the gate, what is seen is what the whole has

        abbrev own_seen : Context
        own_seen = record (context_of w g.tenant target) { account = Some rest }

        seen_own : called logic seen (party.Grain g) target sent.message.call ≡ called logic own_seen (party.Grain g) target sent.message.call
        seen_own = ap (λ (s : Context). called logic (record s { account = Some rest }) (party.Grain g) target sent.message.call) (own_context w g.tenant target own)

        module _ (knows : logic.knows target.kind ≡ true) where
          passed : gate logic own_seen own_seen.account target ≡ Ok rest
          passed = gate_passed logic own_seen target rest refl own knows

          pub deliver_no_number : (a.count == last_number) ≡ true → whole_step logic w (Deliver g) ≡ Some (refused_whole (NoNumber g.tenant))
          deliver_no_number spent = refused_by _ (seen_own ∙ called_no_number logic own_seen target (party.Grain g) sent.message.call rest passed spent)

          module _ (left : (a.count == last_number) ≡ false) where
            pub deliver_no_activation : map.get w.entries target ≡ None → nat_lt (active_of w g.tenant) a.limits.activations ≡ false → whole_step logic w (Deliver g) ≡ Some (refused_whole (NoActivation g.tenant))
            deliver_no_activation absent full = refused_by _ (seen_own ∙ called_no_activation logic own_seen target (party.Grain g) sent.message.call rest passed left absent full)

            pub deliver_mailbox_full : (e : Entry) → map.get w.entries target ≡ Some e → nat_lt (length e.queue) a.limits.mailbox ≡ false → whole_step logic w (Deliver g) ≡ Some (refused_whole (MailboxFull target))
            deliver_mailbox_full e found full = refused_by _ (seen_own ∙ called_full logic own_seen target (party.Grain g) sent.message.call rest passed left e found full)

            abbrev accepted_whole : Option Entry → Whole
            accepted_whole found = record w {
              accounts = map.insert w.accounts g.tenant (record rest { count = a.count + 1 });
              entries = map.insert w.entries target (with_request w.clock (next_request a (party.Grain g) sent.message.call) found);
            }

            spread-accepted : spread w g.tenant (Some target) (on_account rest (accepted own_seen (party.Grain g) sent.message.call rest)) ≡ accepted_whole (map.get w.entries target)
            unfolding spread
            spread-accepted = λ i. record w {
              accounts = map.insert w.accounts g.tenant (record rest { count = a.count + 1 });
              entries = map.insert w.entries target (with_request w.clock (next_request a (party.Grain g) sent.message.call) (map.get w.entries target));
              replies = append-nil w.replies i;
            }

            -- the request is numbered and waits last, in an entry that is new
            pub deliver_new : map.get w.entries target ≡ None → nat_lt (active_of w g.tenant) a.limits.activations ≡ true → whole_step logic w (Deliver g) ≡ Some (accepted_whole None)
            deliver_new absent free =
                by_called _ (seen_own ∙ called_new logic own_seen target (party.Grain g) sent.message.call rest passed left absent free) ∙ ap Some spread-accepted ∙ ap (λ o. Some (accepted_whole o)) absent

            -- or in the entry that is there
            pub deliver_again : (e : Entry) → map.get w.entries target ≡ Some e → nat_lt (length e.queue) a.limits.mailbox ≡ true → whole_step logic w (Deliver g) ≡ Some (accepted_whole (Some e))
            deliver_again e found free =
                by_called _ (seen_own ∙ called_again logic own_seen target (party.Grain g) sent.message.call rest passed left e found free) ∙ ap Some spread-accepted ∙ ap (λ o. Some (accepted_whole o)) found
