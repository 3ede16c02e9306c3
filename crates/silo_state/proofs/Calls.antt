-- What requests that are refused or accepted come to, as steps of the whole.
use Rattle.std.proofs.Common.{◌≡◌, ◌≢◌, ℕ, ◌+◌, ◌==◌, ◌<◌, false, List, ◌++◌, length, Option, Some, None, refl, ap, sym, ◌∙◌, arith}
use Rattle.std.specs.Prelude.{Result, Ok, Err, option_map}
use Rattle.std.specs.FinMap as map
use Rattle.std.specs.FinMap.{FinMap}
use Rattle.std.proofs.lemmas.Bool.Decides.{nat_tests}
use Rattle.std.proofs.lemmas.Option.{same_Some}
use Rattle.std.proofs.lemmas.Bool.{lt-ltb}
use Rattle.grain_id.specs.Names.{Grain, Client, text_cmp}
use Rattle.grain_id.proofs.Order.{text_cmp_total, text_cmp_exact}
use Rattle.finite_maps.proofs.Maps.{get-insert_same, insert-insert}
use Rattle.request_codec.specs.Call as codec
use Rattle.silo_event.specs.declared.fault.Fault.{Fault}
use Rattle.silo_event.specs.declared.reply.Party.TheVariants as party
use Rattle.silo_event.specs.declared.step.Step.TheVariants.{Call, Deliver}
use Rattle.grain_logic.specs.Logic.{Logic}
use Rattle.silo_model.specs.Machine.{Account, Entry, Send}
use Rattle.silo_model.specs.Calls.{told, last_number, admitted, with_request}
use Rattle.silo_model.specs.Sends.{first_from}
use Rattle.silo_model.specs.Whole.{Whole, whole_step}
use Rattle.silo_model.specs.Contexts.{active_of, context_of}
use Rattle.silo_model.proofs.CallSteps.{next_request}
use Rattle.silo_state.specs.inside.Held.{Held}
use Rattle.silo_state.specs.inside.Requests.{with_told, with_accepted}
use Rattle.tenant_accounts.specs.inside.Deliveries.{changed_account, without_first}
use Rattle.silo_state.specs.Verdicts.{gated, verdict, Settles}
use Rattle.silo_state.proofs.Verdicts.{accepts, call_made, call_is, delivery_made, delivery_is}

-- ---- why a request is refused

not_equal : (m n : ℕ) → m ≢ n → (m == n) ≡ false
not_equal m n apart = grind (arith, nat_tests)

pub nothing_waits : (found : Option Entry) → None ≡ option_map (λ e. length e.queue) found → found ≡ None
nothing_waits None is = refl
nothing_waits (Some e) is = absurd cc

pub some_wait : (n : ℕ) (found : Option Entry) → Some n ≡ option_map (λ e. length e.queue) found → (e : Entry) × (found ≡ Some e) × (length e.queue ≡ n)
some_wait n None is = absurd cc
some_wait n (Some e) is = (e, refl, same_Some (length e.queue) n (sym is))

module _ (logic : Logic) (w : Whole) (t : List ℕ) (g : Grain) (a : Account) (passes : gated logic w t g ≡ Ok a) (left : a.count ≢ last_number) where
  numbered : verdict logic w t g ≡ admitted (context_of w t g) g (Ok a)
  numbered = ap (admitted (context_of w t g) g) passes

  pub settles_new : map.get w.entries g ≡ None → active_of w t < a.limits.activations → Settles (verdict logic w t g) None
  settles_new absent free = (a, numbered ∙ rw (not_equal a.count last_number left, absent, lt-ltb (active_of w t) a.limits.activations free) refl)

  pub settles_again : (e : Entry) → map.get w.entries g ≡ Some e → length e.queue < a.limits.mailbox → Settles (verdict logic w t g) None
  settles_again e found free = (a, numbered ∙ rw (not_equal a.count last_number left, found, lt-ltb (length e.queue) a.limits.mailbox free) refl)

-- ---- calls

module _ (logic : Logic) (h new : Held) (caller : Client) (id : ℕ) (g : Grain) (call : codec.Call) where
  abbrev Calls : Type 0
  Calls = (whole_step logic h.whole (Call caller id g call) ≡ Some new.whole) × (new.failures ≡ h.failures)

  by_verdict : (r : Result Account Fault) → verdict logic h.whole caller.tenant g ≡ r → new ≡ record h { whole = call_made h.whole (party.Client caller id) caller.tenant g call r } → Calls
  by_verdict r is left =
      (call_is logic h.whole caller id g call ∙ ap (λ x. Some (call_made h.whole (party.Client caller id) caller.tenant g call x)) is ∙ ap (λ (x : Held). Some x.whole) (sym left), ap (λ (x : Held). x.failures) left)

  pub call_told : (client : Client) → client ≡ caller → (why : Fault) → Settles (verdict logic h.whole client.tenant g) (Some why) → new ≡ with_told h (party.Client client id) (Err why) → Calls
  call_told client same why is left =
      by_verdict (Err why) (ap (λ (x : Client). verdict logic h.whole x.tenant g) (sym same) ∙ is) (left ∙ ap (λ x. with_told h (party.Client x id) (Err why)) same)

  pub call_taken : (client : Client) → client ≡ caller → (message : codec.Call) → message ≡ call → Settles (verdict logic h.whole client.tenant g) None
      → new ≡ with_accepted h (party.Client client id) g message (map.get h.whole.accounts client.tenant) → Calls
  call_taken client same message sent is left =
      let verdict_is = ap (λ (x : Client). verdict logic h.whole x.tenant g) (sym same) ∙ is.1 in
      let known = (accepts logic h.whole caller.tenant g is.0 verdict_is).known in
      by_verdict (Ok is.0) verdict_is
      (left
      ∙ (λ i. with_accepted h (party.Client (same i) id) g (sent i) (map.get h.whole.accounts (same i).tenant))
      ∙ ap (with_accepted h (party.Client caller id) g call) known)

-- ---- deliveries

abbrev pub taken : Grain → FinMap text_cmp Account → List ℕ → FinMap text_cmp Account
taken g accounts t = changed_account (λ a. record a { sends = without_first g a.sends }) accounts t (map.get accounts t)

abbrev pub without_sent : Held → Grain → Held
without_sent h g = record h { whole = record h.whole { accounts = taken g h.whole.accounts g.tenant } }

module _ (logic : Logic) (h mid new : Held) (g : Grain) (a : Account) (known : map.get h.whole.accounts g.tenant ≡ Some a) (sent : Send)
    (first : first_from g a.sends ≡ Some (sent, without_first g a.sends)) (left : new ≡ without_sent mid g) where
  abbrev Delivers : Type 0
  Delivers = (whole_step logic h.whole (Deliver g) ≡ Some new.whole) × (new.failures ≡ h.failures)

  abbrev change : Account → Account
  change x = record x { sends = without_first g x.sends }

  by_delivery : (r : Result Account Fault) → verdict logic h.whole g.tenant sent.message.target ≡ r → new ≡ record h { whole = delivery_made h.whole g a sent (without_first g a.sends) r } → Delivers
  by_delivery r is made =
      (delivery_is logic h.whole g a known sent (without_first g a.sends) first ∙ ap (λ x. Some (delivery_made h.whole g a sent (without_first g a.sends) x)) is ∙ ap (λ (x : Held). Some x.whole) (sym made), ap (λ (x : Held). x.failures) made)

  pub deliver_told : (grain : Grain) → grain ≡ g → (target : Grain) → target ≡ sent.message.target → (why : Fault) → Settles (verdict logic h.whole grain.tenant target) (Some why) → mid ≡ with_told h (party.Grain grain) (Err why) → Delivers
  deliver_told grain same target aimed why is tells =
      by_delivery (Err why) ((λ i. verdict logic h.whole (sym same i).tenant (sym aimed i)) ∙ is)
      (left
      ∙ ap (λ x. without_sent x g) (tells ∙ ap (λ x. with_told h (party.Grain x) (Err why)) same)
      ∙ ap (λ o. record h { whole = record h.whole { accounts = changed_account change h.whole.accounts g.tenant o; replies = h.whole.replies ++ told (party.Grain g) (Err why) } }) known)

  pub deliver_taken : (grain : Grain) → grain ≡ g → (target : Grain) → target ≡ sent.message.target → (message : codec.Call) → message ≡ sent.message.call → Settles (verdict logic h.whole grain.tenant target) None
      → mid ≡ with_accepted h (party.Grain grain) target message (map.get h.whole.accounts grain.tenant) → Delivers
  deliver_taken grain same target aimed message asks is accepted =
      by_delivery (Ok is.0) ((λ i. verdict logic h.whole (sym same i).tenant (sym aimed i)) ∙ is.1)
      (left
      ∙ ap (λ x. without_sent x g) (accepted
      ∙ (λ i. with_accepted h (party.Grain (same i)) (aimed i) (asks i) (map.get h.whole.accounts (same i).tenant))
      ∙ ap (with_accepted h (party.Grain g) sent.message.target sent.message.call) known)
      ∙ ap (made (map.insert h.whole.accounts g.tenant (record a { count = a.count + 1 }))) (get-insert_same text_cmp_total text_cmp_exact h.whole.accounts g.tenant (record a { count = a.count + 1 }))
      ∙ ap made_of (insert-insert text_cmp_total text_cmp_exact h.whole.accounts g.tenant (record a { count = a.count + 1 }) (record a { count = a.count + 1; sends = without_first g a.sends })))
    where
      made_of : FinMap text_cmp Account → Held
      made_of accounts = record h {
        whole = record h.whole {
          accounts = accounts;
          entries = map.insert h.whole.entries sent.message.target (with_request h.whole.clock (next_request a (party.Grain g) sent.message.call) (map.get h.whole.entries sent.message.target));
        };
      }

      made : FinMap text_cmp Account → Option Account → Held
      made accounts o = made_of (changed_account change accounts g.tenant o)
