-- What a request that is refused or accepted comes to, as a step of the machine.
use Rattle.silo_model.proofs.Common.{◌+◌, ◌∙◌, ◌≡◌, Account, Call, Client, Err, Fault, Grain, Logic, Machine, None, Ok, Party, Result, Some, ap, append-nil, applied, called, context_at, effect_of, machine_step, refl, sym, with_request, ℕ}
use Rattle.std.specs.FinMap as map
use Rattle.request_codec.specs.Call as codec
use Rattle.silo_event.specs.declared.reply.Party.TheVariants as party
use Rattle.silo_model.specs.Calls.{call_settled}
use Rattle.silo_state.specs.Verdicts.{Settles}
use Rattle.tenant_machine.specs.inside.Requests.{seen_at, verdict, with_told, with_accepted}
use Rattle.tenant_machine.proofs.Gate.{accepts}

module _ (logic : Logic) (m : Machine) (sender : Party) (g : Grain) (call : codec.Call) where
  -- the machine after a request of which the call rule says this
  abbrev pub settled : Result Account Fault → Machine
  settled r = applied m (Some g) (call_settled (seen_at m g) sender call r)

  settled_told : (why : Fault) → settled (Err why) ≡ with_told m sender (Err why)
  unfolding applied
  settled_told why = refl

  settled_taken : (a : Account) → settled (Ok a) ≡ with_accepted m sender g call (Some a)
  unfolding applied
  settled_taken a = λ i. record m {
    account = Some (record a { count = a.count + 1 });
    entries = map.insert m.entries g (with_request m.clock (record { number = a.count + 1; sender = sender; call = call }) (map.get m.entries g));
    replies = append-nil m.replies i;
  }

module _ (logic : Logic) (m new : Machine) (caller : Client) (id : ℕ) (g : Grain) (call : codec.Call) where
  call_is : machine_step logic m (Call caller id g call) ≡ Some (settled logic m (party.Client caller id) g call (verdict logic m g))
  unfolding machine_step effect_of context_at called
  call_is = refl

  pub call_told : (client : Client) → client ≡ caller → (why : Fault) → Settles (verdict logic m g) (Some why) → new ≡ with_told m (party.Client client id) (Err why) → machine_step logic m (Call caller id g call) ≡ Some new
  call_told client same why is told =
      call_is
      ∙ ap (λ r. Some (settled logic m (party.Client caller id) g call r)) is
      ∙ ap Some (settled_told logic m (party.Client caller id) g call why ∙ ap (λ x. with_told m (party.Client x id) (Err why)) (sym same) ∙ sym told)

  pub call_taken : (client : Client) → client ≡ caller → (message : codec.Call) → message ≡ call → Settles (verdict logic m g) None
      → new ≡ with_accepted m (party.Client client id) g message m.account → machine_step logic m (Call caller id g call) ≡ Some new
  call_taken client same message sent is taken =
      call_is
      ∙ ap (λ r. Some (settled logic m (party.Client caller id) g call r)) is.1
      ∙ ap Some (settled_taken logic m (party.Client caller id) g call is.0
      ∙ (λ i. with_accepted m (party.Client (sym same i) id) g (sym sent i) (sym (accepts logic m g is.0 is.1).known i))
      ∙ sym taken)
