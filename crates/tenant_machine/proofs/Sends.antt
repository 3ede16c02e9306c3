-- What a delivery comes to, as a step of the machine.
use Rattle.silo_model.proofs.Common.{◌+◌, ◌==◌, ◌∙◌, ◌≡◌, Account, AcrossTenants, Bool, Context, Deliver, Entry, Err, Fault, Grain, List, Logic, Machine, MailboxFull, NoActivation, NoNumber, None, Ok, Option, Result, Send, Some, UnknownKind, ap, append-nil, applied, called, context_at, effect_of, false, first_from, first_target, gate, if◌then◌else◌, last_number, length, machine_step, nat_lt, option_and_then, option_map, refl, same_text, sym, true, with_request}
use Rattle.std.specs.FinMap as map
use Rattle.request_codec.specs.Call as codec
use Rattle.silo_event.specs.declared.reply.Party.TheVariants as party
use Rattle.silo_model.specs.Calls.{room, admitted, call_settled}
use Rattle.silo_model.specs.Sends.{delivered, delivered_to, on_account}
use Rattle.silo_state.specs.Verdicts.{Settles}
use Rattle.tenant_machine.specs.inside.Sends.{without_first}
use Rattle.tenant_machine.specs.inside.Requests.{seen_at, verdict, with_told, with_accepted, without_sent}
use Rattle.tenant_machine.proofs.Gate.{accepts}

-- nothing is left to deliver
module _ (logic : Logic) (m : Machine) (g : Grain) where
  pub deliver_unknown : m.account ≡ None → machine_step logic m (Deliver g) ≡ None
  unfolding machine_step effect_of context_at
  deliver_unknown is = ap (λ (o : Option Account). option_map (applied m (first_target m.account g)) (option_and_then (delivered logic (context_at m (first_target m.account g)) g) o)) is

  pub deliver_nothing : (a : Account) → m.account ≡ Some a → first_from g a.sends ≡ None → machine_step logic m (Deliver g) ≡ None
  unfolding machine_step effect_of context_at
  deliver_nothing a is none =
      ap (λ (o : Option Account). option_map (applied m (first_target m.account g)) (option_and_then (delivered logic (context_at m (first_target m.account g)) g) o)) is
      ∙ ap (λ o. option_map (applied m (first_target m.account g)) (option_map (delivered_to logic (context_at m (first_target m.account g)) g a) o)) none

-- what the call rule says doesn't rest on what was sent
module _ (logic : Logic) (s : Context) (g : Grain) (others : List Send) where
  abbrev less : Account → Account
  less a = record a { sends = others }

  abbrev with_less : Result Account Fault → Result Account Fault
  with_less (Ok a) = Ok (less a)
  with_less (Err why) = Err why

  module _ (account : Option Account) where
    abbrev other : Context
    other = record s { account = account }

    gate_less : (a : Account) → gate logic other (Some (less a)) g ≡ with_less (gate logic s (Some a) g)
    gate_less a = by (same_text g.tenant s.tenant) (logic.knows g.kind)
      where
        by : (own knows : Bool) → (if own then (if knows then Ok (less a) else Err (UnknownKind g.kind)) else Err (AcrossTenants s.tenant g.tenant))
            ≡ with_less (if own then (if knows then Ok a else Err (UnknownKind g.kind)) else Err (AcrossTenants s.tenant g.tenant))
        by true true = refl
        by true false = refl
        by false knows = refl

    free_less : (a : Account) (free : Bool) (why : Fault) → (if free then Ok (less a) else Err why) ≡ with_less (if free then Ok a else Err why)
    free_less a true why = refl
    free_less a false why = refl

    room_less : (a : Account) (found : Option Entry) → room other (less a) g found ≡ with_less (room s a g found)
    room_less a None = free_less a (nat_lt s.active a.limits.activations) (NoActivation s.tenant)
    room_less a (Some e) = free_less a (nat_lt (length e.queue) a.limits.mailbox) (MailboxFull g)

    number_less : (a : Account) (spent : Bool) → (if spent then Err (NoNumber s.tenant) else room other (less a) g s.entry) ≡ with_less (if spent then Err (NoNumber s.tenant) else room s a g s.entry)
    number_less a true = refl
    number_less a false = room_less a s.entry

    admitted_less : (r : Result Account Fault) → admitted other g (with_less r) ≡ with_less (admitted s g r)
    admitted_less (Ok a) = number_less a (a.count == last_number)
    admitted_less (Err why) = refl

    pub verdict_less : (a : Account) → admitted other g (gate logic other (Some (less a)) g) ≡ with_less (admitted s g (gate logic s (Some a) g))
    verdict_less a = ap (admitted other g) (gate_less a) ∙ admitted_less (gate logic s (Some a) g)

module _ (logic : Logic) (m : Machine) (g : Grain) (a : Account) (known : m.account ≡ Some a) (sent : Send) (first : first_from g a.sends ≡ Some (sent, without_first g a.sends)) where
  abbrev rest : Account
  rest = record a { sends = without_first g a.sends }

  abbrev target : Grain
  target = sent.message.target

  abbrev seen : Context
  seen = record (seen_at m target) { account = Some rest }

  -- the machine after a delivery of which the call rule says this
  abbrev settled : Result Account Fault → Machine
  settled r = applied m (Some target) (on_account rest (call_settled seen (party.Grain g) sent.message.call r))

  at_target : first_target m.account g ≡ Some target
  at_target = ap (λ account. first_target account g) known ∙ ap (option_map (λ (found : Send × List Send). found.0.message.target)) first

  deliver_is : machine_step logic m (Deliver g) ≡ Some (settled (admitted seen target (gate logic seen (Some rest) target)))
  unfolding machine_step effect_of context_at called
  deliver_is =
      ap (λ place. option_map (applied m place) (option_and_then (delivered logic (context_at m place) g) m.account)) at_target
      ∙ ap (λ (o : Option Account). option_map (applied m (Some target)) (option_and_then (delivered logic (seen_at m target) g) o)) known
      ∙ ap (λ o. option_map (applied m (Some target)) (option_map (delivered_to logic (seen_at m target) g a) o)) first

  said : (r : Result Account Fault) → verdict logic m target ≡ r → admitted seen target (gate logic seen (Some rest) target) ≡ with_less logic (seen_at m target) target (without_first g a.sends) r
  said r is =
      verdict_less logic (seen_at m target) target (without_first g a.sends) (Some rest) a
      ∙ ap (with_less logic (seen_at m target) target (without_first g a.sends)) (ap (λ account. admitted (seen_at m target) target (gate logic (seen_at m target) account target)) (sym known) ∙ is)

  settled_told : (why : Fault) → settled (Err why) ≡ without_sent (with_told m (party.Grain g) (Err why)) g (Some a)
  unfolding applied
  settled_told why = refl

  settled_taken : settled (Ok rest) ≡ without_sent (with_accepted m (party.Grain g) target sent.message.call (Some a)) g (Some (record a { count = a.count + 1 }))
  unfolding applied
  settled_taken = λ i. record m {
    account = Some (record rest { count = a.count + 1 });
    entries = map.insert m.entries target (with_request m.clock (record { number = a.count + 1; sender = party.Grain g; call = sent.message.call }) (map.get m.entries target));
    replies = append-nil m.replies i;
  }

  module _ (mid new : Machine) (left : new ≡ without_sent mid g mid.account) (grain : Grain) (same : grain ≡ g) (aim : Grain) (aimed : aim ≡ target) where
    pub deliver_told : (why : Fault) → Settles (verdict logic m aim) (Some why) → mid ≡ with_told m (party.Grain grain) (Err why) → machine_step logic m (Deliver g) ≡ Some new
    deliver_told why is told =
        deliver_is
        ∙ ap (λ r. Some (settled r)) (said (Err why) (ap (verdict logic m) (sym aimed) ∙ is))
        ∙ ap Some (settled_told why
        ∙ ap (λ o. without_sent (with_told m (party.Grain g) (Err why)) g o) (sym known)
        ∙ ap (λ (x : Machine). without_sent x g x.account) (ap (λ x. with_told m (party.Grain x) (Err why)) (sym same) ∙ sym told)
        ∙ sym left)

    pub deliver_taken : (message : codec.Call) → message ≡ sent.message.call → Settles (verdict logic m aim) None
        → mid ≡ with_accepted m (party.Grain grain) aim message m.account → machine_step logic m (Deliver g) ≡ Some new
    deliver_taken message asks is taken =
        let verdict_is = ap (verdict logic m) (sym aimed) ∙ is.1 in
        let own : Some a ≡ Some is.0 = sym known ∙ (accepts logic m target is.0 verdict_is).known in
        deliver_is
        ∙ ap (λ r. Some (settled r)) (said (Ok is.0) verdict_is ∙ ap (λ (o : Option Account). with_less logic (seen_at m target) target (without_first g a.sends) (ok_of o)) (sym own))
        ∙ ap Some (settled_taken
        ∙ ap (λ (x : Machine). without_sent x g x.account) ((λ i. with_accepted m (party.Grain (sym same i)) (sym aimed i) (sym asks i) (sym known i)) ∙ sym taken)
        ∙ sym left)
      where
        ok_of : Option Account → Result Account Fault
        ok_of None = Ok a
        ok_of (Some x) = Ok x
