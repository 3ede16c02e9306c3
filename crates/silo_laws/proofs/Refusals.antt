-- By which code a call, a poke and a delivery are refused.
use Rattle.silo_model.proofs.Common.{◌++◌, ◌+◌, ◌==◌, ◌∙◌, ◌∷◌, ◌≡◌, ◌≢◌, ◌≤◌, Account, AcrossTenants, Bool, Call, Client, Deliver, Entry}
use Rattle.silo_model.proofs.Common.{Err, Fault, Grain, List, Load, Logic, MailboxFull, NoActivation, NoNumber, Poke, Request, Result, Send}
use Rattle.silo_model.proofs.Common.{Some, StorageFailed, Tree, UnknownKind, UnknownTenant, Whole, ℕ, [], active_of, ap, append-nil, arith}
use Rattle.silo_model.proofs.Common.{eq-eqb, eqb-true, false, false_from_ne_true, first_from, flat_map, get-insert_same, grain_cmp_exact}
use Rattle.silo_model.proofs.Common.{grain_cmp_total, inl, inr, last_number, length, loading, lt-ltb, nat_lt, refl, reply_to, same_Some}
use Rattle.silo_model.proofs.Common.{sym, true, whole_step}
use Rattle.std.proofs.lemmas.Bool.{ltb-true}
use Rattle.std.specs.FinMap as map
use Rattle.request_codec.specs.Call as codec
use Rattle.silo_event.specs.declared.reply.Party.TheVariants as party
use Rattle.silo_model.proofs.AskSteps.{poke_across, poke_unknown_kind, poke_unknown_tenant}
use Rattle.silo_model.proofs.CallSteps.{call_across, call_again, call_mailbox_full, call_new, call_no_activation, call_no_number}
use Rattle.silo_model.proofs.CallSteps.{call_unknown_kind, call_unknown_tenant}
use Rattle.silo_model.proofs.EntrySteps.{load_fails}
use Rattle.silo_model.proofs.SendSteps.{deliver_across, deliver_mailbox_full, deliver_no_activation, deliver_no_number}
use Rattle.silo_model.proofs.SendSteps.{deliver_unknown_kind}
use Rattle.silo_laws.specs.Grains.{DeliveryRefuses, GrainsAreTold, IsForGrain}
use Rattle.silo_laws.specs.Refusals.{CallRuleRefuses, GateRefuses, RefusedByCode, no_number_after}
use Rattle.silo_laws.proofs.Closings.{Closes, IsOpen, Uses, abandon_uses, end_uses, store_closes}

-- ---- tests of numbers

is_last : (n : ℕ) → n ≡ no_number_after → (n == last_number) ≡ true
is_last n is = eq-eqb n last_number is

isnt_last : (n : ℕ) → n ≢ no_number_after → (n == last_number) ≡ false
isnt_last n isnt = false_from_ne_true (n == last_number) (λ is. isnt (eqb-true n last_number is))

is_full : (n limit : ℕ) → limit ≤ n → nat_lt n limit ≡ false
is_full n limit full = false_from_ne_true (nat_lt n limit) (λ below. let less = ltb-true n limit below in absurd (omega (arith, less, full)))

-- ---- calls and pokes

module _ (logic : Logic) (w : Whole) (caller : Client) (id : ℕ) (g : Grain) where
  call_gate : (call : codec.Call) → GateRefuses logic w caller id g (whole_step logic w (Call caller id g call))
  call_gate call = record {
    unknown_tenant = λ none. (UnknownTenant caller.tenant, refl, call_unknown_tenant logic w caller id g call none);
    across = λ a known apart. (AcrossTenants caller.tenant g.tenant, refl, call_across logic w caller id g call a known apart);
    unknown_kind = λ a known own unknown. (UnknownKind g.kind, refl, call_unknown_kind logic w caller id g call a known own unknown);
  }

  poke_gate : (state : Tree) (failed : Bool) → GateRefuses logic w caller id g (whole_step logic w (Poke failed caller id g state))
  poke_gate state failed = record {
    unknown_tenant = λ none. (UnknownTenant caller.tenant, refl, poke_unknown_tenant logic w caller id g state failed none);
    across = λ a known apart. (AcrossTenants caller.tenant g.tenant, refl, poke_across logic w caller id g state failed a known apart);
    unknown_kind = λ a known own unknown. (UnknownKind g.kind, refl, poke_unknown_kind logic w caller id g state failed a known own unknown);
  }

  module _ (call : codec.Call) (a : Account) (known : map.get w.accounts caller.tenant ≡ Some a) (own : g.tenant ≡ caller.tenant) (knows : logic.knows g.kind ≡ true) where
    call_rule : CallRuleRefuses w caller id g call a (whole_step logic w (Call caller id g call))
    call_rule = record {
      no_number = λ last. (NoNumber caller.tenant, refl, call_no_number logic w caller id g call a known own knows (is_last a.count last));
      no_activation = λ left absent full.
          (NoActivation caller.tenant, refl, call_no_activation logic w caller id g call a known own knows (isnt_last a.count left) absent (is_full (active_of w caller.tenant) a.limits.activations full));
      new = λ left absent free. (
        _,
        _,
        call_new logic w caller id g call a known own knows (isnt_last a.count left) absent (lt-ltb (active_of w caller.tenant) a.limits.activations free),
        refl,
        get-insert_same grain_cmp_total grain_cmp_exact w.entries g _,
        refl,
      );
      mailbox_full = λ e left found full. (MailboxFull g, refl, call_mailbox_full logic w caller id g call a known own knows (isnt_last a.count left) e found (is_full (length e.queue) a.limits.mailbox full));
      again = λ e left found free. (
        _,
        _,
        call_again logic w caller id g call a known own knows (isnt_last a.count left) e found (lt-ltb (length e.queue) a.limits.mailbox free),
        refl,
        get-insert_same grain_cmp_total grain_cmp_exact w.entries g _,
        refl,
      );
    }

pub refused_by_code : RefusedByCode
refused_by_code = record {
  calls_gate = λ logic w caller id g call. call_gate logic w caller id g call;
  calls = λ logic w caller id g call a known own knows. call_rule logic w caller id g call a known own knows;
  pokes_gate = λ logic w caller id g state failed. poke_gate logic w caller id g state failed;
}

-- ---- what grains are told

module _ (logic : Logic) (w : Whole) (g : Grain) (a : Account) (sent : Send) (others : List Send) (known : map.get w.accounts g.tenant ≡ Some a)
    (first : first_from g a.sends ≡ Some (sent, others)) where
  delivery_refuses : DeliveryRefuses logic w g a sent others (whole_step logic w (Deliver g))
  delivery_refuses = record {
    across = λ apart. (AcrossTenants g.tenant sent.message.target.tenant, refl, deliver_across logic w g a known sent others first apart);
    unknown_kind = λ own unknown. (UnknownKind sent.message.target.kind, refl, deliver_unknown_kind logic w g a known sent others first own unknown);
    no_number = λ own knows last. (NoNumber g.tenant, refl, deliver_no_number logic w g a known sent others first own knows (is_last a.count last));
    no_activation = λ own knows left absent full. (
      NoActivation g.tenant,
      refl,
      deliver_no_activation logic w g a known sent others first own knows (isnt_last a.count left) absent (is_full (active_of w g.tenant) a.limits.activations full),
    );
    mailbox_full = λ e own knows left found full. (
      MailboxFull sent.message.target,
      refl,
      deliver_mailbox_full logic w g a known sent others first own knows (isnt_last a.count left) e found (is_full (length e.queue) a.limits.mailbox full),
    );
  }

module _ (w after : Whole) (g : Grain) (turn : ℕ) (of_grain : IsForGrain w g turn) where
  -- the turn that was open is the one that a grain asked for
  same_request : (at : IsOpen w g turn) → at.request ≡ of_grain.request
  same_request at =
      let same : at.entry ≡ of_grain.entry = same_Some at.entry of_grain.entry (sym at.found ∙ of_grain.found) in
      same_Some at.request of_grain.request (sym at.open_turn ∙ ap (λ (e : Entry). map.get e.turns turn) same ∙ of_grain.open_turn)

  not_told : (at : IsOpen w g turn) (outcome : Result Tree Fault) → after.replies ≡ w.replies ++ reply_to at.request.sender outcome → after.replies ≡ w.replies
  not_told at outcome replies =
      replies
      ∙ ap (λ (q : Request). w.replies ++ reply_to q.sender outcome) (same_request at)
      ∙ ap (λ p. w.replies ++ reply_to p outcome) of_grain.sender
      ∙ append-nil w.replies

  none_told : Uses w after g turn → after.replies ≡ w.replies
  none_told u = not_told u.at u.outcome u.replies

  none_stored : Closes w after g turn → after.replies ≡ w.replies
  none_stored (inl u) = none_told u
  none_stored (inr ended) = not_told ended.at ended.outcome ended.replies

not_loaded : (logic : Logic) (w after : Whole) (g source : Grain) (e : Entry) (q : Request) → map.get w.entries g ≡ Some e → e.phase ≡ loading → e.queue ≡ q ∷ [] → q.sender ≡ party.Grain source
    → whole_step logic w (Load g true) ≡ Some after → after.replies ≡ w.replies
not_loaded logic w after g source e q found is queue sender step =
    ap (λ (x : Whole). x.replies) (sym (same_Some _ after (sym (load_fails logic w g e found is) ∙ step)))
    ∙ ap (λ qs. w.replies ++ flat_map (λ x. reply_to x.sender (Err StorageFailed)) qs) queue
    ∙ ap (λ p. w.replies ++ (reply_to p (Err StorageFailed) ++ [])) sender
    ∙ append-nil w.replies

pub grains_are_told : GrainsAreTold
grains_are_told = record {
  deliveries = λ logic w g a sent others known first. delivery_refuses logic w g a sent others known first;
  ends = λ logic w after g turn of_grain step. none_told w after g turn of_grain (end_uses logic w after g turn step);
  stores = λ logic w after g turn failed of_grain step. none_stored w after g turn of_grain (store_closes logic w after g turn failed step);
  abandons = λ logic w after g turn of_grain step. none_told w after g turn of_grain (abandon_uses logic w after g turn step);
  loads = λ logic w after g source e q found is queue sender step. not_loaded logic w after g source e q found is queue sender step;
}
