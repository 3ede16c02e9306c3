-- What the gate and the call rule answer, case by case, and what a call and a delivery come to by it.
use Rattle.std.proofs.Common.{◌≡◌, ◌≢◌, ℕ, ◌+◌, ◌==◌, Bool, true, false, List, ◌++◌, length, Option, Some, None, refl, ap, sym, ◌∙◌, subst, true≢false}
use Rattle.std.specs.Prelude.{Result, Ok, Err, nat_lt, if◌then◌else◌}
use Rattle.std.specs.FinMap as map
use Rattle.std.proofs.lemmas.Option.{same_Some, none-some}
use Rattle.grain_id.specs.Names.{Grain, Client, same_text}
use Rattle.grain_id.proofs.Order.{same_text_decides}
use Rattle.request_codec.specs.Call as codec
use Rattle.silo_event.specs.declared.fault.Fault.{Fault}
use Rattle.silo_event.specs.declared.fault.Fault.TheVariants.{UnknownTenant, UnknownKind, AcrossTenants, NoActivation, MailboxFull, NoNumber}
use Rattle.silo_event.specs.declared.reply.Party.{Party}
use Rattle.silo_event.specs.declared.reply.Party.TheVariants as party
use Rattle.silo_event.specs.declared.step.Step.TheVariants.{Call, Deliver}
use Rattle.grain_logic.specs.Logic.{Logic}
use Rattle.silo_model.specs.Machine.{Account, Entry, Send}
use Rattle.silo_model.specs.Effect.{Context}
use Rattle.silo_model.specs.Calls.{told, last_number, kind_gate, gate, room, admitted, with_request}
use Rattle.silo_model.specs.Sends.{first_from}
use Rattle.silo_model.specs.Whole.{Whole, whole_step}
use Rattle.silo_model.specs.Contexts.{active_of, context_of}
use Rattle.silo_model.proofs.CallSteps.{next_request, call_unknown_tenant, call_across, call_unknown_kind, call_no_number, call_no_activation, call_mailbox_full, call_new, call_again}
use Rattle.silo_model.proofs.SendSteps.{deliver_across, deliver_unknown_kind, deliver_no_number, deliver_no_activation, deliver_mailbox_full, deliver_new, deliver_again}
use Rattle.silo_state.specs.Verdicts.{gated, verdict}

-- ---- the cases

module _ (logic : Logic) (w : Whole) (t : List ℕ) (g : Grain) where
  abbrev seen : Context
  seen = context_of w t g

  module _ (P : Result Account Fault → Type 0)
      (unknown : map.get w.accounts t ≡ None → P (Err (UnknownTenant t)))
      (across : (a : Account) → map.get w.accounts t ≡ Some a → g.tenant ≢ t → P (Err (AcrossTenants t g.tenant)))
      (kind : (a : Account) → map.get w.accounts t ≡ Some a → g.tenant ≡ t → logic.knows g.kind ≡ false → P (Err (UnknownKind g.kind)))
      (passed : (a : Account) → map.get w.accounts t ≡ Some a → g.tenant ≡ t → logic.knows g.kind ≡ true → P (Ok a)) where
    by_kind : (a : Account) → map.get w.accounts t ≡ Some a → g.tenant ≡ t → (knows : Bool) → logic.knows g.kind ≡ knows → P (if knows then Ok a else Err (UnknownKind g.kind))
    by_kind a known own true is = passed a known own is
    by_kind a known own false is = kind a known own is

    by_tenant : (a : Account) → map.get w.accounts t ≡ Some a → (own : Bool) → same_text g.tenant t ≡ own → P (if own then kind_gate logic a g else Err (AcrossTenants t g.tenant))
    by_tenant a known true is = by_kind a known ((same_text_decides g.tenant t).0 is) (logic.knows g.kind) refl
    by_tenant a known false is = across a known (λ same. true≢false (sym ((same_text_decides g.tenant t).1 same) ∙ is))

    by_account : (found : Option Account) → map.get w.accounts t ≡ found → P (gate logic seen found g)
    by_account None is = unknown is
    by_account (Some a) is = by_tenant a is (same_text g.tenant t) refl

    pub gated-cases : P (gated logic w t g)
    gated-cases = by_account (map.get w.accounts t) refl

  module _ (P : Result Account Fault → Type 0)
      (unknown : map.get w.accounts t ≡ None → P (Err (UnknownTenant t)))
      (across : (a : Account) → map.get w.accounts t ≡ Some a → g.tenant ≢ t → P (Err (AcrossTenants t g.tenant)))
      (kind : (a : Account) → map.get w.accounts t ≡ Some a → g.tenant ≡ t → logic.knows g.kind ≡ false → P (Err (UnknownKind g.kind)))
      (number : (a : Account) → map.get w.accounts t ≡ Some a → g.tenant ≡ t → logic.knows g.kind ≡ true → (a.count == last_number) ≡ true → P (Err (NoNumber t)))
      (activation : (a : Account) → map.get w.accounts t ≡ Some a → g.tenant ≡ t → logic.knows g.kind ≡ true → (a.count == last_number) ≡ false
      → map.get w.entries g ≡ None → nat_lt (active_of w t) a.limits.activations ≡ false → P (Err (NoActivation t)))
      (new : (a : Account) → map.get w.accounts t ≡ Some a → g.tenant ≡ t → logic.knows g.kind ≡ true → (a.count == last_number) ≡ false
      → map.get w.entries g ≡ None → nat_lt (active_of w t) a.limits.activations ≡ true → P (Ok a))
      (full : (a : Account) → map.get w.accounts t ≡ Some a → g.tenant ≡ t → logic.knows g.kind ≡ true → (a.count == last_number) ≡ false
      → (e : Entry) → map.get w.entries g ≡ Some e → nat_lt (length e.queue) a.limits.mailbox ≡ false → P (Err (MailboxFull g)))
      (again : (a : Account) → map.get w.accounts t ≡ Some a → g.tenant ≡ t → logic.knows g.kind ≡ true → (a.count == last_number) ≡ false
      → (e : Entry) → map.get w.entries g ≡ Some e → nat_lt (length e.queue) a.limits.mailbox ≡ true → P (Ok a)) where
    module _ (a : Account) (known : map.get w.accounts t ≡ Some a) (own : g.tenant ≡ t) (knows : logic.knows g.kind ≡ true) where
      by_free : (left : (a.count == last_number) ≡ false) → map.get w.entries g ≡ None → (free : Bool) → nat_lt (active_of w t) a.limits.activations ≡ free → P (if free then Ok a else Err (NoActivation t))
      by_free left absent true is = new a known own knows left absent is
      by_free left absent false is = activation a known own knows left absent is

      by_place : (left : (a.count == last_number) ≡ false) → (e : Entry) → map.get w.entries g ≡ Some e → (free : Bool) → nat_lt (length e.queue) a.limits.mailbox ≡ free → P (if free then Ok a else Err (MailboxFull g))
      by_place left e found true is = again a known own knows left e found is
      by_place left e found false is = full a known own knows left e found is

      by_entry : (left : (a.count == last_number) ≡ false) → (found : Option Entry) → map.get w.entries g ≡ found → P (room seen a g found)
      by_entry left None is = by_free left is (nat_lt (active_of w t) a.limits.activations) refl
      by_entry left (Some e) is = by_place left e is (nat_lt (length e.queue) a.limits.mailbox) refl

      by_number : (spent : Bool) → (a.count == last_number) ≡ spent → P (if spent then Err (NoNumber t) else room seen a g (map.get w.entries g))
      by_number true is = number a known own knows is
      by_number false is = by_entry is (map.get w.entries g) refl

      behind : P (admitted seen g (Ok a))
      behind = by_number (a.count == last_number) refl

    pub verdict-cases : P (verdict logic w t g)
    verdict-cases = gated-cases (λ r. P (admitted seen g r)) unknown across kind behind

-- ---- what an accepted request says

pub record Accepts (logic : Logic) (w : Whole) (t : List ℕ) (g : Grain) (a : Account) : Type 0 where
  pub known : map.get w.accounts t ≡ Some a
  pub own : g.tenant ≡ t
  pub knows : logic.knows g.kind ≡ true
  pub left : (a.count == last_number) ≡ false

abbrev IfAccepts : Logic → Whole → List ℕ → Grain → Result Account Fault → Type 0
IfAccepts logic w t g (Ok a) = Accepts logic w t g a
IfAccepts logic w t g (Err why) = Unit {0}

pub accepts : (logic : Logic) (w : Whole) (t : List ℕ) (g : Grain) (a : Account) → verdict logic w t g ≡ Ok a → Accepts logic w t g a
accepts logic w t g a is =
    subst (IfAccepts logic w t g) is
    (verdict-cases logic w t g (IfAccepts logic w t g) (λ _. tt) (λ _ _ _. tt) (λ _ _ _ _. tt) (λ _ _ _ _ _. tt) (λ _ _ _ _ _ _ _. tt)
    (λ x known own knows left absent free. record { known = known; own = own; knows = knows; left = left }) (λ _ _ _ _ _ _ _ _. tt)
    (λ x known own knows left e found free. record { known = known; own = own; knows = knows; left = left }))

-- ---- a call

-- what becomes of the whole, by what the call rule answers
abbrev pub call_made : Whole → Party → List ℕ → Grain → codec.Call → Result Account Fault → Whole
call_made w sender t g call (Err why) = record w { replies = w.replies ++ told sender (Err why) }
call_made w sender t g call (Ok a) = record w {
  accounts = map.insert w.accounts t (record a { count = a.count + 1 });
  entries = map.insert w.entries g (with_request w.clock (next_request a sender call) (map.get w.entries g));
}

module _ (logic : Logic) (w : Whole) (caller : Client) (id : ℕ) (g : Grain) (call : codec.Call) where
  abbrev sender : Party
  sender = party.Client caller id

  abbrev accepted_whole : Account → Option Entry → Whole
  accepted_whole a found = record w {
    accounts = map.insert w.accounts caller.tenant (record a { count = a.count + 1 });
    entries = map.insert w.entries g (with_request w.clock (next_request a (party.Client caller id) call) found);
  }

  pub call_is : whole_step logic w (Call caller id g call) ≡ Some (call_made w (party.Client caller id) caller.tenant g call (verdict logic w caller.tenant g))
  call_is = verdict-cases logic w caller.tenant g (λ r. whole_step logic w (Call caller id g call) ≡ Some (call_made w (party.Client caller id) caller.tenant g call r))
      (call_unknown_tenant logic w caller id g call)
      (call_across logic w caller id g call)
      (call_unknown_kind logic w caller id g call)
      (call_no_number logic w caller id g call)
      (call_no_activation logic w caller id g call)
      (λ a known own knows left absent free. call_new logic w caller id g call a known own knows left absent free ∙ ap (λ o. Some (accepted_whole a o)) (sym absent))
      (call_mailbox_full logic w caller id g call)
      (λ a known own knows left e found free. call_again logic w caller id g call a known own knows left e found free ∙ ap (λ o. Some (accepted_whole a o)) (sym found))

-- ---- a delivery

-- the same, with the send taken out
abbrev pub delivery_made : Whole → Grain → Account → Send → List Send → Result Account Fault → Whole
delivery_made w g a sent others (Err why) = record w { accounts = map.insert w.accounts g.tenant (record a { sends = others }); replies = w.replies ++ told (party.Grain g) (Err why) }
delivery_made w g a sent others (Ok x) = record w {
  accounts = map.insert w.accounts g.tenant (record a { sends = others; count = a.count + 1 });
  entries = map.insert w.entries sent.message.target (with_request w.clock (next_request a (party.Grain g) sent.message.call) (map.get w.entries sent.message.target));
}

module _ (logic : Logic) (w : Whole) (g : Grain) (a : Account) (known : map.get w.accounts g.tenant ≡ Some a) (sent : Send) (others : List Send) (first : first_from g a.sends ≡ Some (sent, others)) where
  abbrev target : Grain
  target = sent.message.target

  abbrev IsMade : Result Account Fault → Type 0
  IsMade r = whole_step logic w (Deliver g) ≡ Some (delivery_made w g a sent others r)

  abbrev delivered_whole : Option Entry → Whole
  delivered_whole found = record w {
    accounts = map.insert w.accounts g.tenant (record a { sends = others; count = a.count + 1 });
    entries = map.insert w.entries target (with_request w.clock (next_request a (party.Grain g) sent.message.call) found);
  }

  pub same_account : (x : Account) → map.get w.accounts g.tenant ≡ Some x → x ≡ a
  same_account x is = same_Some x a (sym is ∙ known)

  pub delivery_is : whole_step logic w (Deliver g) ≡ Some (delivery_made w g a sent others (verdict logic w g.tenant target))
  delivery_is = verdict-cases logic w g.tenant target IsMade
      (λ none. absurd (none-some a (sym none ∙ known)))
      (λ x is apart. deliver_across logic w g a known sent others first apart)
      (λ x is own unknown. deliver_unknown_kind logic w g a known sent others first own unknown)
      (λ x is own knows spent. deliver_no_number logic w g a known sent others first own knows (ap (λ (y : Account). y.count == last_number) (sym (same_account x is)) ∙ spent))
      (λ x is own knows left absent full. deliver_no_activation logic w g a known sent others first own knows (ap (λ (y : Account). y.count == last_number) (sym (same_account x is)) ∙ left)
      absent (ap (λ (y : Account). nat_lt (active_of w g.tenant) y.limits.activations) (sym (same_account x is)) ∙ full))
      (λ x is own knows left absent free. deliver_new logic w g a known sent others first own knows (ap (λ (y : Account). y.count == last_number) (sym (same_account x is)) ∙ left)
      absent (ap (λ (y : Account). nat_lt (active_of w g.tenant) y.limits.activations) (sym (same_account x is)) ∙ free) ∙ ap (λ o. Some (delivered_whole o)) (sym absent))
      (λ x is own knows left e found full. deliver_mailbox_full logic w g a known sent others first own knows (ap (λ (y : Account). y.count == last_number) (sym (same_account x is)) ∙ left)
      e found (ap (λ (y : Account). nat_lt (length e.queue) y.limits.mailbox) (sym (same_account x is)) ∙ full))
      (λ x is own knows left e found free. deliver_again logic w g a known sent others first own knows (ap (λ (y : Account). y.count == last_number) (sym (same_account x is)) ∙ left)
      e found (ap (λ (y : Account). nat_lt (length e.queue) y.limits.mailbox) (sym (same_account x is)) ∙ free) ∙ ap (λ o. Some (delivered_whole o)) (sym found))
