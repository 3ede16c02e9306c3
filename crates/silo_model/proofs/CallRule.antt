-- What the call rule answers, by what is seen: for a call of a client, and for one that a grain sent.
use Rattle.silo_model.proofs.Common.{if◌then◌else◌, ◌==◌, ◌∙◌, ◌≡◌, ◌≢◌, Account, AcrossTenants, Bool, Context, Entry, Err, Fault, Grain}
use Rattle.silo_model.proofs.Common.{Logic, MailboxFull, NoActivation, NoNumber, None, Ok, Option, Party, Result, Some, UnknownKind}
use Rattle.silo_model.proofs.Common.{UnknownTenant, accepted, ap, called, false, gate, last_number, length, nat_lt, only_replies, refl}
use Rattle.silo_model.proofs.Common.{same_text, same_text_decides, told, true}
use Rattle.request_codec.specs.Call as codec
use Rattle.silo_model.specs.Calls.{admitted, call_settled, kind_gate, room}
use Rattle.silo_model.proofs.Contexts.{same_text-apart}

module _ (logic : Logic) (s : Context) (g : Grain) where
  -- ---- the gate

  pub gate_unknown_tenant : s.account ≡ None → gate logic s s.account g ≡ Err (UnknownTenant s.tenant)
  gate_unknown_tenant none = ap (λ found. gate logic s found g) none

  module _ (a : Account) (known : s.account ≡ Some a) where
    pub gate_by : (own : Bool) → same_text g.tenant s.tenant ≡ own → gate logic s s.account g ≡ (if own then kind_gate logic a g else Err (AcrossTenants s.tenant g.tenant))
    gate_by own is = ap (λ found. gate logic s found g) known ∙ ap (λ b. if b then kind_gate logic a g else Err (AcrossTenants s.tenant g.tenant)) is

    pub gate_across : g.tenant ≢ s.tenant → gate logic s s.account g ≡ Err (AcrossTenants s.tenant g.tenant)
    gate_across apart = gate_by false (same_text-apart g.tenant s.tenant apart)

    module _ (own : g.tenant ≡ s.tenant) where
      gate_kind : (knows : Bool) → logic.knows g.kind ≡ knows → gate logic s s.account g ≡ (if knows then Ok a else Err (UnknownKind g.kind))
      gate_kind knows is = gate_by true ((same_text_decides g.tenant s.tenant).1 own) ∙ ap (λ b. if b then Ok a else Err (UnknownKind g.kind)) is

      pub gate_unknown_kind : logic.knows g.kind ≡ false → gate logic s s.account g ≡ Err (UnknownKind g.kind)
      gate_unknown_kind unknown = gate_kind false unknown

      pub gate_passed : logic.knows g.kind ≡ true → gate logic s s.account g ≡ Ok a
      gate_passed knows = gate_kind true knows

  -- ---- the rule

  module _ (sender : Party) (call : codec.Call) where
    called_by : (passed r : Result Account Fault) → gate logic s s.account g ≡ passed → admitted s g passed ≡ r → called logic s sender g call ≡ call_settled s sender call r
    unfolding called
    called_by passed r is h = ap (λ p. call_settled s sender call (admitted s g p)) is ∙ ap (call_settled s sender call) h

    -- a request that the gate refuses
    pub called_refused : (why : Fault) → gate logic s s.account g ≡ Err why → called logic s sender g call ≡ only_replies (told sender (Err why))
    called_refused why is = called_by (Err why) (Err why) is refl

    module _ (a : Account) (passed : gate logic s s.account g ≡ Ok a) where
      admitted_by : (spent : Bool) → (a.count == last_number) ≡ spent → (found : Option Entry) → s.entry ≡ found → admitted s g (Ok a) ≡ (if spent then Err (NoNumber s.tenant) else room s a g found)
      admitted_by spent last found is = (λ i. if last i then Err (NoNumber s.tenant) else room s a g (is i))

      -- no number is left
      pub called_no_number : (a.count == last_number) ≡ true → called logic s sender g call ≡ only_replies (told sender (Err (NoNumber s.tenant)))
      called_no_number spent = called_by (Ok a) (Err (NoNumber s.tenant)) passed (admitted_by true spent s.entry refl)

      module _ (left : (a.count == last_number) ≡ false) where
        -- the tenant may have no more entries
        pub called_no_activation : s.entry ≡ None → nat_lt s.active a.limits.activations ≡ false → called logic s sender g call ≡ only_replies (told sender (Err (NoActivation s.tenant)))
        called_no_activation absent full =
            called_by (Ok a) (Err (NoActivation s.tenant)) passed (admitted_by false left None absent ∙ ap (λ b. if b then Ok a else Err (NoActivation s.tenant)) full)

        pub called_new : s.entry ≡ None → nat_lt s.active a.limits.activations ≡ true → called logic s sender g call ≡ accepted s sender call a
        called_new absent free =
            called_by (Ok a) (Ok a) passed (admitted_by false left None absent ∙ ap (λ b. if b then Ok a else Err (NoActivation s.tenant)) free)

        -- as many requests wait as may
        pub called_full : (e : Entry) → s.entry ≡ Some e → nat_lt (length e.queue) a.limits.mailbox ≡ false → called logic s sender g call ≡ only_replies (told sender (Err (MailboxFull g)))
        called_full e found full =
            called_by (Ok a) (Err (MailboxFull g)) passed (admitted_by false left (Some e) found ∙ ap (λ b. if b then Ok a else Err (MailboxFull g)) full)

        pub called_again : (e : Entry) → s.entry ≡ Some e → nat_lt (length e.queue) a.limits.mailbox ≡ true → called logic s sender g call ≡ accepted s sender call a
        called_again e found free =
            called_by (Ok a) (Ok a) passed (admitted_by false left (Some e) found ∙ ap (λ b. if b then Ok a else Err (MailboxFull g)) free)
