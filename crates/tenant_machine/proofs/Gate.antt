-- What the gate and the call rule say where they let a request pass.
use Rattle.silo_model.proofs.Common.{◌<◌, ◌==◌, ◌∙◌, ◌≡◌, Account, AcrossTenants, Bool, Context, Entry, Err, Fault, Grain, Logic, Machine, MailboxFull, NoActivation, NoNumber, None, Ok, Option, Result, Some, UnknownKind, ap, false, gate, if◌then◌else◌, last_number, length, lt-ltb, nat_lt, refl, same_text, sym, true}
use Rattle.silo_model.specs.Calls.{kind_gate, room, admitted}
use Rattle.silo_state.specs.Verdicts.{Settles}
use Rattle.silo_state.proofs.AtRows.{same_Ok}
use Rattle.tenant_machine.specs.inside.Requests.{seen_at, gated, verdict}

-- the same account, of one result or another
same_account : (x a : Account) → ◌≡◌ {A = Result Account Fault} (Ok x) (Ok a) → x ≡ a
same_account x a e = same_Ok (Ok x) x a refl e

module _ (logic : Logic) (s : Context) (g : Grain) where
  kind_ok : (x a : Account) (knows : Bool) → logic.knows g.kind ≡ knows → (if knows then Ok x else Err (UnknownKind g.kind)) ≡ Ok a → (x ≡ a) × (logic.knows g.kind ≡ true)
  kind_ok x a true is e = (same_account x a e, is)
  kind_ok x a false is e = absurd cc

  own_ok : (x a : Account) (own : Bool) → (if own then kind_gate logic x g else Err (AcrossTenants s.tenant g.tenant)) ≡ Ok a → (x ≡ a) × (logic.knows g.kind ≡ true)
  own_ok x a true e = kind_ok x a (logic.knows g.kind) refl e
  own_ok x a false e = absurd cc

  -- the account is the tenant's, and the grain's kind is known
  pub gate_ok : (account : Option Account) (a : Account) → gate logic s account g ≡ Ok a → (account ≡ Some a) × (logic.knows g.kind ≡ true)
  gate_ok None a e = absurd cc
  gate_ok (Some x) a e = let found = own_ok x a (same_text g.tenant s.tenant) e in (ap Some found.0, found.1)

  free_ok : (x a : Account) (free : Bool) (why : Fault) → (if free then Ok x else Err why) ≡ Ok a → x ≡ a
  free_ok x a true why e = same_account x a e
  free_ok x a false why e = absurd cc

  room_ok : (x a : Account) (found : Option Entry) → room s x g found ≡ Ok a → x ≡ a
  room_ok x a None e = free_ok x a (nat_lt s.active x.limits.activations) (NoActivation s.tenant) e
  room_ok x a (Some f) e = free_ok x a (nat_lt (length f.queue) x.limits.mailbox) (MailboxFull g) e

  number_ok : (x a : Account) (spent : Bool) → (x.count == last_number) ≡ spent → (if spent then Err (NoNumber s.tenant) else room s x g s.entry) ≡ Ok a → (x ≡ a) × ((x.count == last_number) ≡ false)
  number_ok x a true is e = absurd cc
  number_ok x a false is e = (room_ok x a s.entry e, is)

  -- it passed the gate, and a number is left
  pub admitted_ok : (r : Result Account Fault) (a : Account) → admitted s g r ≡ Ok a → (r ≡ Ok a) × ((a.count == last_number) ≡ false)
  admitted_ok (Ok x) a e = let found = number_ok x a (x.count == last_number) refl e in (ap Ok found.0, ap (λ (y : Account). y.count == last_number) (sym found.0) ∙ found.1)
  admitted_ok (Err why) a e = absurd cc

-- What a request says that is accepted.
pub record Accepts (logic : Logic) (m : Machine) (g : Grain) (a : Account) : Type 0 where
  pub known : m.account ≡ Some a
  pub knows : logic.knows g.kind ≡ true
  pub left : (a.count == last_number) ≡ false

pub accepts : (logic : Logic) (m : Machine) (g : Grain) (a : Account) → verdict logic m g ≡ Ok a → Accepts logic m g a
accepts logic m g a e =
    let admits = admitted_ok logic (seen_at m g) g (gated logic m g) a e in
    let passes = gate_ok logic (seen_at m g) g m.account a admits.0 in
    record { known = passes.0; knows = passes.1; left = admits.1 }

-- ---- room

module _ (s : Context) (g : Grain) (a : Account) (found : Option Entry) where
  pub new_free : found ≡ None → s.active < a.limits.activations → Settles (room s a g found) None
  new_free is free = (a, ap (room s a g) is ∙ ap (λ b. if b then Ok a else Err (NoActivation s.tenant)) (lt-ltb s.active a.limits.activations free))

  module _ (e : Entry) (is : found ≡ Some e) where
    pub again_free : length e.queue < a.limits.mailbox → Settles (room s a g found) None
    again_free free = (a, ap (room s a g) is ∙ ap (λ b. if b then Ok a else Err (MailboxFull g)) (lt-ltb (length e.queue) a.limits.mailbox free))
