-- Each part of a checkpoint's text is read back.
use Rattle.std.proofs.Common.{◌≡◌, ℕ, ◌<◌, ◌^◌, false, List, ◌++◌, length, get_or, Option, Some, None, refl, ap, ◌∙◌, arith, append_assoc}
use Rattle.std.specs.Prelude.{All, IfSome, codes, decimal, flat_map}
use Rattle.grain_id.specs.Names.{Grain, same_text}
use Rattle.tenant_accounts.specs.Kept.{KeptAccount, Send}
use Rattle.silo_model.specs.Opening.{KeptGrain}
use Rattle.journal_text.specs.Form.{written}
use Rattle.journal_text.specs.inside.Candidates.{◌⊗◌, grain_of, message_of, number_of, state_of, wide_of, word_of}
use Rattle.journal_text.proofs.Cuts.{IsField}
use Rattle.journal_text.proofs.FieldsBack.{Back, FieldBack, grain, last, message, more, number, state, two, wide, word}
use Rattle.journal_text.proofs.Numbers.{decimal_begins}
use Rattle.journal_text.proofs.Words.{differ}
use Rattle.checkpoint_text.specs.Rules.{IsAccount, IsGrain, IsSend}
use Rattle.checkpoint_text.specs.Text.{account_fields, account_text, grain_fields, grain_line, named, send_fields, send_line, version_text}
use Rattle.checkpoint_text.specs.inside.Reading.{account_at, counted_at, grain_at, moment_at, number_at, send_at, version_of}
use Rattle.checkpoint_text.proofs.Cuts.{named_back}
use Rattle.checkpoint_text.proofs.Times.{times_back}

pub number_back : (word : List ℕ) (n : ℕ) (rest : List ℕ) → IsField word → n < 2 ^ 64 → number_at word (named word (decimal n) ++ rest) ≡ Some (n, rest)
number_back word n rest is small =
    rw (named_back word (decimal n) rest is (last (wide n small)).plain, (wide n small).is) refl

pub moment_back : (word : List ℕ) (n : ℕ) (rest : List ℕ) → IsField word → n < 2 ^ 63 → moment_at word (named word (decimal n) ++ rest) ≡ Some (n, rest)
moment_back word n rest is small =
    rw (named_back word (decimal n) rest is (last (number n small)).plain, (number n small).is) refl

-- ---- what grains sent

pub fields_of_send : (s : Send) → IsSend s → Back (grain_of ⊗ grain_of ⊗ message_of written) (send_fields s) (s.source, (s.message.target, s.message.call))
fields_of_send s is = more (grain s.source is.0) (two (grain s.message.target is.1) (message written s.message.call is.2))

pub send_back : (s : Send) (rest : List ℕ) → IsSend s → send_at (send_line s ++ rest) ≡ Some (s, rest)
unfolding send_line
send_back s rest is =
    let b = fields_of_send s is in
    rw (named_back (codes "send") (send_fields s) rest refl b.plain, b.is) refl

-- ---- tenants

pub fields_of_account : (a : List ℕ × KeptAccount) → IsAccount a → Back (word_of ⊗ wide_of ⊗ wide_of) (account_fields a) (a.0, (a.1.count, length a.1.sends))
fields_of_account a is = more (word a.0 is.0) (two (wide a.1.count is.1) (wide (length a.1.sends) is.2))

pub account_back : (a : List ℕ × KeptAccount) (rest : List ℕ) → IsAccount a → account_at (account_text a ++ rest) ≡ Some (a, rest)
unfolding account_text
account_back a rest is =
    let b = fields_of_account a is in
    let line = named (codes "account") (account_fields a) in
    let sends = flat_map send_line a.1.sends in
    ap account_at (append_assoc line sends rest)
    ∙ rw (named_back (codes "account") (account_fields a) (sends ++ rest) refl b.plain, b.is, times_back send_at send_line IsSend send_back a.1.sends rest is.3) refl

-- ---- grains

no_dash : (n : ℕ) → n < 2 ^ 64 → same_text (decimal n) (codes "-") ≡ false
no_dash n small = differ (decimal n) (codes "-") (λ e. omega (arith, decimal_begins n (omega (arith, small)), ap (λ t. get_or t 0 0) e))

version_back : (version : Option ℕ) → IfSome version (λ v. v < 2 ^ 64) → FieldBack version_of (version_text version) version
version_back None is = record { whole = refl; is = refl }
version_back (Some v) is = record { whole = (wide v is).whole; is = rw (no_dash v is, (wide v is).is) refl }

pub fields_of_grain : (g : Grain × KeptGrain) → IsGrain g → Back (grain_of ⊗ version_of ⊗ number_of ⊗ wide_of ⊗ state_of written) (grain_fields g) (g.0, (g.1.version, (g.1.last, (g.1.until, g.1.state))))
fields_of_grain g is =
    more (grain g.0 is.0) (more (version_back g.1.version is.1) (more (number g.1.last is.2) (two (wide g.1.until is.3) (state written g.1.state is.4))))

pub grain_back : (g : Grain × KeptGrain) (rest : List ℕ) → IsGrain g → grain_at (grain_line g ++ rest) ≡ Some (g, rest)
unfolding grain_line
grain_back g rest is =
    let b = fields_of_grain g is in
    rw (named_back (codes "up") (grain_fields g) rest refl b.plain, b.is) refl

-- ---- lists

pub counted_back : {A : Type 0} (name : List ℕ) (read : List ℕ → Option (A × List ℕ)) (text : A → List ℕ) (Is : A → Type 0) → ((x : A) (rest : List ℕ) → Is x → read (text x ++ rest) ≡ Some (x, rest)) → (xs : List A) (rest : List ℕ) → IsField name → length xs < 2 ^ 64 → All Is xs → counted_at name read ((named name (decimal (length xs)) ++ flat_map text xs) ++ rest) ≡ Some (xs, rest)
counted_back name read text Is back xs rest is few all =
    ap (counted_at name read) (append_assoc (named name (decimal (length xs))) (flat_map text xs) rest)
    ∙ rw (number_back name (length xs) (flat_map text xs ++ rest) is few) (times_back read text Is back xs rest all)
