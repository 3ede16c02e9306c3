-- How many bytes the messages have of what was sent, with one more and with one less.
use Rattle.std.proofs.Common.{◌≡◌, ℕ, ◌+◌, Bool, true, false, cond, List, [], ◌∷◌, ◌++◌, Option, Some, None, refl, ap, sym, ◌∙◌, arith}
use Rattle.std.specs.Map.{lookup, remove_entry}
use Rattle.std.proofs.lemmas.List.Sums.{sum_by-cons, sum_by_push}
use Rattle.tenant_accounts.specs.declared.account.Sent.{Sent}
use Rattle.tenant_accounts.specs.Sends.{message_bytes, send_of, sent_bytes}
use Rattle.tenant_accounts.proofs.Takes.{shown, shown_last}

-- one more comes last
pub bytes_last : (es : List (ℕ × Sent)) (e : ℕ × Sent) → sent_bytes (shown (es ++ e ∷ [])) ≡ sent_bytes (shown es) + message_bytes (send_of e.1)
bytes_last es e = ap sent_bytes (shown_last es e) ∙ sum_by_push message_bytes (shown es) (send_of e.1)

-- of what is found, if anything is
abbrev pub found_bytes : Option Sent → ℕ
found_bytes None = 0
found_bytes (Some s) = message_bytes (send_of s)

-- what is found at a number goes
pub bytes_out : (here : ℕ → Bool) (es : List (ℕ × Sent)) → sent_bytes (shown es) ≡ found_bytes (lookup here es) + sent_bytes (shown (remove_entry here es))
bytes_out here [] = refl
bytes_out here (e ∷ es) = by (here e.0) (bytes_out here es)
  where
    left : List (ℕ × Sent)
    left = remove_entry here es

    by : (b : Bool) → sent_bytes (shown es) ≡ found_bytes (lookup here es) + sent_bytes (shown left)
        → sent_bytes (shown (e ∷ es)) ≡ found_bytes (cond b (Some e.1) (lookup here es)) + sent_bytes (shown (cond b es (e ∷ left)))
    by true rest = sum_by-cons message_bytes (send_of e.1) (shown es)
    by false rest = omega (arith, rest, sum_by-cons message_bytes (send_of e.1) (shown es), sum_by-cons message_bytes (send_of e.1) (shown left))

module _ (es : List (ℕ × Sent)) (bytes : ℕ) (counted : bytes ≡ sent_bytes (shown es)) where
  pub bytes_more : (e : ℕ × Sent) (more : ℕ) → more ≡ bytes + message_bytes (send_of e.1) → more ≡ sent_bytes (shown (es ++ e ∷ []))
  bytes_more e more is = is ∙ ap (λ n. n + message_bytes (send_of e.1)) counted ∙ sym (bytes_last es e)

  -- what is left of the bytes, with those of the last
  pub bytes_without_last : (left : List (ℕ × Sent)) (e : ℕ × Sent) → es ≡ left ++ e ∷ [] → bytes ≡ sent_bytes (shown left) + message_bytes (send_of e.1)
  bytes_without_last left e last = counted ∙ ap (λ es. sent_bytes (shown es)) last ∙ bytes_last left e

  module _ (here : ℕ → Bool) where
    -- what is left of the bytes, with those of what is found
    pub bytes_without : (s : Sent) → lookup here es ≡ Some s → bytes ≡ message_bytes (send_of s) + sent_bytes (shown (remove_entry here es))
    bytes_without s found = counted ∙ bytes_out here es ∙ ap (λ o. found_bytes o + sent_bytes (shown (remove_entry here es))) found

    pub bytes_kept : lookup here es ≡ None → bytes ≡ sent_bytes (shown (remove_entry here es))
    bytes_kept none = counted ∙ bytes_out here es ∙ ap (λ o. found_bytes o + sent_bytes (shown (remove_entry here es))) none ∙ omega arith
