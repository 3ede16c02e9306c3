-- Bytes that are cut in two.
use Rattle.std.proofs.Common.{◌≡◌, ◌≢◌, ◌∙◌, true, false, true≢false, List, [], ◌∷◌, ◌++◌, ◌+◌, ◌-◌, ◌<◌, length, take, drop, append_assoc, refl, ap, sym, arith, ℕ, zero, suc, inl, inr, Bor, Option, Some, None}
use Rattle.std.specs.Prelude.{option_map, slice_index, MatchOption, nat_eq}
use Rattle.std.specs.Cmp.Lexicographic.{pointwise}
use Rattle.std.proofs.lemmas.Bool.Decides.{eqb_tells}
use Rattle.std.proofs.lemmas.List.{append_cancel_left, length-append, length-drop, take-append-drop}
use Rattle.std.proofs.Math.Seq.{take-append_seam, take-length}
use Rattle.log_text.specs.Lines.{HasNoBreak}
use Rattle.log_text.specs.Answers.{Strips}
use Rattle.log_text.specs.Reading.{same_text}
use Rattle.log_text.proofs.Stands.{same_from_text}
use Rattle.log_text.proofs.Written.{same_itself}

-- ---- breaks

pub plain_by : (bytes : List ℕ) → ((k : ℕ) → k < length bytes → slice_index bytes k ≢ 10) → HasNoBreak bytes
plain_by [] none = tt
plain_by (b ∷ bytes) none = (
  elim (eqb_tells b 10) [
    | inl is ↦ absurd (none 0 (omega arith) is.1)
    | inr is ↦ is.0
  ],
  plain_by bytes (λ k inside. none (suc k) (omega (arith, inside))),
)

-- all that stands behind a place
pub all_behind : (k : ℕ) (xs : List ℕ) → take (length xs - k) (drop k xs) ≡ drop k xs
all_behind k xs = ap (λ n. take n (drop k xs)) (sym (length-drop k xs)) ∙ take-length (drop k xs)

-- bytes are what stands before a place, what stands there, and what stands behind it
cut_by : (bytes : List ℕ) (at : ℕ) → at < length bytes → bytes ≡ take at bytes ++ slice_index bytes at ∷ drop (suc at) bytes
cut_by [] at inside = absurd (omega (arith, inside))
cut_by (b ∷ bytes) zero inside = refl
cut_by (b ∷ bytes) (suc at) inside = ap (λ l. b ∷ l) (cut_by bytes at (omega (arith, inside)))

pub cut_there : (bytes : List ℕ) (at : ℕ) → at < length bytes → slice_index bytes at ≡ 10
    → bytes ≡ take at bytes ++ 10 ∷ take (length bytes - (at + 1)) (drop (at + 1) bytes)
cut_there bytes at inside is =
    let next : suc at ≡ at + 1 = omega arith in
    cut_by bytes at inside
    ∙ ap (λ b. take at bytes ++ b ∷ drop (suc at) bytes) is
    ∙ ap (λ k. take at bytes ++ 10 ∷ drop k bytes) next
    ∙ ap (λ l. take at bytes ++ 10 ∷ l) (sym (all_behind (at + 1) bytes))

-- what stands before an end
pub before_end : (line front end : List ℕ) → line ≡ front ++ end → take (length line - length end) line ≡ front
before_end line front end is =
    let sized : length line - length end ≡ length front = omega (arith, ap length is, length-append front end) in
    ap (λ k. take k line) sized ∙ ap (take (length front)) is ∙ take-append_seam front end

-- ---- prefixes

pub strips : (prefix bytes : List ℕ) (found : Option (Bor (List ℕ)))
    → MatchOption found (pointwise nat_eq (take (length prefix) bytes) prefix ≡ false)
    (λ x. (pointwise nat_eq (take (length prefix) bytes) prefix ≡ true) × (x.now ≡ drop (length prefix) bytes) × (length x.now + length prefix ≡ length bytes))
    → Strips prefix bytes (option_map (λ rest. rest.now) found)
strips prefix bytes None found = λ rest is.
    absurd (true≢false (sym (ap (λ l. same_text l prefix) (ap (take (length prefix)) is ∙ take-append_seam prefix rest) ∙ same_itself prefix) ∙ found))
strips prefix bytes (Some rest) found =
    sym (take-append-drop (length prefix) bytes)
    ∙ ap (λ l. l ++ drop (length prefix) bytes) (same_from_text (take (length prefix) bytes) prefix found.0)
    ∙ ap (λ l. prefix ++ l) (sym found.1)

-- behind one prefix another
pub strips_more : (first second bytes mid : List ℕ) (found : Option (Bor (List ℕ))) → bytes ≡ first ++ mid
    → Strips second mid (option_map (λ rest. rest.now) found) → Strips (first ++ second) bytes (option_map (λ rest. rest.now) found)
strips_more first second bytes mid None is none = λ rest same.
    none rest (append_cancel_left first mid (second ++ rest) (sym is ∙ same ∙ append_assoc first second rest))
strips_more first second bytes mid (Some rest) is found =
    is ∙ ap (λ l. first ++ l) found ∙ sym (append_assoc first second rest.now)
