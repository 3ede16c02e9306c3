-- The parts of a head.
use Rattle.std.proofs.Common.{◌≡◌, ◌∙◌, true, false, true≢false, List, [], ◌∷◌, ◌++◌, ◌+◌, ◌-◌, ◌<◌, length, take, drop, append_assoc, refl, ap, sym, subst, arith, ℕ}
use Rattle.std.proofs.lemmas.List.{append_cancel_left, length-append}
use Rattle.std.proofs.Math.Seq.{drop-append_seam, take-append_seam}
use Rattle.log_text.specs.Lines.{HasNoBreak, ended, whole_lines}
use Rattle.log_text.specs.Sums.{after, spelled}
use Rattle.log_text.specs.Head.{IsNumber, head_start, head_text, summed_head}
use Rattle.log_text.specs.Reading.{same_text}
use Rattle.log_text.proofs.CutBytes.{all_behind, before_end}
use Rattle.log_text.proofs.Lines.{no_line, one_line, plain_append}
use Rattle.log_text.proofs.Spelled.{spells_plain}
use Rattle.log_text.proofs.Stands.{same_from_text}
use Rattle.log_text.proofs.Written.{same_itself}

cons_none : {A : Type 0} (x : A) (xs : List A) → x ∷ xs ≡ [] → ⊥
cons_none x xs e = cc

same_first : (x y : List ℕ) (xs ys : List (List ℕ)) → x ∷ xs ≡ y ∷ ys → x ≡ y
same_first x y xs ys e = cc

same_rest : (x y : ℕ) (xs ys : List ℕ) → x ∷ xs ≡ y ∷ ys → xs ≡ ys
same_rest x y xs ys e = cc

-- what stands behind the words
in_line : (words number sum behind : List ℕ) → summed_head words number ++ (ended sum ++ behind) ≡ head_start words ++ ((number ++ 32 ∷ sum) ++ 10 ∷ behind)
in_line words number sum behind =
    append_assoc (head_start words) (number ++ 32 ∷ []) (ended sum ++ behind)
    ∙ ap (λ l. head_start words ++ l) (append_assoc number (32 ∷ []) (ended sum ++ behind)
    ∙ ap (λ l. number ++ 32 ∷ l) (append_assoc sum (10 ∷ []) behind)
    ∙ sym (append_assoc number (32 ∷ sum) (10 ∷ behind)))

behind_start : (words number sum behind rest bytes : List ℕ) → bytes ≡ head_start words ++ rest → bytes ≡ summed_head words number ++ (ended sum ++ behind)
    → rest ≡ (number ++ 32 ∷ sum) ++ 10 ∷ behind
behind_start words number sum behind rest bytes is same =
    append_cancel_left (head_start words) rest ((number ++ 32 ∷ sum) ++ 10 ∷ behind) (sym is ∙ same ∙ in_line words number sum behind)

plain_line : (number sum : List ℕ) → IsNumber number → HasNoBreak sum → HasNoBreak (number ++ 32 ∷ sum)
plain_line number sum fine plain = plain_append number (32 ∷ sum) fine.1 (refl, plain)

-- other words
pub no_start : (words number sum behind bytes : List ℕ) → ((rest : List ℕ) → bytes ≡ head_start words ++ rest → ⊥)
    → bytes ≡ summed_head words number ++ (ended sum ++ behind) → ⊥
no_start words number sum behind bytes none same = none ((number ++ 32 ∷ sum) ++ 10 ∷ behind) (same ∙ in_line words number sum behind)

-- no LF behind the words
pub no_number : (words number sum behind rest bytes : List ℕ) → bytes ≡ head_start words ++ rest → HasNoBreak rest → IsNumber number → HasNoBreak sum
    → bytes ≡ summed_head words number ++ (ended sum ++ behind) → ⊥
no_number words number sum behind rest bytes is none fine plain same =
    let line : List ℕ = number ++ 32 ∷ sum in
    cons_none line (whole_lines behind)
    (sym (one_line line behind (plain_line number sum fine plain)) ∙ sym (ap whole_lines (behind_start words number sum behind rest bytes is same)) ∙ no_line rest none)

-- the line behind the words
pub same_line : (words number sum behind rest bytes line others : List ℕ) → bytes ≡ head_start words ++ rest → HasNoBreak line → rest ≡ line ++ 10 ∷ others
    → IsNumber number → HasNoBreak sum → bytes ≡ summed_head words number ++ (ended sum ++ behind) → line ≡ number ++ 32 ∷ sum
same_line words number sum behind rest bytes line others is plain cut fine sums same =
    let other : List ℕ = number ++ 32 ∷ sum in
    same_first line other (whole_lines others) (whole_lines behind)
    (sym (one_line line others plain) ∙ sym (ap whole_lines cut) ∙ ap whole_lines (behind_start words number sum behind rest bytes is same)
    ∙ one_line other behind (plain_line number sum fine sums))

-- fewer than sixteen bytes
pub too_short : (number sum line : List ℕ) → length line < 16 → IsNumber number → line ≡ number ++ 32 ∷ sum → ⊥
too_short number sum line few fine is = omega (arith, few, fine.0, ap length is, length-append number (32 ∷ sum))

-- no space behind them
pub no_space : (number sum line end : List ℕ) → end ≡ drop 16 line → ((rest : List ℕ) → end ≡ 32 ∷ rest → ⊥) → IsNumber number → line ≡ number ++ 32 ∷ sum → ⊥
no_space number sum line end cut none fine is =
    none sum (cut ∙ ap (drop 16) is ∙ ap (λ k. drop k (number ++ 32 ∷ sum)) (sym fine.0) ∙ drop-append_seam number (32 ∷ sum))

plain_first : (xs ys : List ℕ) → HasNoBreak (xs ++ ys) → HasNoBreak xs
plain_first [] ys plain = tt
plain_first (x ∷ xs) ys plain = (plain.0, plain_first xs ys plain.1)

plain_last : (xs ys : List ℕ) → HasNoBreak (xs ++ ys) → HasNoBreak ys
plain_last [] ys plain = plain
plain_last (x ∷ xs) ys plain = plain_last xs ys plain.1

-- the parts of a line that has them
pub parts_there : (words number sum others rest bytes line end : List ℕ) → bytes ≡ head_start words ++ rest → HasNoBreak line → rest ≡ line ++ 10 ∷ others
    → line ≡ number ++ end → end ≡ 32 ∷ sum → length number ≡ 16 → IsNumber number × HasNoBreak sum × (bytes ≡ summed_head words number ++ (ended sum ++ others))
parts_there words number sum others rest bytes line end is plain cut split space sized =
    let whole : line ≡ number ++ 32 ∷ sum = split ∙ ap (λ l. number ++ l) space in
    let all = subst HasNoBreak whole plain in (
      (sized, plain_first number (32 ∷ sum) all),
      (plain_last number (32 ∷ sum) all).1,
      is ∙ ap (λ l. head_start words ++ l) (cut ∙ ap (λ l. l ++ 10 ∷ others) whole) ∙ sym (in_line words number sum others),
    )

-- what stands before the sum
pub before_sum : (words number sum behind bytes : List ℕ) → bytes ≡ summed_head words number ++ (ended sum ++ behind)
    → take (length bytes - ((length sum + 1) + length behind)) bytes ≡ summed_head words number
before_sum words number sum behind bytes is =
    let end : List ℕ = ended sum ++ behind in
    let sized : (length sum + 1) + length behind ≡ length end = omega (arith, length-append (ended sum) behind, length-append sum (10 ∷ [])) in
    ap (λ k. take (length bytes - k) bytes) sized ∙ before_end bytes (summed_head words number) end is

-- its sum, added
pub summed_there : (old words number start : List ℕ) (n k : ℕ) → start ≡ old ++ summed_head words number → k ≡ length old
    → n ≡ after 0 (take (length start - k) (drop k start)) → (start ++ spelled n) ++ 10 ∷ [] ≡ old ++ head_text words number
summed_there old words number start n k is placed added =
    let head : List ℕ = summed_head words number in
    let behind : drop k start ≡ head = ap (λ j. drop j start) placed ∙ ap (drop (length old)) is ∙ drop-append_seam old head in
    let sum : n ≡ after 0 head = added ∙ ap (after 0) (all_behind k start ∙ behind) in
    append_assoc start (spelled n) (10 ∷ [])
    ∙ ap (λ l. l ++ ended (spelled n)) is
    ∙ append_assoc old head (ended (spelled n))
    ∙ ap (λ m. old ++ (head ++ ended (spelled m))) sum

-- its sum is that of the head
pub whole_head : (words number sum behind bytes : List ℕ) (n : ℕ) → bytes ≡ summed_head words number ++ (ended sum ++ behind)
    → n ≡ after 0 (summed_head words number) → same_text sum (spelled n) ≡ true → bytes ≡ head_text words number ++ behind
whole_head words number sum behind bytes n is added same =
    is
    ∙ ap (λ l. summed_head words number ++ (ended l ++ behind)) (same_from_text sum (spelled n) same ∙ ap spelled added)
    ∙ sym (append_assoc (summed_head words number) (ended (spelled (after 0 (summed_head words number)))) behind)

-- two heads of the same bytes have one number and one sum
one_head : (number other sum given : List ℕ) → IsNumber number → IsNumber other → number ++ 32 ∷ sum ≡ other ++ 32 ∷ given → (number ≡ other) × (sum ≡ given)
one_head number other sum given fine also same =
    let first : (n : List ℕ) (s : List ℕ) → IsNumber n → take 16 (n ++ 32 ∷ s) ≡ n = λ n s is.
    ap (λ k. take k (n ++ 32 ∷ s)) (sym is.0) ∙ take-append_seam n (32 ∷ s) in
    let last : (n : List ℕ) (s : List ℕ) → IsNumber n → drop 16 (n ++ 32 ∷ s) ≡ 32 ∷ s = λ n s is.
    ap (λ k. drop k (n ++ 32 ∷ s)) (sym is.0) ∙ drop-append_seam n (32 ∷ s) in (
      sym (first number sum fine) ∙ ap (take 16) same ∙ first other given also,
      same_rest 32 32 sum given (sym (last number sum fine) ∙ ap (drop 16) same ∙ last other given also),
    )

-- or it isn't, and no other is
pub other_head : (words number sum behind other after_other bytes : List ℕ) (n : ℕ) → IsNumber number → HasNoBreak sum
    → bytes ≡ summed_head words number ++ (ended sum ++ behind) → n ≡ after 0 (summed_head words number) → same_text sum (spelled n) ≡ false
    → IsNumber other → bytes ≡ head_text words other ++ after_other → ⊥
other_head words number sum behind other after_other bytes n fine plain is added unlike also same =
    let given : List ℕ = spelled (after 0 (summed_head words other)) in
    let there : bytes ≡ summed_head words other ++ (ended given ++ after_other) = same ∙ append_assoc (summed_head words other) (ended given) after_other in
    let rest : List ℕ = (number ++ 32 ∷ sum) ++ 10 ∷ behind in
    let line = same_line words other given after_other rest bytes (number ++ 32 ∷ sum) behind (is ∙ in_line words number sum behind) (plain_line number sum fine plain) refl
    also (spells_plain (after 0 (summed_head words other))) there in
    let one = one_head number other sum given fine also line in
    let fits : sum ≡ spelled n = one.1 ∙ ap (λ m. spelled (after 0 (summed_head words m))) (sym one.0) ∙ ap spelled (sym added) in
    true≢false (sym (ap (λ l. same_text l (spelled n)) fits ∙ same_itself (spelled n)) ∙ unlike)
