-- A line that is a mark, or is none.
use Rattle.std.proofs.Common.{◌≡◌, ◌∙◌, Bool, true, false, true≢false, List, [], ◌∷◌, ◌++◌, ◌+◌, length, take, drop, append_assoc, refl, ap, sym, arith, ℕ}
use Rattle.std.proofs.lemmas.List.{append_cancel_left, length-append, length-drop, length-take, take-append-drop}
use Rattle.std.proofs.Math.Seq.{drop-append_seam, take-append_seam}
use Rattle.std.specs.Int.{w64, to_be_bytes}
use Rattle.hex.proofs.HexLemmas.{length-encode_with}
use Rattle.hex.specs.Hex.{lower_digits}
use Rattle.log_text.specs.Sums.{Sums, after, own_sums, spelled}
use Rattle.log_text.specs.Batches.{lines_text, mark_behind, mark_line, mark_place, mark_start, sum_behind}
use Rattle.log_text.specs.Reading.{begins_with, closed, same_text, told_in}
use Rattle.log_text.proofs.Stands.{same_from_text}
use Rattle.log_text.proofs.Written.{same_itself, told_there}

-- it begins so
pub begins : (first line rest : List ℕ) → line ≡ first ++ rest → begins_with first line ≡ true
begins first line rest is = ap (λ l. same_text l first) (ap (take (length first)) is ∙ take-append_seam first rest) ∙ same_itself first

pub by_test : (b : Bool) → (b ≡ true → ⊥) → b ≡ false
by_test true none = absurd (none refl)
by_test false none = refl

pub behind_it : (first line : List ℕ) → begins_with first line ≡ true → line ≡ first ++ drop (length first) line
behind_it first line is =
    sym (take-append-drop (length first) line) ∙ ap (λ l. l ++ drop (length first) line) (same_from_text (take (length first) line) first is)

pub begins_not : (first line : List ℕ) → ((rest : List ℕ) → line ≡ first ++ rest → ⊥) → begins_with first line ≡ false
begins_not first line none = by_test (begins_with first line) (λ is. none (drop (length first) line) (behind_it first line is))

-- ---- a mark's parts

pub in_parts : (name asked told sum : List ℕ) → mark_start own_sums name asked told ++ sum ≡ mark_place own_sums name (length asked) ++ (32 ∷ (told ++ 32 ∷ sum))
in_parts name asked told sum =
    append_assoc (mark_place own_sums name (length asked)) (32 ∷ (told ++ 32 ∷ [])) sum
    ∙ ap (λ l. mark_place own_sums name (length asked) ++ (32 ∷ l)) (append_assoc told (32 ∷ []) sum)

-- what stands behind the number of the bytes, if it is a mark
pub parted_there : (name asked told sum line rest : List ℕ) → line ≡ mark_place own_sums name (length asked) ++ rest
    → line ≡ mark_start own_sums name asked told ++ sum → rest ≡ 32 ∷ (told ++ 32 ∷ sum)
parted_there name asked told sum line rest is same =
    append_cancel_left (mark_place own_sums name (length asked)) rest (32 ∷ (told ++ 32 ∷ sum)) (sym is ∙ same ∙ in_parts name asked told sum)

-- behind sixteen bytes no space
pub no_space : (rest behind end told sum : List ℕ) → rest ≡ 32 ∷ behind → end ≡ drop 16 behind → ((r : List ℕ) → end ≡ 32 ∷ r → ⊥)
    → length told ≡ 16 → rest ≡ 32 ∷ (told ++ 32 ∷ sum) → ⊥
no_space rest behind end told sum is cut none sized same =
    let there : behind ≡ told ++ 32 ∷ sum = append_cancel_left (32 ∷ []) behind (told ++ 32 ∷ sum) (sym is ∙ same) in
    none sum (cut ∙ ap (drop 16) there ∙ ap (λ k. drop k (told ++ 32 ∷ sum)) (sym sized) ∙ drop-append_seam told (32 ∷ sum))

-- its sum isn't that of the bytes
pub other_sum : (name asked line there given told : List ℕ) (sum next : ℕ) → line ≡ mark_start own_sums name asked there ++ given → length there ≡ 16
    → next ≡ after sum (asked ++ mark_start own_sums name asked there) → same_text given (spelled next) ≡ false
    → length told ≡ 16 → line ≡ mark_behind own_sums name sum asked told → ⊥
other_sum name asked line there given told sum next is sized added other fits same =
    let s = spelled (after sum (asked ++ mark_start own_sums name asked told)) in
    let one : told ≡ there =
    sym (told_there own_sums name asked told s fits) ∙ ap (told_in own_sums name (length asked)) (sym same ∙ is) ∙ told_there own_sums name asked there given sized in
    let rest : given ≡ spelled next =
    append_cancel_left (mark_start own_sums name asked there) given (spelled next)
    (sym is ∙ same ∙ ap (λ t. mark_behind own_sums name sum asked t) one ∙ ap (λ n. mark_start own_sums name asked there ++ spelled n) (sym added)) in
    true≢false (sym (ap (λ l. same_text l (spelled next)) rest ∙ same_itself (spelled next)) ∙ other)

pub own_sum : (name asked line there given : List ℕ) (sum next : ℕ) → line ≡ mark_start own_sums name asked there ++ given
    → next ≡ after sum (asked ++ mark_start own_sums name asked there) → same_text given (spelled next) ≡ true → line ≡ mark_behind own_sums name sum asked there
own_sum name asked line there given sum next is added same =
    is ∙ ap (λ l. mark_start own_sums name asked there ++ l) (same_from_text given (spelled next) same) ∙ ap (λ n. mark_start own_sums name asked there ++ spelled n) added

pub length-spelled : (n : ℕ) → length (spelled n) ≡ 16
unfolding spelled
length-spelled n = length-encode_with lower_digits (to_be_bytes w64 n)

-- a mark that fits says what was told in sixteen bytes
pub told_sized : (sums : Sums) (name line : List ℕ) (sum : ℕ) (lines : List (List ℕ)) → line ≡ mark_line sums name sum (closed sums name lines line)
    → length (told_in sums name (length (lines_text lines)) line) ≡ 16
told_sized sums name line sum lines is =
    let count = length (lines_text lines) in
    let told : List ℕ = told_in sums name count line in
    let place : List ℕ = mark_place sums name count in
    let next : List ℕ = sums.spelled (sum_behind sums name sum (lines_text lines) told) in
    omega (
      arith,
      ap length is,
      length-append (mark_start sums name (lines_text lines) told) next,
      length-append place (32 ∷ (told ++ 32 ∷ [])),
      length-append told (32 ∷ []),
      length-take 16 (drop (length place + 1) line),
      length-drop (length place + 1) line,
    )
