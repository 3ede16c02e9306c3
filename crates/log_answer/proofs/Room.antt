-- The bytes of lines that a log gets, and the room for them.
use Rattle.std.proofs.Common.{◌≡◌, ◌≤◌, ◌<◌, ◌∙◌, ℕ, ◌+◌, ◌*◌, ◌-◌, ◌^◌, min, IfSome, List, [], ◌∷◌, ◌++◌, length, Option, None, Some, take, arith, refl, ap, length-append, subst, sym}
use Rattle.std.specs.Prelude.{flat_map, map}
use Rattle.std.proofs.lemmas.List.{length-take, map-append, take-append-le, take_at}
use Rattle.std.proofs.lemmas.Grind.{flat_map-append}
use Rattle.line_text.specs.Limits.{kept_limit}
use Rattle.line_text.specs.Lines.{lines_of}
use Rattle.line_text.specs.Reading.{LinesTaken}
use Rattle.line_answer.specs.Limits.{answered_limit}
use Rattle.log_text.specs.Lines.{ended}
use Rattle.log_answer.specs.Answers.{kept_line, line_bytes}

module _ (k : ℕ) where
  abbrev bytes_by : List (List ℕ) → ℕ
  bytes_by lines = length (flat_map ended (map (take k) lines))

  bytes_more : (lines : List (List ℕ)) (line : List ℕ) → bytes_by (lines ++ line ∷ []) ≡ bytes_by lines + (length (take k line) + 1)
  bytes_more lines line =
      let there = ap (λ (ls : List (List ℕ)). length (flat_map ended ls)) (map-append (take k) lines (line ∷ [])) ∙ ap length (flat_map-append ended (map (take k) lines) (take k line ∷ [])) in
      omega (arith, there, length-append (flat_map ended (map (take k) lines)) (ended (take k line) ++ []), length-append (ended (take k line)) [], length-append (take k line) (10 ∷ []))

  bytes_few : (lines : List (List ℕ)) → bytes_by lines ≤ (k + 1) * length lines
  bytes_few [] = omega arith
  bytes_few (line ∷ lines) =
      grind (arith, bytes_few lines, length-append (ended (take k line)) (flat_map ended (map (take k) lines)), length-append (take k line) (10 ∷ []), length-take k line)

line_bytes-more : (lines : List (List ℕ)) (line : List ℕ) → line_bytes (lines ++ line ∷ []) ≡ line_bytes lines + (length (kept_line line) + 1)
line_bytes-more = bytes_more kept_limit

line_bytes-few : (lines : List (List ℕ)) → line_bytes lines ≤ 65538 * length lines
line_bytes-few = bytes_few kept_limit

kept_few : (line : List ℕ) → length (kept_line line) ≤ 65537
kept_few line = omega (arith, length-take kept_limit line)

-- ---- lines so far

-- So many bytes they have, and without the last of them they have room.
pub record Grown (room grown : ℕ) (lines : List (List ℕ)) : Type 0 where
  pub bytes : grown ≡ line_bytes lines
  pub fit : line_bytes (take (length lines - 1) lines) ≤ room

pub grown_none : (room : ℕ) → Grown room 0 []
grown_none room = record { bytes = refl; fit = omega arith }

pub grown_more : (room grown next : ℕ) (lines : List (List ℕ)) (line : List ℕ) → Grown room grown lines → grown ≤ room → next ≡ grown + (length (kept_line line) + 1)
    → Grown room next (lines ++ line ∷ [])
grown_more room grown next lines line g fit is =
    let all : length (lines ++ line ∷ []) - 1 ≡ length lines = omega (arith, length-append lines (line ∷ [])) in
    let front = ap (λ (n : ℕ). take n (lines ++ line ∷ [])) all ∙ take_at lines (line ∷ []) (length lines) refl in
    record {
      bytes = is ∙ ap (λ (n : ℕ). n + (length (kept_line line) + 1)) g.bytes ∙ sym (line_bytes-more lines line);
      fit = omega (arith, fit, g.bytes, ap line_bytes front);
    }

-- of as many lines as are answered they are never more than 64 bits count
pub counted_on : (room grown one next : ℕ) (lines : List (List ℕ)) (line kept : List ℕ) → Grown room grown lines → length lines < answered_limit → kept ≡ kept_line line
    → one ≡ min (grown + length kept) (2 ^ 64 - 1) → next ≡ min (one + 1) (2 ^ 64 - 1) → next ≡ grown + (length (kept_line line) + 1)
counted_on room grown one next lines line kept g few is first then =
    omega (arith, g.bytes, line_bytes-few lines, kept_few line, few, ap length is, first, then)

-- ---- the first lines of an input

module _ (room grown count k : ℕ) (lines : List (List ℕ)) (counted : length lines ≡ count) (is : k ≡ count) (g : Grown room grown lines) where
  first_of : (input others : List ℕ) → lines_of input ≡ lines ++ lines_of others → take k (lines_of input) ≡ lines
  first_of input others all = ap (take k) all ∙ take_at lines (lines_of others) k (omega (arith, counted, is))

  front_of : (input others : List ℕ) → lines_of input ≡ lines ++ lines_of others → take (k - 1) (lines_of input) ≡ take (length lines - 1) lines
  front_of input others all =
      let one : k - 1 ≡ length lines - 1 = omega (arith, counted, is) in
      ap (take (k - 1)) all ∙ ap (λ (n : ℕ). take n (lines ++ lines_of others)) one ∙ take-append-le (length lines - 1) lines (lines_of others) (omega arith)

  -- but for the last they have room
  pub had_room : (from left : Option (List ℕ)) → LinesTaken from left lines → IfSome from (λ input. line_bytes (take (k - 1) (lines_of input)) ≤ room)
  had_room None left taken = tt
  had_room (Some input) None taken = absurd taken
  had_room (Some input) (Some others) taken = subst (λ (ls : List (List ℕ)). line_bytes ls ≤ room) (sym (front_of input others taken)) g.fit

  -- with it they haven't
  pub used_up : room < grown → (from left : Option (List ℕ)) → LinesTaken from left lines → IfSome from (λ input. room < line_bytes (take k (lines_of input)))
  used_up full None left taken = tt
  used_up full (Some input) None taken = absurd taken
  used_up full (Some input) (Some others) taken =
      subst (λ (ls : List (List ℕ)). room < line_bytes ls) (sym (first_of input others taken)) (omega (arith, full, g.bytes))
