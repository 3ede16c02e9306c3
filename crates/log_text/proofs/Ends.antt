-- Whether bytes may be the end of a log, line by line.
use Rattle.std.proofs.Common.{◌≡◌, ◌∙◌, Bool, true, false, cond, List, [], ◌∷◌, ◌++◌, ◌+◌, ◌-◌, ◌≤◌, length, arith, refl, ap, ℕ}
use Rattle.std.proofs.lemmas.List.{length-append}
use Rattle.log_text.specs.Lines.{HasNoBreak, whole_lines}
use Rattle.log_text.specs.Sums.{Sums}
use Rattle.log_text.specs.Reading.{is_mark, is_placed, marks, may_end}
use Rattle.log_text.proofs.Lines.{no_line, one_line}

-- whether bytes with these marks may be the rest of an end, which had a mark before them or none
abbrev pub may_behind_mark : Sums → List ℕ → Bool → List (ℕ × List ℕ) → Bool
may_behind_mark sums name false marks = may_end sums name marks
may_behind_mark sums name true [] = true
may_behind_mark sums name true (mark ∷ marks) = false

pub moved : (bytes rest line behind : List ℕ) → rest ≡ line ++ 10 ∷ behind → length rest ≤ length bytes
    → (length bytes - length rest) + (length line + 1) ≡ length bytes - length behind
moved bytes rest line behind is few = omega (arith, few, ap length is, length-append line (10 ∷ behind))

module _ (sums : Sums) (name : List ℕ) where
  one_in_place : (mark : ℕ × List ℕ) (others : List (ℕ × List ℕ)) → is_placed sums name mark ≡ true
      → may_end sums name (mark ∷ others) ≡ may_behind_mark sums name true others
  one_in_place mark [] is = is
  one_in_place mark (other ∷ others) is = refl

  one_elsewhere : (mark : ℕ × List ℕ) (others : List (ℕ × List ℕ)) → is_placed sums name mark ≡ false → may_end sums name (mark ∷ others) ≡ false
  one_elsewhere mark [] is = is
  one_elsewhere mark (other ∷ others) is = refl

  none_left : (is_marked : Bool) → may_behind_mark sums name is_marked [] ≡ true
  none_left true = refl
  none_left false = refl

  -- no line is left
  pub none_more : (is_marked : Bool) (rest : List ℕ) (at : ℕ) → HasNoBreak rest → may_behind_mark sums name is_marked (marks name at (whole_lines rest)) ≡ true
  none_more is_marked rest at plain = ap (λ l. may_behind_mark sums name is_marked (marks name at l)) (no_line rest plain) ∙ none_left is_marked

  module _ (is_marked : Bool) (at : ℕ) (rest line behind : List ℕ) (plain : HasNoBreak line) (is : rest ≡ line ++ 10 ∷ behind) where
    others : List (ℕ × List ℕ)
    others = marks name (at + (length line + 1)) (whole_lines behind)

    by_line : (d : Bool) → is_mark name line ≡ d
        → may_behind_mark sums name is_marked (marks name at (whole_lines rest)) ≡ may_behind_mark sums name is_marked (cond d ((at, line) ∷ others) others)
    unfolding others
    by_line d marked =
        ap (λ l. may_behind_mark sums name is_marked (marks name at l)) (ap whole_lines is ∙ one_line line behind plain)
        ∙ ap (λ c. may_behind_mark sums name is_marked (cond c ((at, line) ∷ others) others)) marked

    -- a second mark
    pub more_seen : is_mark name line ≡ true → is_marked ≡ true → may_behind_mark sums name is_marked (marks name at (whole_lines rest)) ≡ false
    unfolding others
    more_seen marked before = by_line true marked ∙ ap (λ c. may_behind_mark sums name c ((at, line) ∷ others)) before

    -- a first one in another place
    pub one_seen : is_mark name line ≡ true → is_marked ≡ false → is_placed sums name (at, line) ≡ false
        → may_behind_mark sums name is_marked (marks name at (whole_lines rest)) ≡ false
    unfolding others
    one_seen marked before placed =
        by_line true marked ∙ ap (λ c. may_behind_mark sums name c ((at, line) ∷ others)) before ∙ one_elsewhere (at, line) others placed

    -- a first one in its place
    pub mark_seen : is_mark name line ≡ true → is_marked ≡ false → is_placed sums name (at, line) ≡ true → (next : ℕ) → at + (length line + 1) ≡ next
        → may_behind_mark sums name is_marked (marks name at (whole_lines rest)) ≡ may_behind_mark sums name true (marks name next (whole_lines behind))
    unfolding others
    mark_seen marked before placed next moved =
        by_line true marked
        ∙ ap (λ c. may_behind_mark sums name c ((at, line) ∷ others)) before
        ∙ one_in_place (at, line) others placed
        ∙ ap (λ k. may_behind_mark sums name true (marks name k (whole_lines behind))) moved

    -- no mark
    pub none_seen : is_mark name line ≡ false → (next : ℕ) → at + (length line + 1) ≡ next
        → may_behind_mark sums name is_marked (marks name at (whole_lines rest)) ≡ may_behind_mark sums name is_marked (marks name next (whole_lines behind))
    unfolding others
    none_seen marked next moved = by_line false marked ∙ ap (λ k. may_behind_mark sums name is_marked (marks name k (whole_lines behind))) moved
