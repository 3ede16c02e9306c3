-- What is read are batches.
use Rattle.std.proofs.Common.{◌≡◌, ◌==◌, Bool, true, false, cond, List, [], ◌∷◌, ◌++◌, ◌+◌, take, drop, refl, ℕ, zero, suc}
use Rattle.log_text.specs.Lines.{ArePlain, HasNoBreak, onto_first, tag_of, whole_lines}
use Rattle.log_text.specs.Sums.{Sums, own_sums}
use Rattle.log_text.specs.Batches.{AreBatches, lines_text, mark_line, mark_place, sum_of}
use Rattle.log_text.specs.Reading.{batches_in, closed, fits, recovered, told_in}
use Rattle.log_text.specs.Laws.{ReadsBatches}
use Rattle.log_text.proofs.Batches.{plain_push, plain_rest}
use Rattle.log_text.proofs.Marks.{told_sized}
use Rattle.log_text.proofs.Stands.{same_from_text}
use Rattle.std.proofs.Common.{length}

onto_plain : (b : ℕ) (lines : List (List ℕ)) → (b == 10) ≡ false → ArePlain lines → ArePlain (onto_first b lines)
onto_plain b [] other are = tt
onto_plain b (line ∷ lines) other are = ((other, are.0), are.1)

one_plain : (b : ℕ) (c : Bool) (lines : List (List ℕ)) → (b == 10) ≡ c → ArePlain lines → ArePlain (cond c ([] ∷ lines) (onto_first b lines))
one_plain b true lines is are = (tt, are)
one_plain b false lines is are = onto_plain b lines is are

lines_plain : (bytes : List ℕ) → ArePlain (whole_lines bytes)
lines_plain [] = tt
lines_plain (b ∷ bytes) = one_plain b (b == 10) (whole_lines bytes) refl (lines_plain bytes)

drop_plain : (k : ℕ) (bytes : List ℕ) → HasNoBreak bytes → HasNoBreak (drop k bytes)
drop_plain zero bytes is = is
drop_plain (suc k) [] is = is
drop_plain (suc k) (b ∷ bytes) is = drop_plain k bytes is.1

take_plain : (k : ℕ) (bytes : List ℕ) → HasNoBreak bytes → HasNoBreak (take k bytes)
take_plain zero bytes is = tt
take_plain (suc k) [] is = is
take_plain (suc k) (b ∷ bytes) is = (is.0, take_plain k bytes is.1)

module _ (sums : Sums) (name : List ℕ) where
  told_plain : (count : ℕ) (line : List ℕ) → HasNoBreak line → HasNoBreak (told_in sums name count line)
  told_plain count line is =
      let from = length (mark_place sums name count) + 1 in
      take_plain 16 (drop from line) (drop_plain from line is)

  by_mark : (sum : ℕ) (pending lines : List (List ℕ)) (line : List ℕ) (d : Bool) → fits sums name sum pending line ≡ d → ArePlain pending → HasNoBreak line
      → AreBatches (batches_in sums name (sum_of sums name sum (closed sums name pending line)) [] lines)
      → AreBatches (cond d (closed sums name pending line ∷ batches_in sums name (sum_of sums name sum (closed sums name pending line)) [] lines) [])
  by_mark sum pending lines line false fit plain is rest = tt
  by_mark sum pending lines line true fit plain is rest =
      ((plain, (told_sized sums name line sum pending (same_from_text line (mark_line sums name sum (closed sums name pending line)) fit), told_plain (length (lines_text pending)) line is)), rest)

  by_line : (sum : ℕ) (pending lines : List (List ℕ)) (line : List ℕ) (c : Bool) → ArePlain pending → HasNoBreak line
      → AreBatches (batches_in sums name sum (pending ++ drop 1 line ∷ []) lines)
      → AreBatches (batches_in sums name (sum_of sums name sum (closed sums name pending line)) [] lines)
      → AreBatches (cond c (batches_in sums name sum (pending ++ drop 1 line ∷ []) lines)
      (cond (fits sums name sum pending line) (closed sums name pending line ∷ batches_in sums name (sum_of sums name sum (closed sums name pending line)) [] lines) []))
  by_line sum pending lines line true plain is on rest = on
  by_line sum pending lines line false plain is on rest = by_mark sum pending lines line (fits sums name sum pending line) refl plain is rest

  batches_are : (sum : ℕ) (pending lines : List (List ℕ)) → ArePlain pending → ArePlain lines → AreBatches (batches_in sums name sum pending lines)
  batches_are sum pending [] plain are = tt
  batches_are sum pending (line ∷ lines) plain are =
      by_line sum pending lines line (tag_of line == 43) plain are.0
      (batches_are sum (pending ++ drop 1 line ∷ []) lines (plain_push pending (drop 1 line) plain (plain_rest line are.0)) are.1)
      (batches_are (sum_of sums name sum (closed sums name pending line)) [] lines tt are.1)

pub read_are : (sums : Sums) (name : List ℕ) (sum : ℕ) (bytes : List ℕ) → AreBatches (recovered sums name sum bytes)
read_are sums name sum bytes = batches_are sums name sum [] (whole_lines bytes) tt (lines_plain bytes)

pub reads_batches : ReadsBatches
reads_batches = read_are own_sums
