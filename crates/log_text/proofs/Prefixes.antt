-- What is read of the first bytes of a log are the first batches.
use Rattle.std.proofs.Common.{◌==◌, ◌∙◌, cond, List, [], ◌∷◌, ◌++◌, ap, ℕ}
use Rattle.std.specs.Prelude.{drop}
use Rattle.log_text.specs.Lines.{IsPrefixOf, tag_of, whole_lines}
use Rattle.log_text.specs.Sums.{Sums}
use Rattle.log_text.specs.Batches.{sum_of}
use Rattle.log_text.specs.Reading.{batches_in, closed, fits}
use Rattle.log_text.specs.Laws.{PrefixesRead}
use Rattle.log_text.proofs.Lines.{either, lines_prefix, none_first, one_on}

module _ (sums : Sums) (name : List ℕ) where
  pub batches_prefix : (sum : ℕ) (pending lines more : List (List ℕ)) → IsPrefixOf (batches_in sums name sum pending lines) (batches_in sums name sum pending (lines ++ more))
  batches_prefix sum pending [] more = none_first (batches_in sums name sum pending more)
  batches_prefix sum pending (line ∷ lines) more =
      let b = closed sums name pending line in
      let next = sum_of sums name sum b in
      let on = pending ++ drop 1 line ∷ [] in
      either (λ c. IsPrefixOf
      (cond c (batches_in sums name sum on lines) (cond (fits sums name sum pending line) (b ∷ batches_in sums name next [] lines) []))
      (cond c (batches_in sums name sum on (lines ++ more)) (cond (fits sums name sum pending line) (b ∷ batches_in sums name next [] (lines ++ more)) [])))
      (tag_of line == 43) (batches_prefix sum on lines more)
      (either (λ c. IsPrefixOf (cond c (b ∷ batches_in sums name next [] lines) []) (cond c (b ∷ batches_in sums name next [] (lines ++ more)) []))
      (fits sums name sum pending line)
      (one_on b (batches_in sums name next [] lines) (batches_in sums name next [] (lines ++ more)) (batches_prefix next [] lines more))
      (none_first []))

pub prefixes_read : PrefixesRead
prefixes_read sums name sum bytes more =
    let lines = lines_prefix bytes more in
    let on = batches_prefix sums name sum [] (whole_lines bytes) lines.0 in
    (on.0, on.1 ∙ ap (batches_in sums name sum []) lines.1)
