-- What was written is read, whatever stands behind it.
use Rattle.std.proofs.Common.{◌≡◌, ◌∙◌, true, cond, List, [], ◌∷◌, ◌++◌, length, take, append_assoc, refl, ap, sym, ℕ}
use Rattle.std.proofs.lemmas.List.{append-nil}
use Rattle.std.proofs.lemmas.Cmp.{nat_list_eq_equiv}
use Rattle.std.proofs.Math.Seq.{drop-append-add, take-append_seam}
use Rattle.log_text.specs.Lines.{ArePlain, HasNoBreak, ended, whole_lines}
use Rattle.log_text.specs.Sums.{SpellsPlain, Sums}
use Rattle.log_text.specs.Batches.{AreBatches, Batch, IsBatch, IsTold, batch_text, line_text, lines_text, log_text, mark_head, mark_line, mark_place, mark_start, sum_of}
use Rattle.log_text.specs.Reading.{batches_in, closed, fits, recovered, same_text, told_in}
use Rattle.log_text.specs.Laws.{OneText, WrittenReads}
use Rattle.log_text.proofs.Lines.{one_ended, plain_append}

pub same_itself : (xs : List ℕ) → same_text xs xs ≡ true
same_itself xs = nat_list_eq_equiv.refl xs

take_told : (n : ℕ) (told rest : List ℕ) → length told ≡ n → take n (told ++ rest) ≡ told
take_told n told rest sized = ap (λ k. take k (told ++ rest)) (sym sized) ∙ take-append_seam told rest

-- what was told stands in the mark
pub told_there : (sums : Sums) (name asked told rest : List ℕ) → length told ≡ 16
    → told_in sums name (length asked) (mark_start sums name asked told ++ rest) ≡ told
told_there sums name asked told rest sized =
    let place : List ℕ = mark_place sums name (length asked) in
    let behind : List ℕ = 32 ∷ (told ++ 32 ∷ []) in
    ap (told_in sums name (length asked)) (append_assoc place behind rest)
    ∙ ap (take 16) (drop-append-add place (behind ++ rest) 1)
    ∙ ap (take 16) (append_assoc told (32 ∷ []) rest)
    ∙ take_told 16 told (32 ∷ rest) sized

module _ (sums : Sums) (name : List ℕ) where
  -- the lines of a batch are read one after another
  pub lines_on : (lines : List (List ℕ)) (sum : ℕ) (pending : List (List ℕ)) (rest : List ℕ) → ArePlain lines
      → batches_in sums name sum pending (whole_lines (lines_text lines ++ rest)) ≡ batches_in sums name sum (pending ++ lines) (whole_lines rest)
  lines_on [] sum pending rest plain = ap (λ p. batches_in sums name sum p (whole_lines rest)) (sym (append-nil pending))
  lines_on (line ∷ lines) sum pending rest plain =
      ap (λ bytes. batches_in sums name sum pending (whole_lines bytes)) (append_assoc (line_text line) (lines_text lines) rest)
      ∙ ap (batches_in sums name sum pending) (one_ended (43 ∷ line) (lines_text lines ++ rest) (refl, plain.0))
      ∙ lines_on lines sum (pending ++ line ∷ []) rest plain.1
      ∙ ap (λ p. batches_in sums name sum p (whole_lines rest)) (append_assoc pending (line ∷ []) lines)

  pub closed_again : (sum : ℕ) (batch : Batch) → length batch.told ≡ 16 → closed sums name batch.lines (mark_line sums name sum batch) ≡ batch
  closed_again sum batch told = λ i. record { lines = batch.lines; told = told_there sums name (lines_text batch.lines) batch.told (sums.spelled (sum_of sums name sum batch)) told i }

  pub mark_fits : (sum : ℕ) (batch : Batch) → length batch.told ≡ 16 → fits sums name sum batch.lines (mark_line sums name sum batch) ≡ true
  mark_fits sum batch told =
      ap (λ b. same_text (mark_line sums name sum batch) (mark_line sums name sum b)) (closed_again sum batch told) ∙ same_itself (mark_line sums name sum batch)

  -- a mark that fits closes a batch
  pub marked : (sum : ℕ) (batch : Batch) (lines : List (List ℕ)) → length batch.told ≡ 16
      → batches_in sums name sum batch.lines (mark_line sums name sum batch ∷ lines) ≡ batch ∷ batches_in sums name (sum_of sums name sum batch) [] lines
  marked sum batch lines told =
      let read = closed sums name batch.lines (mark_line sums name sum batch) in
      ap (λ c. cond c (read ∷ batches_in sums name (sum_of sums name sum read) [] lines) []) (mark_fits sum batch told)
      ∙ ap (λ b. b ∷ batches_in sums name (sum_of sums name sum b) [] lines) (closed_again sum batch told)

  module _ (spells : SpellsPlain sums) (named : HasNoBreak name) where
    pub plain_mark : (sum : ℕ) (batch : Batch) → IsTold batch.told → HasNoBreak (mark_line sums name sum batch)
    plain_mark sum batch told =
        let head : HasNoBreak (mark_head name) = (refl, plain_append name (32 ∷ []) named (refl, tt)) in
        let count = length (lines_text batch.lines) in
        plain_append (mark_start sums name (lines_text batch.lines) batch.told) (sums.spelled (sum_of sums name sum batch))
        (plain_append (mark_place sums name count) (32 ∷ (batch.told ++ 32 ∷ [])) (plain_append (mark_head name) (sums.spelled count) head (spells count))
        (refl, plain_append batch.told (32 ∷ []) told.1 (refl, tt)))
        (spells (sum_of sums name sum batch))

    -- and so does a batch
    pub batch_on : (sum : ℕ) (batch : Batch) (rest : List ℕ) → IsBatch batch
        → recovered sums name sum (batch_text sums name sum batch ++ rest) ≡ batch ∷ recovered sums name (sum_of sums name sum batch) rest
    batch_on sum batch rest is =
        let mark = mark_line sums name sum batch in
        ap (recovered sums name sum) (append_assoc (lines_text batch.lines) (ended mark) rest)
        ∙ lines_on batch.lines sum [] (ended mark ++ rest) is.0
        ∙ ap (batches_in sums name sum batch.lines) (one_ended mark rest (plain_mark sum batch is.1))
        ∙ marked sum batch (whole_lines rest) is.1.0

pub written_reads : WrittenReads
written_reads sums name spells named sum [] tail are = refl
written_reads sums name spells named sum (batch ∷ batches) tail are =
    let next = sum_of sums name sum batch in
    ap (recovered sums name sum) (append_assoc (batch_text sums name sum batch) (log_text sums name next batches) tail)
    ∙ batch_on sums name spells named sum batch (log_text sums name next batches ++ tail) are.0
    ∙ ap (λ bs. batch ∷ bs) (written_reads sums name spells named next batches tail are.1)

-- what was written whole, with nothing behind it
pub written_whole : (sums : Sums) (name : List ℕ) → SpellsPlain sums → HasNoBreak name → (sum : ℕ) (batches : List Batch) → AreBatches batches
    → recovered sums name sum (log_text sums name sum batches) ≡ batches
written_whole sums name spells named sum batches are =
    ap (recovered sums name sum) (sym (append-nil (log_text sums name sum batches)))
    ∙ written_reads sums name spells named sum batches [] are
    ∙ append-nil batches

pub one_text : OneText
one_text sums name spells named sum batches others are also same =
    sym (written_whole sums name spells named sum batches are)
    ∙ ap (recovered sums name sum) same
    ∙ written_whole sums name spells named sum others also
