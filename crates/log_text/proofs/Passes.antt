-- What an ordinary end leaves isn't refused.
use Rattle.std.proofs.Common.{◌≡◌, ◌∙◌, Bool, true, false, true≢false, cond, List, [], ◌∷◌, ◌++◌, ◌+◌, length, drop, map, append_assoc, refl, ap, sym, subst, arith, ℕ, Some, None}
use Rattle.std.proofs.lemmas.List.{append-nil, append_cancel_left, length-append}
use Rattle.std.proofs.Math.Seq.{drop-append-add}
use Rattle.log_text.specs.Lines.{ArePlain, HasNoBreak, ended, whole_lines}
use Rattle.log_text.specs.Sums.{SpellsPlain, Sums}
use Rattle.log_text.specs.Batches.{AreBatches, Batch, IsBatch, batch_text, last_sum, line_text, lines_text, log_text, mark_head, mark_line, sum_of}
use Rattle.log_text.specs.Reading.{asked_first, batches_in, fault_in, is_mark, left_in, marks, may_end, recovered}
use Rattle.log_text.specs.Laws.{EndsPass, PrefixesPass}
use Rattle.log_text.proofs.Lines.{lines_prefix, one_ended}
use Rattle.log_text.proofs.Marks.{begins}
use Rattle.log_text.proofs.Prefixes.{prefixes_read}
use Rattle.log_text.proofs.Read.{read_are}
use Rattle.log_text.proofs.Stands.{read_stands}
use Rattle.log_text.proofs.Written.{marked, plain_mark, written_reads, written_whole}

-- ---- lists

pub same_head : {A : Type 0} (x y : A) (xs ys : List A) → x ∷ xs ≡ y ∷ ys → x ≡ y
same_head x y xs ys e = cc

pub same_tail : {A : Type 0} (x y : A) (xs ys : List A) → x ∷ xs ≡ y ∷ ys → xs ≡ ys
same_tail x y xs ys e = cc

pub cons_none : {A : Type 0} (x : A) (xs : List A) → x ∷ xs ≡ [] → ⊥
cons_none x xs e = cc

pub nothing_first : {A : Type 0} (xs ys : List A) → xs ++ ys ≡ [] → xs ≡ []
nothing_first [] ys e = refl
nothing_first (x ∷ xs) ys e = absurd (cons_none x (xs ++ ys) e)

parted : (batches others : List Batch) → AreBatches (batches ++ others) → AreBatches batches × AreBatches others
parted [] others are = (tt, are)
parted (batch ∷ batches) others are = let rest = parted batches others are.1 in ((are.0, rest.0), rest.1)

-- ---- marks

-- bytes of lines, with their LFs
abbrev pub size : List (List ℕ) → ℕ
size [] = 0
size (line ∷ lines) = (length line + 1) + size lines

module _ (name : List ℕ) where
  none_by : (at other : ℕ) (line : List ℕ) (more others : List (ℕ × List ℕ)) (c : Bool) → cond c ((at, line) ∷ more) more ≡ []
      → (more ≡ [] → others ≡ []) → cond c ((other, line) ∷ others) others ≡ []
  none_by at other line more others true is on = absurd (cons_none (at, line) more is)
  none_by at other line more others false is on = on is

  -- no mark, wherever the lines stand
  pub none_anywhere : (at other : ℕ) (lines : List (List ℕ)) → marks name at lines ≡ [] → marks name other lines ≡ []
  none_anywhere at other [] is = refl
  none_anywhere at other (line ∷ lines) is =
      let next = at + (length line + 1) in
      let then = other + (length line + 1) in
      none_by at other line (marks name next lines) (marks name then lines) (is_mark name line) is (none_anywhere next then lines)

  marks_cons : (at : ℕ) (line : List ℕ) (xs ys both : List (ℕ × List ℕ)) (c : Bool) → both ≡ xs ++ ys
      → cond c ((at, line) ∷ both) both ≡ cond c ((at, line) ∷ xs) xs ++ ys
  marks_cons at line xs ys both true is = ap (λ l. (at, line) ∷ l) is
  marks_cons at line xs ys both false is = is

  pub marks_append : (at : ℕ) (xs ys : List (List ℕ)) → marks name at (xs ++ ys) ≡ marks name at xs ++ marks name (at + size xs) ys
  marks_append at [] ys =
      let same : at ≡ at + 0 = omega arith in
      ap (λ k. marks name k ys) same
  marks_append at (line ∷ xs) ys =
      let next = at + (length line + 1) in
      let same : next + size xs ≡ at + ((length line + 1) + size xs) = omega arith in
      marks_cons at line (marks name next xs) (marks name (at + ((length line + 1) + size xs)) ys) (marks name next (xs ++ ys)) (is_mark name line)
      (marks_append next xs ys ∙ ap (λ k. marks name next xs ++ marks name k ys) same)

  -- the marks of a batch's lines, up to its own
  pub marks_on : (mark : List ℕ) → is_mark name mark ≡ true → (lines : List (List ℕ)) (at : ℕ) (more : List (List ℕ))
      → marks name at (map (λ line. 43 ∷ line) lines ++ mark ∷ more)
      ≡ (at + length (lines_text lines), mark) ∷ marks name ((at + length (lines_text lines)) + (length mark + 1)) more
  marks_on mark is [] at more =
      let same : at ≡ at + 0 = omega arith in
      ap (λ c. cond c ((at, mark) ∷ marks name (at + (length mark + 1)) more) (marks name (at + (length mark + 1)) more)) is
      ∙ ap (λ k. (k, mark) ∷ marks name (k + (length mark + 1)) more) same
  marks_on mark is (line ∷ lines) at more =
      let next = at + (length (43 ∷ line) + 1) in
      let same : next + length (lines_text lines) ≡ at + length (lines_text (line ∷ lines)) =
      omega (arith, length-append (line_text line) (lines_text lines), length-append line (10 ∷ [])) in
      marks_on mark is lines next more ∙ ap (λ k. (k, mark) ∷ marks name (k + (length mark + 1)) more) same

module _ (sums : Sums) (name : List ℕ) where
  pub log_append : (sum : ℕ) (batches others : List Batch)
      → log_text sums name sum (batches ++ others) ≡ log_text sums name sum batches ++ log_text sums name (last_sum sums name sum batches) others
  log_append sum [] others = refl
  log_append sum (batch ∷ batches) others =
      let next = sum_of sums name sum batch in
      ap (λ l. batch_text sums name sum batch ++ l) (log_append next batches others)
      ∙ sym (append_assoc (batch_text sums name sum batch) (log_text sums name next batches) (log_text sums name (last_sum sums name next batches) others))

  pub passes_by : (bytes : List ℕ) → may_end sums name (marks name 0 (whole_lines bytes)) ≡ true → fault_in sums name bytes ≡ None
  passes_by bytes may = ap (λ c. cond c None (Some (asked_first (whole_lines bytes)))) may

  -- one mark at most
  pub may_one : (mark : ℕ × List ℕ) (others : List (ℕ × List ℕ)) → may_end sums name (mark ∷ others) ≡ true → others ≡ []
  may_one mark [] may = refl
  may_one mark (other ∷ others) may = absurd (true≢false (sym may))

  -- a mark, and what stands behind the bytes that it says
  pub is_its_mark : (sum : ℕ) (batch : Batch) → is_mark name (mark_line sums name sum batch) ≡ true
  is_its_mark sum batch =
      let asked : List ℕ = lines_text batch.lines in
      let spelled : List ℕ = sums.spelled (length asked) in
      let told : List ℕ = 32 ∷ (batch.told ++ 32 ∷ []) in
      let end : List ℕ = sums.spelled (sum_of sums name sum batch) in
      begins (mark_head name) (mark_line sums name sum batch) ((spelled ++ told) ++ end)
      (ap (λ l. l ++ end) (append_assoc (mark_head name) spelled told) ∙ append_assoc (mark_head name) (spelled ++ told) end)

  module _ (spells : SpellsPlain sums) (named : HasNoBreak name) where
    pub left_behind : (sum : ℕ) (batches : List Batch) (tail : List ℕ) → AreBatches batches
        → left_in sums name sum (log_text sums name sum batches ++ tail) ≡ left_in sums name (last_sum sums name sum batches) tail
    left_behind sum batches tail are =
        let last = last_sum sums name sum batches in
        let first : List ℕ = log_text sums name sum batches in
        let more : List ℕ = log_text sums name last (recovered sums name last tail) in
        ap (λ bs. drop (length (log_text sums name sum bs)) (first ++ tail)) (written_reads sums name spells named sum batches tail are)
        ∙ ap (λ l. drop (length l) (first ++ tail)) (log_append sum batches (recovered sums name last tail))
        ∙ ap (λ n. drop n (first ++ tail)) (length-append first more)
        ∙ drop-append-add first tail (length more)

    -- the first lines of a batch, without its mark, have no mark
    none_yet : (sum : ℕ) (batch : Batch) → IsBatch batch → (lines pending xs more others : List (List ℕ)) → batch.lines ≡ pending ++ lines
        → xs ++ more ≡ map (λ line. 43 ∷ line) lines ++ mark_line sums name sum batch ∷ others
        → batches_in sums name sum pending xs ≡ [] → (at : ℕ) → marks name at xs ≡ []
    none_yet sum batch is lines pending [] more others are same none at = refl
    none_yet sum batch is [] pending (x ∷ xs) more others are same none at =
        let ends : pending ≡ batch.lines = sym (are ∙ append-nil pending) in
        let here : x ≡ mark_line sums name sum batch = same_head x (mark_line sums name sum batch) (xs ++ more) others same in
        absurd (cons_none batch (batches_in sums name (sum_of sums name sum batch) [] xs)
        (sym (marked sums name sum batch xs is.1.0) ∙ sym (λ i. batches_in sums name sum (ends i) (here i ∷ xs)) ∙ none))
    none_yet sum batch is (line ∷ lines) pending (x ∷ xs) more others are same none at =
        let behind : List (List ℕ) = map (λ line. 43 ∷ line) lines ++ mark_line sums name sum batch ∷ others in
        let here : x ≡ 43 ∷ line = same_head x (43 ∷ line) (xs ++ more) behind same in
        let on : batches_in sums name sum (pending ++ line ∷ []) xs ≡ [] = sym (ap (λ l. batches_in sums name sum pending (l ∷ xs)) here) ∙ none in
        ap (λ l. marks name at (l ∷ xs)) here
        ∙ none_yet sum batch is lines (pending ++ line ∷ []) xs more others (are ∙ sym (append_assoc pending (line ∷ []) lines))
        (same_tail x (43 ∷ line) (xs ++ more) behind same) on (at + (length (43 ∷ line) + 1))

    pub lines_of_batch : (sum : ℕ) (batch : Batch) (lines : List (List ℕ)) (rest : List ℕ) → ArePlain lines → IsBatch batch
        → whole_lines (lines_text lines ++ (ended (mark_line sums name sum batch) ++ rest)) ≡ map (λ line. 43 ∷ line) lines ++ mark_line sums name sum batch ∷ whole_lines rest
    lines_of_batch sum batch [] rest plain is = one_ended (mark_line sums name sum batch) rest (plain_mark sums name spells named sum batch is.1)
    lines_of_batch sum batch (line ∷ lines) rest plain is =
        let behind : List ℕ = ended (mark_line sums name sum batch) ++ rest in
        ap whole_lines (append_assoc (line_text line) (lines_text lines) behind)
        ∙ one_ended (43 ∷ line) (lines_text lines ++ behind) (refl, plain.0)
        ∙ ap (λ l. (43 ∷ line) ∷ l) (lines_of_batch sum batch lines rest plain.1 is)

    -- the marks of a batch and of what stands behind it
    pub marks_of_batch : (sum : ℕ) (batch : Batch) (at : ℕ) (rest : List ℕ) → IsBatch batch
        → marks name at (whole_lines (batch_text sums name sum batch ++ rest))
        ≡ (at + length (lines_text batch.lines), mark_line sums name sum batch)
        ∷ marks name ((at + length (lines_text batch.lines)) + (length (mark_line sums name sum batch) + 1)) (whole_lines rest)
    marks_of_batch sum batch at rest is =
        let mark = mark_line sums name sum batch in
        ap (λ l. marks name at (whole_lines l)) (append_assoc (lines_text batch.lines) (ended mark) rest)
        ∙ ap (marks name at) (lines_of_batch sum batch batch.lines rest is.0 is)
        ∙ marks_on name mark (is_its_mark sum batch) batch.lines at (whole_lines rest)

    pub marks_of_log : (sum : ℕ) (batch : Batch) (batches : List Batch) (at : ℕ) (rest : List ℕ) → IsBatch batch
        → marks name at (whole_lines (log_text sums name sum (batch ∷ batches) ++ rest))
        ≡ (at + length (lines_text batch.lines), mark_line sums name sum batch)
        ∷ marks name ((at + length (lines_text batch.lines)) + (length (mark_line sums name sum batch) + 1))
        (whole_lines (log_text sums name (sum_of sums name sum batch) batches ++ rest))
    marks_of_log sum batch batches at rest is =
        let others : List ℕ = log_text sums name (sum_of sums name sum batch) batches in
        ap (λ l. marks name at (whole_lines l)) (append_assoc (batch_text sums name sum batch) others rest)
        ∙ marks_of_batch sum batch at (others ++ rest) is

    no_batch : (sum : ℕ) (batches : List Batch) (at : ℕ) (left : List ℕ) → AreBatches batches
        → marks name at (whole_lines (log_text sums name sum batches ++ left)) ≡ [] → marks name 0 (whole_lines left) ≡ []
    no_batch sum [] at left are none = none_anywhere name at 0 (whole_lines left) none
    no_batch sum (batch ∷ batches) at left are none =
        absurd (cons_none (at + length (lines_text batch.lines), mark_line sums name sum batch)
        (marks name ((at + length (lines_text batch.lines)) + (length (mark_line sums name sum batch) + 1))
        (whole_lines (log_text sums name (sum_of sums name sum batch) batches ++ left)))
        (sym (marks_of_log sum batch batches at left are.0) ∙ none))

    -- what may be an end may be one behind what is read of it
    pub may_behind : (sum : ℕ) (batches : List Batch) (left : List ℕ) → AreBatches batches
        → may_end sums name (marks name 0 (whole_lines (log_text sums name sum batches ++ left))) ≡ true
        → may_end sums name (marks name 0 (whole_lines left)) ≡ true
    may_behind sum [] left are may = may
    may_behind sum (batch ∷ batches) left are may =
        let next = sum_of sums name sum batch in
        let mark = mark_line sums name sum batch in
        let at = 0 + length (lines_text batch.lines) in
        let then = at + (length mark + 1) in
        let none = may_one (at, mark) (marks name then (whole_lines (log_text sums name next batches ++ left)))
        (sym (ap (may_end sums name) (marks_of_log sum batch batches 0 left are.0)) ∙ may) in
        ap (may_end sums name) (no_batch next batches then left are.1 none)

    ends_pass_here : (sum : ℕ) (batches : List Batch) (tail : List ℕ) → AreBatches batches
        → may_end sums name (marks name 0 (whole_lines tail)) ≡ true
        → fault_in sums name (left_in sums name sum (log_text sums name sum batches ++ tail)) ≡ None
    ends_pass_here sum batches tail are may =
        let last = last_sum sums name sum batches in
        let left : List ℕ = left_in sums name last tail in
        let stands = read_stands sums name last tail in
        ap (fault_in sums name) (left_behind sum batches tail are)
        ∙ passes_by left (may_behind last (recovered sums name last tail) left (read_are sums name last tail)
        (ap (λ l. may_end sums name (marks name 0 (whole_lines l))) stands ∙ may))

    few_left : (sum : ℕ) (batches : List Batch) (left more : List ℕ) → AreBatches batches → left ++ more ≡ log_text sums name sum batches
        → recovered sums name sum left ≡ [] → marks name 0 (whole_lines left) ≡ []
    few_left sum [] left more are same none = ap (λ l. marks name 0 (whole_lines l)) (nothing_first left more same)
    few_left sum (batch ∷ batches) left more are same none =
        let next = sum_of sums name sum batch in
        let behind : List ℕ = log_text sums name next batches in
        let prefix = lines_prefix left more in
        let lines : whole_lines left ++ prefix.0 ≡ map (λ line. 43 ∷ line) batch.lines ++ mark_line sums name sum batch ∷ whole_lines behind =
        prefix.1 ∙ ap whole_lines (same ∙ append_assoc (lines_text batch.lines) (ended (mark_line sums name sum batch)) behind)
        ∙ lines_of_batch sum batch batch.lines behind are.0.0 are.0 in
        none_yet sum batch are.0 batch.lines [] (whole_lines left) prefix.0 (whole_lines behind) refl lines none 0

pub ends_pass : EndsPass
ends_pass sums name spells named = ends_pass_here sums name spells named

pub prefixes_pass : PrefixesPass
prefixes_pass sums name spells named sum batches bytes more are same =
    let read = recovered sums name sum bytes in
    let left : List ℕ = left_in sums name sum bytes in
    let last = last_sum sums name sum read in
    let text : List ℕ = log_text sums name sum read in
    let first = prefixes_read sums name sum bytes more in
    let others = first.0 in
    let all : read ++ others ≡ batches = first.1 ∙ ap (recovered sums name sum) same ∙ written_whole sums name spells named sum batches are in
    let both : AreBatches (read ++ others) = subst AreBatches (sym all) are in
    let parts = parted read others both in
    let stands : text ++ left ≡ bytes = read_stands sums name sum bytes in
    let behind : left ++ more ≡ log_text sums name last others =
    append_cancel_left text (left ++ more) (log_text sums name last others)
    (sym (append_assoc text left more) ∙ ap (λ l. l ++ more) stands ∙ same ∙ ap (log_text sums name sum) (sym all) ∙ log_append sums name sum read others) in
    let none : recovered sums name last left ≡ [] =
    append_cancel_left read (recovered sums name last left) []
    (sym (written_reads sums name spells named sum read left parts.0) ∙ ap (recovered sums name sum) stands ∙ sym (append-nil read)) in
    passes_by sums name left (ap (may_end sums name) (few_left sums name spells named last others left more parts.1 behind none))
