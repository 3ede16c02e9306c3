-- What is cut off has no batch behind something else.
use Rattle.std.proofs.Common.{◌≡◌, ◌≢◌, ◌==◌, ◌∙◌, Bool, true, false, true≢false, cond, List, [], ◌∷◌, ◌++◌, ◌+◌, ◌≤◌, ◌<◌, ◌^◌, ◌/◌, length, take, drop, append_assoc, refl, ap, sym, subst, arith, ℕ, zero, suc, Some, None, ◌⊎◌, inl, inr}
use Rattle.std.specs.Int.{byte_at, bytes_high_first, from_be_bytes, to_be_bytes, w64}
use Rattle.std.proofs.lemmas.Bool.{cases_lt}
use Rattle.std.proofs.lemmas.List.{append_cancel_left, append-nil, length-append}
use Rattle.std.proofs.lemmas.Nat.{from_be_bytes-to_be_bytes_8, mod_below}
use Rattle.std.proofs.Math.Seq.{take-append_seam}
use Rattle.hex.specs.Hex.{IsBytes, decode_of}
use Rattle.hex.proofs.HexLemmas.{decode_of-encode_lower, decode_of-same}
use Rattle.log_text.specs.Lines.{ArePlain, HasNoBreak, ended, onto_first, whole_lines}
use Rattle.log_text.specs.Sums.{own_sums, spelled}
use Rattle.log_text.specs.Batches.{AreBatches, Batch, IsBatch, batch_text, last_sum, line_text, lines_text, log_text, mark_head, mark_line, mark_place, sum_of}
use Rattle.log_text.specs.Reading.{asked_first, fault_in, is_placed, left_in, marks, may_end, recovered}
use Rattle.log_text.specs.Laws.{BatchesKept, LostRefused}
use Rattle.log_text.proofs.Lines.{either}
use Rattle.log_text.proofs.Marks.{begins, behind_it, by_test, length-spelled}
use Rattle.log_text.proofs.Passes.{is_its_mark, left_behind, lines_of_batch, marks_append, marks_of_log, marks_on, nothing_first, same_head, same_tail, size}
use Rattle.log_text.proofs.Read.{read_are}
use Rattle.log_text.proofs.Spelled.{spells_plain}
use Rattle.log_text.proofs.Stands.{read_stands}
use Rattle.log_text.proofs.Written.{plain_mark}

-- ---- numbers, spelled

byte_below : (k n : ℕ) → byte_at k n < 256
byte_below zero n = mod_below n 256 (omega arith)
byte_below (suc k) n = mod_below (n / 256 ^ suc k) 256 (omega arith)

bytes_are : (k n : ℕ) → IsBytes (bytes_high_first k n)
bytes_are zero n i = omega arith
bytes_are (suc k) n zero = byte_below k n
bytes_are (suc k) n (suc i) = bytes_are k n i

spelled_apart : (m n : ℕ) → m < 2 ^ 64 → n < 2 ^ 64 → spelled m ≡ spelled n → m ≡ n
unfolding spelled
spelled_apart m n low small same =
    let one = decode_of-encode_lower (to_be_bytes w64 m) (bytes_are 8 m) in
    let other = ap decode_of same ∙ decode_of-encode_lower (to_be_bytes w64 n) (bytes_are 8 n) in
    sym (from_be_bytes-to_be_bytes_8 m low)
    ∙ ap (from_be_bytes w64) (decode_of-same (spelled m) (to_be_bytes w64 m) (to_be_bytes w64 n) one other)
    ∙ from_be_bytes-to_be_bytes_8 n small

first_of : (n : ℕ) (rest : List ℕ) → take 16 (spelled n ++ rest) ≡ spelled n
first_of n rest = ap (λ k. take k (spelled n ++ rest)) (sym (length-spelled n)) ∙ take-append_seam (spelled n) rest

-- ---- lists

record Parts (text left front rest : List ℕ) : Type 0 where
  pub mid : List ℕ
  pub first : text ++ mid ≡ front
  pub last : left ≡ mid ++ rest

parts_of : (text left front rest : List ℕ) → text ++ left ≡ front ++ rest → length rest ≤ length left → Parts text left front rest
parts_of [] left front rest is long = record { mid = front; first = refl; last = is }
parts_of (t ∷ text) left [] rest is long = absurd (omega (arith, long, ap length is, length-append text left))
parts_of (t ∷ text) left (f ∷ front) rest is long =
    let p = parts_of text left front rest (same_tail t f (text ++ left) (front ++ rest) is) long in
    record {
      mid = p.mid;
      first = ap (λ l. t ∷ l) p.first ∙ ap (λ b. b ∷ front) (same_head t f (text ++ left) (front ++ rest) is);
      last = p.last;
    }

-- where a line ends, if another LF stands in the same bytes
first_break : (p q line r : List ℕ) → HasNoBreak line → p ++ 10 ∷ q ≡ line ++ 10 ∷ r → (q ≡ r) ⊎ ((more : List ℕ) × (more ++ 10 ∷ q ≡ r))
first_break [] q [] r plain is = inl (same_tail 10 10 q r is)
first_break (b ∷ p) q [] r plain is = inr (p, same_tail b 10 (p ++ 10 ∷ q) r is)
first_break [] q (l ∷ line) r plain is = absurd (true≢false (ap (λ k. (k == 10)) (same_head 10 l q (line ++ 10 ∷ r) is) ∙ plain.0))
first_break (b ∷ p) q (l ∷ line) r plain is = first_break p q line r plain.1 (same_tail b l (p ++ 10 ∷ q) (line ++ 10 ∷ r) is)

-- a batch that is cut behind one of its lines
record Fewer (lines : List (List ℕ)) (mark end : List ℕ) : Type 0 where
  pub others : List (List ℕ)
  pub plain : ArePlain others
  pub is : end ≡ lines_text others ++ ended mark
  pub less : length (lines_text others) < length (lines_text lines)

fewer_on : (line : List ℕ) (lines : List (List ℕ)) (mark end : List ℕ) → Fewer lines mark end → Fewer (line ∷ lines) mark end
fewer_on line lines mark end f = record {
  others = f.others;
  plain = f.plain;
  is = f.is;
  less = omega (arith, f.less, length-append (line_text line) (lines_text lines));
}

cut_in : (lines : List (List ℕ)) (mark p end : List ℕ) → ArePlain lines → HasNoBreak mark → p ++ 10 ∷ end ≡ lines_text lines ++ ended mark
    → 0 < length end → Fewer lines mark end
cut_in [] mark p end plain one is some = elim (first_break p end mark [] one is) [
  | inl none ↦ absurd (omega (arith, some, ap length none))
  | inr more ↦ absurd (omega (arith, ap length more.1, length-append more.0 (10 ∷ end)))
]
cut_in (line ∷ lines) mark p end plain one is some =
    let behind : List ℕ = lines_text lines ++ ended mark in
    let same : p ++ 10 ∷ end ≡ (43 ∷ line) ++ 10 ∷ behind =
    is ∙ append_assoc (line_text line) (lines_text lines) (ended mark) ∙ append_assoc (43 ∷ line) (10 ∷ []) behind in
    elim (first_break p end (43 ∷ line) behind (refl, plain.0) same) [
      | inl there ↦ record {
        others = lines;
        plain = plain.1;
        is = there;
        less = omega (arith, length-append (line_text line) (lines_text lines), length-append line (10 ∷ []));
      }
      | inr more ↦ fewer_on line lines mark end (cut_in lines mark more.0 end plain.1 one more.1 some)
    ]

-- lines up to an LF
record LinesBehind (xs : List ℕ) : Type 0 where
  pub first : List ℕ
  pub others : List (List ℕ)
  pub are : (ys : List ℕ) → whole_lines (xs ++ 10 ∷ ys) ≡ first ∷ (others ++ whole_lines ys)
  pub sized : size (first ∷ others) ≡ length xs + 1

lines_behind : (xs : List ℕ) → LinesBehind xs
lines_behind [] = record { first = []; others = []; are = λ ys. refl; sized = refl }
lines_behind (b ∷ xs) =
    let rest = lines_behind xs in
    either (λ c. ((b == 10) ≡ c) → LinesBehind (b ∷ xs)) (b == 10)
    (λ is. record {
      first = [];
      others = rest.first ∷ rest.others;
      are = λ ys. ap (λ c. cond c ([] ∷ whole_lines (xs ++ 10 ∷ ys)) (onto_first b (whole_lines (xs ++ 10 ∷ ys)))) is ∙ ap (λ l. [] ∷ l) (rest.are ys);
      sized = omega (arith, rest.sized);
    })
    (λ is. record {
      first = b ∷ rest.first;
      others = rest.others;
      are = λ ys. ap (λ c. cond c ([] ∷ whole_lines (xs ++ 10 ∷ ys)) (onto_first b (whole_lines (xs ++ 10 ∷ ys)))) is ∙ ap (onto_first b) (rest.are ys);
      sized = omega (arith, rest.sized);
    })
    refl

-- ---- a mark's place

module _ (name : List ℕ) where
  in_place : (sum : ℕ) (batch : Batch) → is_placed own_sums name (length (lines_text batch.lines), mark_line own_sums name sum batch) ≡ true
  in_place sum batch =
      let place : List ℕ = mark_place own_sums name (length (lines_text batch.lines)) in
      let told : List ℕ = 32 ∷ (batch.told ++ 32 ∷ []) in
      let end : List ℕ = spelled (sum_of own_sums name sum batch) in
      begins place (mark_line own_sums name sum batch) (told ++ end) (append_assoc place told end)

  -- there is one such place
  placed_there : (sum : ℕ) (batch : Batch) (at : ℕ) → at < 2 ^ 64 → length (lines_text batch.lines) < 2 ^ 64
      → is_placed own_sums name (at, mark_line own_sums name sum batch) ≡ true → at ≡ length (lines_text batch.lines)
  placed_there sum batch at low small is =
      let count = length (lines_text batch.lines) in
      let head : List ℕ = mark_head name in
      let mark : List ℕ = mark_line own_sums name sum batch in
      let told : List ℕ = 32 ∷ (batch.told ++ 32 ∷ []) in
      let end : List ℕ = spelled (sum_of own_sums name sum batch) in
      let rest : List ℕ = drop (length (mark_place own_sums name at)) mark in
      let one : mark ≡ head ++ (spelled at ++ rest) = behind_it (mark_place own_sums name at) mark is ∙ append_assoc head (spelled at) rest in
      let other : mark ≡ head ++ (spelled count ++ (told ++ end)) =
      append_assoc (head ++ spelled count) told end ∙ append_assoc head (spelled count) (told ++ end) in
      let same = append_cancel_left head (spelled at ++ rest) (spelled count ++ (told ++ end)) (sym one ∙ other) in
      spelled_apart at count low small (sym (first_of at rest) ∙ ap (take 16) same ∙ first_of count (told ++ end))

  last_placed : (before : List (ℕ × List ℕ)) (mark : ℕ × List ℕ) (others : List (ℕ × List ℕ)) → may_end own_sums name (before ++ mark ∷ others) ≡ true
      → is_placed own_sums name mark ≡ true
  last_placed [] mark [] may = may
  last_placed [] mark (other ∷ others) may = absurd (true≢false (sym may))
  last_placed (m ∷ []) mark others may = absurd (true≢false (sym may))
  last_placed (m ∷ n ∷ before) mark others may = absurd (true≢false (sym may))

  module _ (named : HasNoBreak name) (other : ℕ) (batch : Batch) (is : IsBatch batch) where
    -- the marks behind something and the batch's first line
    record Shown (junk rest : List ℕ) (line : List ℕ) (lines : List (List ℕ)) : Type 0 where
      pub before : List (ℕ × List ℕ)
      pub at : ℕ
      pub others : List (ℕ × List ℕ)
      pub place : at ≡ length junk + length (lines_text (line ∷ lines))
      pub are : marks name 0 (whole_lines (junk ++ ((lines_text (line ∷ lines) ++ ended (mark_line own_sums name other batch)) ++ rest)))
          ≡ before ++ (at, mark_line own_sums name other batch) ∷ others
      pub none : marks name 0 (whole_lines (junk ++ lines_text (line ∷ lines))) ≡ [] → before ≡ []

    shown : (junk rest line : List ℕ) (lines : List (List ℕ)) → ArePlain lines → Shown junk rest line lines
    shown junk rest line lines plain =
        let front : List ℕ = junk ++ 43 ∷ line in
        let behind = lines_behind front in
        let first : List (List ℕ) = behind.first ∷ behind.others in
        let ms = mark_line own_sums name other batch in
        let end : List ℕ = lines_text lines ++ (ended ms ++ rest) in
        let parted : (tail : List ℕ) → junk ++ (line_text line ++ tail) ≡ front ++ 10 ∷ tail = λ tail.
        ap (λ l. junk ++ l) (append_assoc (43 ∷ line) (10 ∷ []) tail) ∙ sym (append_assoc junk (43 ∷ line) (10 ∷ tail)) in
        let whole : junk ++ ((lines_text (line ∷ lines) ++ ended ms) ++ rest) ≡ front ++ 10 ∷ end =
        ap (λ l. junk ++ l) (append_assoc (lines_text (line ∷ lines)) (ended ms) rest ∙ append_assoc (line_text line) (lines_text lines) (ended ms ++ rest)) ∙ parted end in
        let from = 0 + size first in
        let at = from + length (lines_text lines) in
        record {
          before = marks name 0 first;
          at = at;
          others = marks name (at + (length ms + 1)) (whole_lines rest);
          place =
              omega (arith, behind.sized, length-append junk (43 ∷ line), length-append (line_text line) (lines_text lines), length-append line (10 ∷ []));
          are =
              ap (λ l. marks name 0 (whole_lines l)) whole
              ∙ ap (marks name 0) (behind.are end)
              ∙ marks_append name 0 first (whole_lines end)
              ∙ ap (λ l. marks name 0 first ++ marks name from l) (lines_of_batch own_sums name spells_plain named other batch lines rest plain is)
              ∙ ap (λ l. marks name 0 first ++ l) (marks_on name ms (is_its_mark own_sums name other batch) lines from (whole_lines rest));
          none = λ e. nothing_first (marks name 0 first) (marks name from (whole_lines (lines_text lines)))
              (sym (marks_append name 0 first (whole_lines (lines_text lines)))
              ∙ sym (ap (marks name 0) (behind.are (lines_text lines)))
              ∙ sym (ap (λ l. marks name 0 (whole_lines l)) (parted (lines_text lines)))
              ∙ e);
        }

    -- an end begins with the batch, if it has it
    at_front : (junk rest : List ℕ) (lines : List (List ℕ)) → batch.lines ≡ lines → lines ≢ [] → length (junk ++ lines_text lines) < 2 ^ 64
        → may_end own_sums name (marks name 0 (whole_lines (junk ++ ((lines_text lines ++ ended (mark_line own_sums name other batch)) ++ rest)))) ≡ true
        → length junk ≡ 0
    at_front junk rest [] are some small may = absurd (some refl)
    at_front junk rest (line ∷ lines) are some small may =
        let plain : ArePlain (line ∷ lines) = subst ArePlain are is.0 in
        let s = shown junk rest line lines plain.1 in
        let ms = mark_line own_sums name other batch in
        let placed = last_placed s.before (s.at, ms) s.others (sym (ap (may_end own_sums name) s.are) ∙ may) in
        let count : length (lines_text batch.lines) ≡ length (lines_text (line ∷ lines)) = ap (λ ls. length (lines_text ls)) are in
        let sized = length-append junk (lines_text (line ∷ lines)) in
        let there = placed_there other batch s.at (omega (arith, small, sized, s.place)) (omega (arith, small, sized, count)) placed in
        omega (arith, there, s.place, count)

    kept_front : (junk rest : List ℕ) → batch.lines ≢ [] → length (junk ++ lines_text batch.lines) < 2 ^ 64
        → may_end own_sums name (marks name 0 (whole_lines (junk ++ (batch_text own_sums name other batch ++ rest)))) ≡ true → length junk ≡ 0
    kept_front junk rest some small may = at_front junk rest batch.lines refl some small may

    -- an end isn't the rest of a batch
    no_rest : (rest end : List ℕ) → Fewer batch.lines (mark_line own_sums name other batch) end → length (lines_text batch.lines) < 2 ^ 64
        → may_end own_sums name (marks name 0 (whole_lines (end ++ rest))) ≡ true → ⊥
    no_rest rest end f small may =
        let ms = mark_line own_sums name other batch in
        let others : List ℕ = lines_text f.others in
        let at = 0 + length others in
        let lines = ap (λ l. marks name 0 (whole_lines l)) (ap (λ l. l ++ rest) f.is ∙ append_assoc others (ended ms) rest)
        ∙ ap (marks name 0) (lines_of_batch own_sums name spells_plain named other batch f.others rest f.plain is)
        ∙ marks_on name ms (is_its_mark own_sums name other batch) f.others 0 (whole_lines rest) in
        let placed = last_placed [] (at, ms) (marks name (at + (length ms + 1)) (whole_lines rest)) (sym (ap (may_end own_sums name) lines) ∙ may) in
        let there = placed_there other batch at (omega (arith, small, f.less)) small placed in
        omega (arith, there, f.less)

-- ---- the laws

some_none : (n : ℕ) → Some n ≡ None → ⊥
some_none n e = cc

none_or : (c : Bool) (n : ℕ) → cond c None (Some n) ≡ None → c ≡ true
none_or true n is = refl
none_or false n is = absurd (some_none n is)

no_length : {A : Type 0} (xs : List A) → length xs ≡ 0 → xs ≡ []
no_length [] is = refl
no_length (x ∷ xs) is = absurd (omega (arith, is))

-- a log's text is nothing, or has an LF at its end
log_ended : (name : List ℕ) (sum : ℕ) (batches : List Batch)
    → (log_text own_sums name sum batches ≡ []) ⊎ ((front : List ℕ) × (log_text own_sums name sum batches ≡ front ++ 10 ∷ []))
log_ended name sum [] = inl refl
log_ended name sum (batch ∷ batches) =
    let text : List ℕ = batch_text own_sums name sum batch in
    let ms : List ℕ = mark_line own_sums name sum batch in
    elim (log_ended name (sum_of own_sums name sum batch) batches) [
      | inl none ↦ inr (lines_text batch.lines ++ ms, ap (λ l. text ++ l) none ∙ append-nil text ∙ sym (append_assoc (lines_text batch.lines) ms (10 ∷ [])))
      | inr more ↦ inr (text ++ more.0, ap (λ l. text ++ l) more.1 ∙ sym (append_assoc text more.0 (10 ∷ [])))
    ]

module _ (name : List ℕ) (named : HasNoBreak name) (sum other : ℕ) (batch : Batch) (front rest : List ℕ) (is : IsBatch batch) (some : batch.lines ≢ []) where
  -- what is read doesn't end within the batch
  within : (batches : List Batch) (end : List ℕ) → Parts front (batch_text own_sums name other batch) (log_text own_sums name sum batches) end
      → 0 < length end → length end < length (batch_text own_sums name other batch) → length (lines_text batch.lines) < 2 ^ 64
      → may_end own_sums name (marks name 0 (whole_lines (end ++ rest))) ≡ true → ⊥
  within batches end p one less small may =
      let ms = mark_line own_sums name other batch in
      let sized = length-append p.mid end in
      elim (log_ended name sum batches) [
        | inl none ↦ omega (arith, less, sized, ap length p.last, length-append front p.mid, ap length (p.first ∙ none))
        | inr more ↦ (
            let q = parts_of front p.mid more.0 (10 ∷ []) (p.first ∙ more.1) (omega (arith, less, sized, ap length p.last)) in
            let cut : q.mid ++ 10 ∷ end ≡ lines_text batch.lines ++ ended ms =
            sym (append_assoc q.mid (10 ∷ []) end) ∙ ap (λ l. l ++ end) (sym q.last) ∙ sym p.last in
            no_rest name named other batch is rest end (cut_in batch.lines ms q.mid end is.0 (plain_mark own_sums name spells_plain named other batch is.1) cut one) small may)
      ]

pub batches_kept : BatchesKept
batches_kept name named sum other batch front rest is some bytes whole small left there passes =
    let read = recovered own_sums name sum bytes in
    let text : List ℕ = log_text own_sums name sum read in
    let one : List ℕ = batch_text own_sums name other batch in
    let all : text ++ left ≡ (front ++ one) ++ rest =
    ap (λ l. text ++ l) there ∙ read_stands own_sums name sum bytes ∙ whole ∙ sym (append_assoc front one rest) in
    let may : may_end own_sums name (marks name 0 (whole_lines left)) ≡ true =
    none_or (may_end own_sums name (marks name 0 (whole_lines left))) (asked_first (whole_lines left)) passes in
    let sized : length (front ++ lines_text batch.lines) < 2 ^ 64 =
    omega (
      arith,
      small,
      ap length whole,
      length-append front (one ++ rest),
      length-append one rest,
      length-append front (lines_text batch.lines),
      length-append (lines_text batch.lines) (ended (mark_line own_sums name other batch)),
    ) in
    elim (cases_lt (length rest) (length left)) [
      | inr le ↦ inl (
          let p = parts_of (front ++ one) rest text left (sym all) le in
          (p.mid, sym p.last))
      | inl more ↦ (
          let p = parts_of text left (front ++ one) rest all (omega (arith, more)) in
          elim (cases_lt (length p.mid) (length one)) [
            | inl less ↦ absurd (within name named sum other batch front rest is some read p.mid (parts_of front one text p.mid (sym p.first) (omega (arith, less)))
                (omega (arith, more, ap length p.last, length-append p.mid rest)) less (omega (arith, sized, length-append front (lines_text batch.lines)))
                (sym (ap (λ l. may_end own_sums name (marks name 0 (whole_lines l))) p.last) ∙ may))
            | inr ge ↦ inr (
                let q = parts_of text p.mid front one p.first ge in
                let there : left ≡ q.mid ++ (one ++ rest) = p.last ∙ ap (λ l. l ++ rest) q.last ∙ append_assoc q.mid one rest in
                let short : length (q.mid ++ lines_text batch.lines) < 2 ^ 64 =
                omega (
                  arith,
                  sized,
                  length-append front (lines_text batch.lines),
                  length-append q.mid (lines_text batch.lines),
                  ap length q.first,
                  length-append text q.mid,
                ) in
                let none = no_length q.mid (kept_front name named other batch is q.mid rest some short
                (sym (ap (λ l. may_end own_sums name (marks name 0 (whole_lines l))) there) ∙ may)) in
                there ∙ ap (λ l. l ++ (one ++ rest)) none)
          ])
    ]

-- ---- behind something

-- the first mark of bytes is a batch's, but not at its place
record First (name : List ℕ) (other : ℕ) (batch : Batch) (junk left : List ℕ) : Type 0 where
  pub at : ℕ
  pub others : List (ℕ × List ℕ)
  pub place : at ≡ length junk + length (lines_text batch.lines)
  pub are : marks name 0 (whole_lines left) ≡ (at, mark_line own_sums name other batch) ∷ others

module _ (name : List ℕ) (named : HasNoBreak name) (other : ℕ) (batch : Batch) (is : IsBatch batch) where
  first_shown : (junk rest : List ℕ) (lines : List (List ℕ)) → batch.lines ≡ lines → lines ≢ [] → marks name 0 (whole_lines (junk ++ lines_text lines)) ≡ []
      → First name other batch junk (junk ++ ((lines_text lines ++ ended (mark_line own_sums name other batch)) ++ rest))
  first_shown junk rest [] are some none = absurd (some refl)
  first_shown junk rest (line ∷ lines) are some none =
      let plain : ArePlain (line ∷ lines) = subst ArePlain are is.0 in
      let s = shown name named other batch is junk rest line lines plain.1 in
      record {
        at = s.at;
        others = s.others;
        place = s.place ∙ ap (λ ls. length junk + length (lines_text ls)) (sym are);
        are = s.are ∙ ap (λ l. l ++ (s.at, mark_line own_sums name other batch) ∷ s.others) (s.none none);
      }

  -- nothing is read of them
  none_read : (junk left : List ℕ) → First name other batch junk left → length (junk ++ lines_text batch.lines) < 2 ^ 64 → 0 < length junk
      → (sum : ℕ) (batches : List Batch) (end : List ℕ) → AreBatches batches → log_text own_sums name sum batches ++ end ≡ left → batches ≡ []
  none_read junk left f small some sum [] end are same = refl
  none_read junk left f small some sum (b ∷ batches) end are same =
      let ms = mark_line own_sums name other batch in
      let mine = mark_line own_sums name sum b in
      let count = length (lines_text b.lines) in
      let zero_on : 0 + count ≡ count = omega arith in
      let more = marks name ((0 + count) + (length mine + 1)) (whole_lines (log_text own_sums name (sum_of own_sums name sum b) batches ++ end)) in
      let both : (f.at, ms) ∷ f.others ≡ (0 + count, mine) ∷ more =
      sym f.are ∙ sym (ap (λ l. marks name 0 (whole_lines l)) same) ∙ marks_of_log own_sums name spells_plain named sum b batches 0 end are.0 in
      let placed = ap (is_placed own_sums name) (same_head (f.at, ms) (0 + count, mine) f.others more both)
      ∙ ap (λ k. is_placed own_sums name (k, mine)) zero_on ∙ in_place name sum b in
      let sized = length-append junk (lines_text batch.lines) in
      let there = placed_there name other batch f.at (omega (arith, small, sized, f.place)) (omega (arith, small, sized)) placed in
      absurd (omega (arith, some, there, f.place))

some_length : {A : Type 0} (xs : List A) → xs ≢ [] → 0 < length xs
some_length [] some = absurd (some refl)
some_length (x ∷ xs) some = omega arith

pub lost_refused : LostRefused
lost_refused name named sum other batches batch junk rest are is some more none small left whole =
    let last = last_sum own_sums name sum batches in
    let shown = subst (First name other batch junk) (sym whole) (first_shown name named other batch is junk rest batch.lines refl some none) in
    let long = some_length junk more in
    let nothing = none_read name named other batch is junk left shown small long last (recovered own_sums name last left) (left_in own_sums name last left)
    (read_are own_sums name last left) (read_stands own_sums name last left) in
    let not : may_end own_sums name (marks name 0 (whole_lines left)) ≡ false = by_test (may_end own_sums name (marks name 0 (whole_lines left))) (λ may.
    let front = kept_front name named other batch is junk rest some small (sym (ap (λ l. may_end own_sums name (marks name 0 (whole_lines l))) whole) ∙ may) in
    omega (arith, front, long)) in
    ap (fault_in own_sums name) (left_behind own_sums name spells_plain named sum batches left are
    ∙ ap (λ bs. drop (length (log_text own_sums name last bs)) left) nothing)
    ∙ ap (λ c. cond c None (Some (asked_first (whole_lines left)))) not
