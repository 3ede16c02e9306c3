use Rattle.std.proofs.Common.{ap, inr, refl, sym, true≢false, ◌++◌, ◌∙◌, ℕ, List, length}
use Rattle.log_text.specs.Head.{head_text}
use Rattle.log_text.specs.Lines.{whole_lines}
use Rattle.data_command.proofs.Starts.{headed}
use Rattle.data_command.proofs.ready.is_own_log.Goals as goal

pub returns-then-is_same-clause-own : goal.returns-then-is_same-clause-own
returns-then-is_same-clause-own c is =
    let cuts = rw c.in-Some.is at c.cut_head.ensures in
    let same = c.is_same.ensures.0 c.if-is_same.true ∙ c.as_slice.ensures ∙ c.spell.ensures in
    (c.in-Some.behind.now, cuts.1 ∙ ap (λ (n : List ℕ). head_text c.args.words.now n ++ c.in-Some.behind.now) same)

pub returns-then-is_same-2-clause-old : goal.returns-then-is_same-2-clause-old
returns-then-is_same-2-clause-old c is =
    let cuts = rw c.in-Some.is at c.cut_head.ensures in
    let same = c.is_same-2.ensures.0 c.if-is_same-2.true ∙ c.as_bytes-2.ensures.value in
    (c.args.words.now, (c.in-Some.behind.now, cuts.1 ∙ ap (λ (n : List ℕ). head_text c.args.words.now n ++ c.in-Some.behind.now) same))

pub returns-then-has_number-clause-old : goal.returns-then-has_number-clause-old
returns-then-has_number-clause-old c is =
    let has = c.has_number.ensures c.if-has_number.true in
    (has.0, (has.1.0, has.1.1 ∙ ap (λ (n : List ℕ). head_text has.0 n ++ has.1.0) c.as_bytes.ensures.value))

pub returns-clause-fault : goal.returns-clause-fault
returns-clause-fault c =
    let cuts = rw c.in-Some.is at c.cut_head.ensures in
    let head = headed c.args.words.now c.in-Some.digits.now c.in-Some.behind.now c.args.log.now _ cuts.1 refl in
    inr (record {
      number = c.in-Some.digits.now;
      rest = c.in-Some.behind.now;
      numbered = cuts.0;
      is = cuts.1;
      not_own = λ same. true≢false (sym (c.is_same.ensures.1 (same ∙ sym (c.as_slice.ensures ∙ c.spell.ensures))) ∙ c.if-is_same.false);
      not_old = λ same. true≢false (sym (c.is_same-2.ensures.1 (same ∙ sym c.as_bytes-2.ensures.value)) ∙ c.if-is_same-2.false);
      line_is = c.count_lines.ensures.lines ∙ ap (λ (bs : List ℕ). length (whole_lines bs)) head;
    })
