use Rattle.std.proofs.Common.{◌≡◌, ◌<◌, ◌^◌, ◌++◌, ℕ, Bool, true, false, List, length, None, Some, Ok, sym, subst, arith}
use Rattle.journal_text.proofs.Common.{Line, History, lines_text, start_lines, IsFirstFault, BeginsWithLine}
use Rattle.journal_text.specs.inside.Draft.{lines_so_far, added, AddAnswers}
use Rattle.journal_text.proofs.Faults.{fault_without_line, fault_not_added}
use Rattle.journal_text.proofs.JournalReads.{one_read}
use Rattle.journal_text.proofs.journal_reader.read_parts.Goals as goal

pub returns-in_default : goal.returns-in_default
returns-in_default c =
    let d = c.lines.draft in
    let all : List ℕ = lines_text c.args.form (start_lines c.args.form c.args.kinds c.args.age) ++ c.args.bytes.now in
    let none : BeginsWithLine c.args.form c.lines.rest.now None = rw c.in_default.is at c.in_ok-line.ensures in
    let small : length (lines_so_far c.args.form d) < 2 ^ 64 = omega (arith, c.lines.invariant.counted, c.lines.auto.number-fits) in
    subst (IsFirstFault all) (sym c.lines.invariant.counted) (fault_without_line c.args.form all d c.lines.rest.now c.lines.invariant.whole c.lines.invariant.is_draft small none)

refused : (d : History) (l : Line) (taken : Bool) (e : History) → taken ≡ false → AddAnswers d l (Ok taken) e → added d l ≡ None
refused d l taken e is answers = subst (λ b. AddAnswers d l (Ok b) e) is answers

accepted : (d : History) (l : Line) (taken : Bool) (e : History) → taken ≡ true → AddAnswers d l (Ok taken) e → added d l ≡ Some e
accepted d l taken e is answers = subst (λ b. AddAnswers d l (Ok b) e) is answers

pub returns-then-not-branch : goal.returns-then-not-branch
returns-then-not-branch c =
    let d = c.lines.draft in
    let m = c.in-Some.line in
    let all : List ℕ = lines_text c.args.form (start_lines c.args.form c.args.kinds c.args.age) ++ c.args.bytes.now in
    let begins : BeginsWithLine c.args.form c.lines.rest.now (Some (m, c.in-Some.behind.now)) = rw c.in-Some.is at c.in_ok-line.ensures in
    let small : length (lines_so_far c.args.form d) < 2 ^ 64 = omega (arith, c.lines.invariant.counted, c.lines.auto.number-fits) in
    let none = refused d m c.in_ok-add-in_default-line.field-0 c.add.new.self c.if-not-branch.true c.in_ok-add-in_default-line.ensures in
    subst (IsFirstFault all) (sym c.lines.invariant.counted) (fault_not_added c.args.form all d m c.lines.rest.now c.in-Some.behind.now c.lines.invariant.whole c.lines.invariant.is_draft small begins.0 begins.1 c.in_default-line.not-Close none)

pub lines-preserved : goal.lines-preserved
lines-preserved c =
    let d = c.lines.draft in
    let m = c.in-Some.line in
    let begins : BeginsWithLine c.args.form c.lines.rest.now (Some (m, c.in-Some.behind.now)) = rw c.in-Some.is at c.in_ok-line.ensures in
    let taken = accepted d m c.in_ok-add-in_default-line.field-0 c.add.new.self c.if-not-branch.false c.in_ok-add-in_default-line.ensures in
    one_read c.args.form c.args.kinds c.args.age c.args.bytes.now d c.add.new.self m c.lines.rest.now c.in-Some.behind.now c.lines.number c.lines.invariant begins.0 begins.1 taken
