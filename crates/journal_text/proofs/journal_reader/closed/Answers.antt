use Rattle.std.proofs.Common.{◌≡◌, ◌+◌, ◌<◌, ◌^◌, ◌++◌, ◌∷◌, List, ℕ, [], length, true, true≢false, refl, ap, sym, subst, ◌∙◌, eqb, eqb-true, arith}
use Rattle.journal_text.proofs.Common.{append-nil, Form, History, line_text, lines_text, text_in, KeepsRulesIn, lines_so_far, IsFirstFault}
use Rattle.journal_text.specs.declared.line.Line.TheVariants as line
use Rattle.journal_text.proofs.Faults.{fault_at_close, fault_behind_fit, close_keeps, close_text}
use Rattle.journal_text.proofs.Forms.{keeps_newest}
use Rattle.journal_text.proofs.journal_reader.closed.Goals as goal

small : (form : Form) (d : History) (number : ℕ) → number ≡ length (lines_so_far form d) + 1 → number + 1 < 2 ^ 64 → length (lines_so_far form d) < 2 ^ 64
small form d number counted room = omega (arith, counted, room)

nothing : (behind : List ℕ) → eqb (length behind) 0 ≡ true → behind ≡ []
nothing [] e = refl
nothing (b ∷ behind) e = absurd (omega (arith, eqb-true (length (b ∷ behind)) 0 e))

pub returns-then-not-close_fits : goal.returns-then-not-close_fits
returns-then-not-close_fits c =
    let d = c.args.draft in
    let wrong = sym c.close_fits.ensures ∙ c.if-not-close_fits.true in
    subst (IsFirstFault (lines_text c.args.form (lines_so_far c.args.form d) ++ (line_text c.args.form (line.Close c.args.steps) ++ 10 ∷ c.args.behind.now))) (sym c.requires.counted)
    (fault_at_close c.args.form d c.args.steps c.args.behind.now c.requires.is_draft (small c.args.form d c.args.number c.requires.counted c.requires.room) c.requires.is_line wrong)

pub returns-then-not-is_empty : goal.returns-then-not-is_empty
returns-then-not-is_empty c =
    let d = c.args.draft in
    let fits = sym c.close_fits.ensures ∙ c.if-not-close_fits.false in
    let number : length (lines_so_far c.args.form d) + 2 ≡ c.args.number + 1 = omega (arith, c.requires.counted) in
    subst (IsFirstFault (lines_text c.args.form (lines_so_far c.args.form d) ++ (line_text c.args.form (line.Close c.args.steps) ++ 10 ∷ c.args.behind.now))) number
    (fault_behind_fit c.args.form d c.args.steps c.args.behind.now c.requires.is_draft (small c.args.form d c.args.number c.requires.counted c.requires.room) fits
    (λ none. true≢false (ap (λ b. eqb (length b) 0) (sym none) ∙ sym c.is_empty.ensures ∙ c.if-not-is_empty.true)))

pub finish-requires : goal.finish-requires
finish-requires c = keeps_newest c.args.form c.args.draft (close_keeps c.args.form c.args.draft c.args.steps c.requires.is_draft (small c.args.form c.args.draft c.args.number c.requires.counted c.requires.room) (sym c.close_fits.ensures ∙ c.if-not-close_fits.false))

pub returns : goal.returns
returns c =
    let d = c.args.draft in
    let fits = sym c.close_fits.ensures ∙ c.if-not-close_fits.false in
    let keeps = close_keeps c.args.form d c.args.steps c.requires.is_draft (small c.args.form d c.args.number c.requires.counted c.requires.room) fits in
    let none = nothing c.args.behind.now (sym c.is_empty.ensures ∙ c.if-not-is_empty.false) in
    let text : lines_text c.args.form (lines_so_far c.args.form d) ++ (line_text c.args.form (line.Close c.args.steps) ++ 10 ∷ c.args.behind.now) ≡ text_in c.args.form d =
    close_text c.args.form d c.args.steps c.args.behind.now fits ∙ ap (λ b. text_in c.args.form d ++ b) none ∙ append-nil (text_in c.args.form d) in
    (subst (KeepsRulesIn c.args.form) (sym c.in_ok-finish.ensures) keeps, text ∙ ap (text_in c.args.form) (sym c.in_ok-finish.ensures))
