use Rattle.std.proofs.Common.{◌≡◌, Option, None, Err, subst}
use Rattle.journal_text.proofs.Common.{LineFault, Line}
use Rattle.journal_text.specs.declared.fault.LineFault.TheVariants as faults
use Rattle.journal_text.specs.inside.Answers.{Reads}
use Rattle.journal_text.proofs.OwnText.{is_unread}
use Rattle.journal_text.proofs.line_reader.parse_line.Goals as goal

nothing_read : (e : LineFault) (found : Option Line) → e ≡ faults.NoForm → Reads {X = Line} {A = Line} (λ read. read) (Err e) found → found ≡ None
nothing_read e found is reads = subst (λ fault. Reads {X = Line} {A = Line} (λ read. read) (Err fault) found) is reads

pub returns-in-Err-NoForm : goal.returns-in-Err-NoForm
returns-in-Err-NoForm c = is_unread c.args.form _ (nothing_read c.in-Err-NoForm.field-0 _ c.in-Err-NoForm.field-0-is c.in-Err-NoForm.ensures.gives)
