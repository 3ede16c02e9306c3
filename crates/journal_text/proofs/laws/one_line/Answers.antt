use Rattle.journal_text.proofs.Common.{sym, ap, ◌∙◌, same_Some, candidate_of}
use Rattle.journal_text.proofs.LinesBack.{line_back}
use Rattle.journal_text.proofs.laws.one_line.Goals as goal

pub returns : goal.returns
returns c form l m is also same = same_Some l m (sym (line_back form l is).is ∙ ap (candidate_of form) same ∙ (line_back form m also).is)
