use Rattle.journal_text.proofs.Common.{◌≡◌, None, Some, ap, sym, ◌∙◌, kind_after, last_key}
use Rattle.journal_text.proofs.Drafts.{last_key-last}
use Rattle.journal_text.proofs.draft.Draft.comes_after_kinds.Goals as goal

pub returns-in-Some : goal.returns-in-Some
returns-in-Some c =
    let item = (c.in-Some.ensures.item).3 in
    let ages : c.deref.result.now ≡ c.args.self.now.ages = cc in
    let last : last_key None c.args.self.now.ages ≡ Some c.in-Some.field-0.now.0 =
    ap (last_key None) (sym ages) ∙ last_key-last None c.deref.result.now c.in-Some.field-0.now c.in-Some.field-0.now item.0 (sym (item.1 c.in-Some.field-0.now)) in
    c.lt.ensures ∙ ap (λ before. kind_after before c.args.kind.now) (sym last)
