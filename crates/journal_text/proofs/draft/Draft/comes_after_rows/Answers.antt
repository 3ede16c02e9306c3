use Rattle.journal_text.proofs.Common.{◌≡◌, None, Some, ap, sym, ◌∙◌, last_key, comes_after}
use Rattle.journal_text.proofs.Drafts.{last_key-last}
use Rattle.journal_text.proofs.draft.Draft.comes_after_rows.Goals as goal

pub returns-in-Some : goal.returns-in-Some
returns-in-Some c =
    let item = (c.in-Some.ensures.item).3 in
    let rows : c.deref.result.now ≡ c.args.self.now.rows = cc in
    let last : last_key None c.args.self.now.rows ≡ Some c.in-Some.field-0.now.0 =
    ap (last_key None) (sym rows) ∙ last_key-last None c.deref.result.now c.in-Some.field-0.now c.in-Some.field-0.now item.0 (sym (item.1 c.in-Some.field-0.now)) in
    c.lt.ensures ∙ ap (λ before. comes_after before c.args.grain.now) (sym last)
