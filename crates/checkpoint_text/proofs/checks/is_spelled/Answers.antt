use Rattle.std.proofs.Common.{ap, sym, ◌∙◌}
use Rattle.std.specs.List.{list_all}
use Rattle.grain_id.specs.Words.{is_name_byte}
use Rattle.tenant_accounts.specs.Parts.{kept_in}
use Rattle.checkpoint_text.specs.Answers.{parts_in}
use Rattle.checkpoint_text.specs.Rules.{has_word, is_ascii_byte}
use Rattle.checkpoint_text.proofs.Standing.{no_second, the_third, words_seen}
use Rattle.checkpoint_text.proofs.checks.is_spelled.Goals as goal

pub returns-then-not-have_words : goal.returns-then-not-have_words
returns-then-not-have_words c =
    let p = parts_in c.args.parts.now in
    no_second (list_all is_name_byte p.follows) (list_all has_word p.accounts) (list_all is_ascii_byte p.journal)
    (sym (words_seen c.args.parts.now.kept.now.accounts.items c.have_words.result (c.have_words.ensures ∙ ap (list_all (λ account. has_word (kept_in account))) c.as_slice.ensures.value)) ∙ c.if-not-have_words.true)

pub returns : goal.returns
returns c =
    let p = parts_in c.args.parts.now in
    c.all_ascii.ensures
    ∙ the_third (list_all is_name_byte p.follows) (list_all has_word p.accounts) (list_all is_ascii_byte p.journal)
    (ap (list_all is_name_byte) (sym c.as_bytes.ensures.value) ∙ sym c.all_name_bytes.ensures ∙ c.if-not-all_name_bytes.false)
    (sym (words_seen c.args.parts.now.kept.now.accounts.items c.have_words.result (c.have_words.ensures ∙ ap (list_all (λ account. has_word (kept_in account))) c.as_slice.ensures.value)) ∙ c.if-not-have_words.false)
