use Rattle.std.proofs.Common.{◌≡◌, [], subst, sym, ◌∙◌, true≢false}
use Rattle.idle_collector.specs.Ages.{IsTable as AreAges}
use Rattle.journal_text.specs.JournalAnswers.{IsJournalText}
use Rattle.journal_text.specs.Rules.{IsInRange, IsTable}
use Rattle.journal_text.specs.Text.{history_of}
use Rattle.silo_checkpoint.specs.Saved.{opening_journal}
use Rattle.silo_checkpoint.specs.inside.Told.{AreCounted}
use Rattle.silo_checkpoint.proofs.Journals.{counted_so, in_range}
use Rattle.silo_checkpoint.proofs.writer.journal_of.Goals as goal

pub returns-then-not-are_counted-clause-none : goal.returns-then-not-are_counted-clause-none
returns-then-not-are_counted-clause-none g c none bytes is =
    true≢false
    (sym (c.are_counted.ensures.1 (subst AreCounted (sym c.opening-rows.ensures) (counted_so bytes (opening_journal c.args.kinds c.args.silo.now.setup) is)))
    ∙ c.if-not-are_counted.true)

pub returns-clause-text : goal.returns-clause-text
returns-clause-text g c =
    let setup = c.args.silo.now.setup in
    let same : history_of c.args.kinds c.age.result c.list.result.now c.list-2.result.now [] [] c.opening-rows.result.now ≡ opening_journal c.args.kinds setup =
    λ i.
    history_of c.args.kinds (c.age.ensures.age i) ((c.list.ensures.list ∙ c.ages.ensures) i) ((c.list-2.ensures.list ∙ c.tenants.ensures) i) [] []
    (c.opening-rows.ensures i) in
    subst (IsJournalText c.in_ok-journal_of_parts.field-0.items) same
    (c.in_ok-journal_of_parts.ensures.is_journal
    (subst IsInRange (sym same)
    (in_range c.args.kinds setup (c.is_kinds.ensures.0 c.if-not-is_kinds.false) c.age.ensures.in_range (subst AreAges c.ages.ensures c.list.ensures.is_table) (subst IsTable c.tenants.ensures c.list-2.ensures.is_table) (subst AreCounted c.opening-rows.ensures (c.are_counted.ensures.0 c.if-not-are_counted.false)))))
