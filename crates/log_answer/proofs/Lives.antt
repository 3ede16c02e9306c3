-- A silo that starts again and again from its log.
use Rattle.std.proofs.Common.{◌≡◌, ◌∙◌, ℕ, List, [], ap, sym, subst}
use Rattle.silo_model.specs.Segments.{untold}
use Rattle.silo_model.specs.Machine.{Machine}
use Rattle.silo_model.specs.Whole.{Whole, shown_to}
use Rattle.answer_model.specs.Answering.{all_answered, machine_stepper}
use Rattle.answer_model.specs.Apart.{asked_by}
use Rattle.line_answer.specs.Texts.{asks_of}
use Rattle.log_text.specs.Lines.{HasNoBreak}
use Rattle.log_text.specs.Sums.{own_sums}
use Rattle.log_text.specs.Batches.{last_sum}
use Rattle.log_text.specs.Reading.{lines_of, recovered}
use Rattle.log_text.proofs.Read.{reads_batches}
use Rattle.log_text.proofs.Spelled.{spells_plain}
use Rattle.log_text.proofs.Written.{written_whole}
use Rattle.log_host.specs.Lasting.{IsSettled, lines_in}
use Rattle.log_host.specs.Laws.{restarted}
use Rattle.log_host.proofs.Lives.{lines_stay, lives_last}
use Rattle.log_host.proofs.Starts.{starts_settled}
use Rattle.log_answer.specs.Answers.{heard_of, led, silo_log}
use Rattle.log_answer.specs.Laws.{LogsApart, SilosLast, StartsGoOn}
use Rattle.log_answer.proofs.Left.{left_is_all}

pub starts_go_on : StartsGoOn
starts_go_on keeps logic n place left old new again plain on =
    let a = on.answers in
    let log = silo_log logic n old.whole place.name place.sum in
    let batches = recovered own_sums place.name place.sum left in
    let sum : again.place.sum ≡ last_sum own_sums place.name place.sum batches = a.sum ∙ ap (last_sum own_sums place.name place.sum) a.read in
    let there = subst (λ s. IsSettled log (restarted log left) s) (sym sum) (starts_settled log left plain) in
    let same : silo_log logic n old.whole again.place.name place.sum ≡ log = ap (λ name. silo_log logic n old.whole name place.sum) a.name in
    record {
      plain = subst HasNoBreak (sym a.name) plain;
      settled = subst (λ x. IsSettled x (restarted log left) again.place.sum) (sym same) there;
      leads =
          left_is_all keeps on.all new on.left
          ∙ ap untold a.leads.whole
          ∙ ap (λ bs. untold (led logic n old.whole (lines_of bs))) (a.read ∙ sym (written_whole own_sums place.name spells_plain plain place.sum batches (reads_batches place.name place.sum left)))
          ∙ ap (λ x. untold (led logic n old.whole (lines_in x (restarted log left).file))) (sym same);
    }

pub silos_last : SilosLast
silos_last logic n w name first left lives plain are =
    let log = silo_log logic n w name first in
    (lives_last log left lives are, lines_stay log left lives plain are)

-- what a tenant is shown of a whole without its replies
bare_shown : (tenant : List ℕ) (w x : Whole) → shown_to tenant w ≡ shown_to tenant x → shown_to tenant (untold w) ≡ shown_to tenant (untold x)
unfolding shown_to
bare_shown tenant w x same = ap (λ (m : Machine). record m { replies = [] }) same

pub logs_apart : LogsApart
logs_apart keeps holds logic n place other left right tenant old new before after again there on by start same =
    let here = on.answers in
    let beside = by.answers in
    let alike : shown_to tenant on.all.whole ≡ shown_to tenant by.all.whole =
    here.leads.own tenant
    ∙ ap (λ bs. all_answered (machine_stepper logic) n (shown_to tenant old.whole) (asked_by tenant (asks_of (heard_of (lines_of bs))))) here.read
    ∙ (λ i. all_answered (machine_stepper logic) n (start i) (same i))
    ∙ ap (λ bs. all_answered (machine_stepper logic) n (shown_to tenant before.whole) (asked_by tenant (asks_of (heard_of (lines_of bs))))) (sym beside.read)
    ∙ sym (beside.leads.own tenant) in (
      alike,
      ap (shown_to tenant) (left_is_all keeps on.all new on.left)
          ∙ bare_shown tenant on.all.whole by.all.whole alike
          ∙ ap (shown_to tenant) (sym (left_is_all holds by.all after by.left)),
    )
