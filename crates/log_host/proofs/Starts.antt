-- A log that was left is settled at a start.
use Rattle.std.proofs.Common.{refl, ap, sym}
use Rattle.log_text.specs.Sums.{own_sums}
use Rattle.log_text.specs.Reading.{lines_of, recovered}
use Rattle.log_text.proofs.Read.{reads_batches}
use Rattle.log_text.proofs.Spelled.{spells_plain}
use Rattle.log_text.proofs.Written.{written_whole}
use Rattle.log_host.specs.Laws.{StartsSettled}

pub starts_settled : StartsSettled
starts_settled log left plain =
    let batches = recovered own_sums log.name log.first left in
    let are = reads_batches log.name log.first left in
    record {
      batches = batches;
      are = are;
      file = refl;
      behind = refl;
      safe = refl;
      said = ap (λ bs. log.answers (lines_of bs)) (sym (written_whole own_sums log.name spells_plain plain log.first batches are));
    }
