-- Counters keep the laws.
use Rattle.std.specs.List.{AllByRecursion}
use Rattle.std.specs.Prelude.{pos, ◌+ℤ◌, codes, refl}
use Rattle.request_codec.specs.Call.{asks}
use Rattle.grain_logic.proofs.KeepSame.{null_silent, shape_silent, add_silent}
use Rattle.grain_logic.specs.Adding.{number_of, adds_number}
use Rattle.grain_logic.specs.Counters.{get_plan}
use Rattle.grain_logic.specs.LawsOfCounters.{zero_fits, add_obeys, get_obeys}
use Rattle.grain_logic.specs.LawsOfForms.{whole_fits, keeps_changes_nothing, for_null_obeys, for_null_changes_nothing, for_shape_obeys}
use Rattle.grain_logic.specs.LawsOfTables.{IsLawfulKind, changes_lawful, reads_lawful}
use Rattle.grain_logic.specs.Shared.{integer_field}
use Rattle.grain_kinds.specs.Kinds.Counter.{counter_methods, counter}
use Rattle.grain_kinds.specs.Kinds.EveryKind.{every_kind}
use Rattle.grain_kinds.specs.Kinds.EveryKind.Laws.{every_kind_lawful, every_silent}
use Rattle.grain_kinds.specs.Rows.{IsRow, IsSilentMethod, had, had_silent}

counter_lawful : IsLawfulKind counter
unfolding counter_methods
counter_lawful = record {
  empty_fits = whole_fits (pos 0) zero_fits;
  methods_lawful = (
    changes_lawful (codes "add") 1 _ (λ state argument.
        for_shape_obeys state (asks (codes "add") argument) (integer_field (codes "by") argument) (adds_number state)
        (λ by is. add_obeys state _ (number_of state +ℤ by))),
    (
      reads_lawful (codes "get") 1 _ (λ state argument. for_null_obeys state argument _ _ (get_obeys state _))
          (λ state argument. for_null_changes_nothing state argument (get_plan state) (keeps_changes_nothing state _)),
      every_kind_lawful,
    ),
  );
}

counter_silent : AllByRecursion IsSilentMethod (had 1 counter_methods)
unfolding counter_methods
counter_silent = (
  λ state argument. shape_silent state (integer_field (codes "by") argument) (adds_number state) (add_silent state),
  (
    λ state argument. null_silent state argument (get_plan state) (record { is_same = refl }),
    every_silent,
  ),
)

pub counter_row : IsRow counter
unfolding counter_methods every_kind
counter_row = record { lawful = counter_lawful; stands = refl; silent = had_silent 1 counter_methods counter_silent }
