-- What a start under other words makes of a tenant.
use Rattle.std.proofs.Common.{◌≡◌, ◌∙◌, ℕ, List, [], ap, refl, sym}
use Rattle.std.specs.Prelude.{option_map}
use Rattle.tenant_gate.specs.Table.{limits_of}
use Rattle.grain_logic.specs.Logic.{Logic}
use Rattle.silo_model.specs.Machine.{Machine}
use Rattle.silo_model.specs.Opening.{Setup, account_at, opening, start_of}
use Rattle.silo_model.specs.Segments.{resumed, untold}
use Rattle.silo_model.specs.Whole.{shown_to}
use Rattle.silo_model.proofs.Opening.{opening_shown}
use Rattle.silo_model.proofs.Segments.{resumes_as_it_was}
use Rattle.line_answer.proofs.Asked.{opening_idle}
use Rattle.command_parts.specs.Setups.{Start}
use Rattle.data_command.specs.Carried.{WordsChangeLimits}
use Rattle.data_command.specs.Folder.{carried, with_kept}

-- nothing was told yet
none_told : (setup : Setup) → untold (opening setup) ≡ opening setup
unfolding opening
none_told setup = refl

goes_on : (logic : Logic) (setup : Setup) → opening (resumed setup (opening setup)) ≡ opening setup
goes_on logic setup = resumes_as_it_was logic setup [] (opening setup) refl (opening_idle setup) ∙ none_told setup

module _ (tables old : Setup) (tenant : List ℕ) where
  abbrev with_tables : Machine → Machine
  with_tables m = record m { account = option_map (account_at old.kept tenant) (limits_of tables.tenants tenant); age = tables.age; ages = tables.ages }

  starts : start_of (with_kept tables old) tenant ≡ with_tables (start_of old tenant)
  unfolding start_of
  starts = refl

pub words_change_limits : WordsChangeLimits
words_change_limits start old tenant =
    ap (shown_to tenant) (goes_on start.version.logic (with_kept start.setup old))
    ∙ opening_shown (with_kept start.setup old) tenant
    ∙ starts start.setup old tenant
    ∙ ap (with_tables start.setup old tenant) (sym (opening_shown old tenant))
