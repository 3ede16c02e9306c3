-- What a crash leaves of a folder opens as where all that was told leads.
use Rattle.std.proofs.Common.{◌≡◌, ◌∙◌, ℕ, List, [], ◌++◌, Option, ap, inl, inr, refl, subst, sym}
use Rattle.std.specs.Prelude.{◌⊎◌}
use Rattle.silo_model.specs.Opening.{opening}
use Rattle.silo_model.specs.Segments.{untold}
use Rattle.silo_model.specs.Whole.{Whole}
use Rattle.log_text.specs.Lines.{IsPrefixOf}
use Rattle.log_text.specs.Sums.{spelled}
use Rattle.log_host.specs.Acts.{Always}
use Rattle.log_host.specs.Lasting.{Lasts, answered, lines_in}
use Rattle.log_host.specs.Laws.{restarted}
use Rattle.log_host.proofs.Crashes.{at_each_moment}
use Rattle.log_answer.specs.Answers.{led, told_for}
use Rattle.log_answer.proofs.Led.{led_append, silos_grow}
use Rattle.log_answer.proofs.Left.{led_alike}
use Rattle.silo_checkpoint.specs.Saved.{sum_in}
use Rattle.command_parts.specs.Setups.{Start, Version}
use Rattle.data_command.specs.Data.{LastsOn, LogClaims, acted, data_log, led_by}
use Rattle.data_command.specs.Laws.{CrashesStand, HasBehindIt, IsLeftBefore, IsLeftBehind, StandsTold}

module _ (start : Start) (sends : ℕ) (log : LogClaims) (on : LastsOn start sends log) (point : Option (List ℕ)) (file told : List ℕ) where
  before : IsLeftBefore start sends log on point file told → StandsTold start sends log on point file told
  before l =
      let this = data_log start sends on.number in
      let h = restarted this on.bytes in
      let lasts = at_each_moment this h l.first l.others (subst (Always (Lasts this) h) l.are on.always) in
      record {
        own = start;
        lines = lines_in this l.left;
        opens = inl (record { is = refl; left = l.left; has = l.has; lines_are = refl });
        all = lines_in this l.left;
        leads = refl;
        covered = subst (λ (said : List ℕ). IsPrefixOf said (answered this l.left)) (sym l.said) (lasts l.left l.may);
      }

  module _ (l : IsLeftBehind start sends log on point file told) where
    abbrev first : List (List ℕ)
    first = lines_in (data_log start sends on.number) (acted start sends on.number on.bytes on.acts).file

    abbrev begun : Whole
    begun = opening start.setup

    -- lines from the checkpoint on lead where all of them lead
    leads_on : (lines : List (List ℕ)) → untold (led l.next.version.logic sends (opening l.next.setup) lines) ≡ untold (led start.version.logic sends begun (first ++ lines))
    leads_on lines =
        ap (λ (v : Version). untold (led v.logic sends (opening l.next.setup) lines)) l.version
        ∙ led_alike start.version.logic sends (opening l.next.setup) (led_by start sends on.number on.bytes on.acts) lines (ap untold l.takes.opens)
        ∙ ap untold (sym (led_append start.version.logic sends begun first lines))

    -- all of the log was told
    said_first : told ≡ told_for start.version.logic sends begun first
    said_first = l.said ∙ l.takes.told.settled.said

    told_on : (lines : List (List ℕ)) → IsPrefixOf told (told_for start.version.logic sends begun (first ++ lines))
    told_on lines = subst (λ (said : List ℕ). IsPrefixOf said (told_for start.version.logic sends begun (first ++ lines))) (sym said_first) (silos_grow start.version.logic sends begun first lines)

    abbrev Has : List ℕ → Type 0
    Has number = HasBehindIt start sends log on point file told number l.left

    abbrev own_lines : List (List ℕ)
    own_lines = lines_in (data_log l.next sends (spelled (sum_in l.text))) l.left

    behind : StandsTold start sends log on point file told
    behind = by l.has
      where
        stands : (lines : List (List ℕ)) → (Has on.number × (lines ≡ [])) ⊎ (Has (spelled (sum_in l.text)) × (lines ≡ own_lines)) → StandsTold start sends log on point file told
        stands lines is = record {
          own = l.next;
          lines = lines;
          opens = inr (record { text = l.text; there = l.placed; says = l.takes.says; version = l.version; left = l.left; log_is = is });
          all = first ++ lines;
          leads = leads_on lines;
          covered = told_on lines;
        }

        by : Has on.number ⊎ Has (spelled (sum_in l.text)) → StandsTold start sends log on point file told
        by (inl old) = stands [] (inl (old, refl))
        by (inr own) = stands own_lines (inr (own, refl))

pub crashes_stand : CrashesStand
crashes_stand start sends log on point file told (inl l) = before start sends log on point file told l
crashes_stand start sends log on point file told (inr l) = behind start sends log on point file told l
