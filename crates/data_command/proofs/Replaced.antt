-- A checkpoint takes the place of a log.
use Rattle.std.proofs.Common.{◌≡◌, ◌<◌, ◌∙◌, ℕ, zero, suc, Bool, true, Result, Ok, List, [], ◌∷◌, Some, arith, inl, inr, refl, sym, ap, subst}
use Rattle.std.specs.Cmp.{first_so, second_so}
use Rattle.std.specs.List.{list_all}
use Rattle.std.specs.Str.{IsAscii, IsUtf8}
use Rattle.std.proofs.lemmas.Str.{IsUtf8-from_ascii}
use Rattle.grain_id.specs.Words.{is_name_byte}
use Rattle.std.specs.Prelude.{◌⊎◌}
use Rattle.std.proofs.lemmas.Option.{same_Some}
use Rattle.grain_logic.specs.Logic.{Logic}
use Rattle.silo_event.specs.declared.step.Step.{Step}
use Rattle.silo_model.specs.Journal.{LeadsTo}
use Rattle.silo_model.specs.Opening.{Setup, opening}
use Rattle.silo_core.specs.History.{History}
use Rattle.silo_core.specs.Reopening.{Reopens, ReopensOrNot}
use Rattle.log_text.specs.Head.{head_text}
use Rattle.log_text.specs.Sums.{spelled}
use Rattle.log_host.specs.Acts.{Act}
use Rattle.log_host.specs.Files.{IsAt, MaySwitch, Switches, with_log, with_point}
use Rattle.silo_checkpoint.specs.Saved.{HasText, Saved, saved_by, sum_in}
use Rattle.command_parts.specs.Setups.{Start, Version, started}
use Rattle.data_command.specs.Data.{IsReplaced, LogView, Stands, StandsAt, TakesPlace, place_of, since}
use Rattle.data_command.specs.Words.{head_words}
use Rattle.data_command.specs.inside.Replacing.{AreTexts, IsNext, MayBeReplaced}
use Rattle.data_command.specs.declared.starting.StartedLog.{StartedLog}

-- ---- the number of a log

small : (b : ℕ) → is_name_byte b ≡ true → b < 128
small b is = grind (arith, is)

visible : (xs : List ℕ) → list_all is_name_byte xs ≡ true → IsAscii xs
visible [] all i = omega arith
visible (x ∷ xs) all zero = small x (first_so (is_name_byte x) (list_all is_name_byte xs) all)
visible (x ∷ xs) all (suc i) = visible xs (second_so (is_name_byte x) (list_all is_name_byte xs) all) i

-- what a checkpoint follows is UTF-8
pub follows_text : (text : List ℕ) (saved : Saved) → HasText text saved → IsUtf8 saved.follows
follows_text text saved says = IsUtf8-from_ascii saved.follows (subst IsAscii says.follows (visible says.checkpoint.follows says.is.follows))

-- ---- the silo

-- it opened again
pub reopened_so : {E : Type 0} (r : Result Bool E) (done : Bool) (was new : History) → r ≡ Ok done → done ≡ true → ReopensOrNot r was new → Reopens was new
reopened_so {E} r done was new is so h =
    subst (λ (b : Bool). ReopensOrNot {E = E} (Ok b) was new) so (subst (λ (o : Result Bool E). ReopensOrNot o was new) is h)

-- without a step it is at its opening
pub at_opening : (logic : Logic) (h : History) → LeadsTo logic h.setup h.journal h.whole → h.journal ≡ [] → opening h.setup ≡ h.whole
at_opening logic h leads none = same_Some (opening h.setup) h.whole (subst (λ (steps : List Step). LeadsTo logic h.setup steps h.whole) none leads)

-- ---- a checkpoint

module _ {start : Start} {version : Version} {sends : ℕ} {words number : List ℕ} {old mid : LogView} {bytes : List ℕ} {acts : List Act} {was new : History}
    (m : MayBeReplaced start version sends words number (since old mid) bytes acts was.whole)
    (worded : words ≡ head_words (started version was.setup) sends) (reopened : Reopens was new) (leads : LeadsTo version.logic new.setup new.journal new.whole)
    {digits text head text_given head_given : List ℕ} (number_is : digits ≡ number) (given : AreTexts version sends digits new.setup words text head)
    (text_is : text_given ≡ text) (head_is : head_given ≡ head) (after : LogView) where
  t : AreTexts version sends number new.setup words text head
  t = subst (λ (n : List ℕ). AreTexts version sends n new.setup words text head) number_is given

  same_words : head_words (started start.version new.setup) sends ≡ head_words start sends
  same_words =
      ap (λ (v : Version). head_words (started v new.setup) sends) m.same
      ∙ ap (λ (s : Setup). head_words (started version s) sends) reopened.setup
      ∙ sym worded ∙ m.worded

  takes : TakesPlace start sends number bytes acts new.setup text
  takes = record {
    told = m.told;
    says = subst (λ (v : Version). HasText text (saved_by number v.number sends new.setup)) (sym m.same) t.says;
    opens = at_opening version.logic new leads reopened.journal ∙ reopened.whole ∙ m.leads;
    words = same_words;
    other = t.other;
  }

  next_head : head ≡ head_text (head_words start sends) (spelled (sum_in text))
  next_head = t.headed ∙ ap (λ (ws : List ℕ). head_text ws (spelled (sum_in text))) m.worded

  is_replaced : IsAt after.acts after.begun (Some head_given) × (after.past ≡ with_log mid.past text_given mid.begun acts) → IsReplaced start sends (since old after) number bytes acts
  is_replaced s = record {
    next = new.setup;
    point = text;
    takes = takes;
    past = s.1 ∙ (λ i. with_log (m.past i) (text_is i) (m.stands.begun i) acts);
    at = (s.0.0, s.0.1 ∙ ap Some (head_is ∙ next_head));
  }

  -- and the next log goes on from there
  pub next_is : (log : StartedLog) → log.number ≡ spelled (sum_in text) → log.place ≡ place_of words log.number
      → Switches mid.acts mid.begun mid.past after.acts after.begun after.past text_given head_given → IsNext start sends (since old after) number bytes acts new.setup log
  unfolding is_replaced
  next_is log spelt placed s = record {
    is = is_replaced (s acts m.stands.acts_are);
    setup = refl;
    number_is = spelt;
    place_is = placed ∙ ap (λ (ws : List ℕ). place_of ws log.number) m.worded;
  }

  pub switched : Switches mid.acts mid.begun mid.past after.acts after.begun after.past text_given head_given → Stands start sends (since old after) number bytes acts
  switched s = inr (inr (is_replaced (s acts m.stands.acts_are)))

  pub switched_or_not : MaySwitch mid.acts mid.begun mid.past after.acts after.begun after.past text_given head_given → Stands start sends (since old after) number bytes acts
  switched_or_not may = by (may acts m.stands.acts_are)
    where
      stands : after.acts ≡ mid.acts → after.begun ≡ mid.begun → StandsAt start sends (since old after) number bytes acts
      stands same kept = record { begun = kept ∙ m.stands.begun; acts_are = same ∙ m.stands.acts_are }

      by : ((after.acts ≡ mid.acts) × (after.begun ≡ mid.begun) × ((after.past ≡ mid.past) ⊎ (after.past ≡ with_point mid.past text_given)))
          ⊎ (IsAt after.acts after.begun (Some head_given) × (after.past ≡ with_log mid.past text_given mid.begun acts))
          → Stands start sends (since old after) number bytes acts
      by (inl (same, kept, inl past)) = inl (stands same kept, past ∙ m.past)
      by (inl (same, kept, inr past)) = inr (inl (record {
        stands = stands same kept;
        next = new.setup;
        point = text;
        takes = takes;
        past = past ∙ (λ i. with_point (m.past i) (text_is i));
      }))
      by (inr s) = inr (inr (is_replaced s))
