-- As far as a log was answered again by a silo that has what is left of the history to which its lines lead.
use Rattle.std.proofs.Common.{◌≡◌, ◌≤◌, ℕ, ◌+◌, Bool, false, List, [], ◌∷◌, ◌++◌, length, None, Result, Ok, Err, IfOk, OnOk, subst}
use Rattle.grain_logic.specs.Logic.{Logic}
use Rattle.silo_model.specs.Journal.{LeadsTo}
use Rattle.silo_core.specs.History.{History}
use Rattle.answer_model.specs.Idle.{AllIdle}
use Rattle.log_text.specs.Sums.{after, own_sums, spelled}
use Rattle.log_text.specs.Reading.{Behind, IsBehind, asked_lines, fault_in, recovered, same_text}
use Rattle.log_host.specs.declared.place.LogPlace.{LogPlace}
use Rattle.log_answer.specs.Answers.{HasLeft, LeadsLines, LeadsOn}
use Rattle.log_answer.specs.Starts.{AgainOn, AnswersAgain, TellsOtherwise}
use Rattle.log_answer.specs.declared.starting.Again.{Again}
use Rattle.log_answer.specs.declared.starting.AgainFault.{AgainFault}
use Rattle.log_answer.proofs.Left.{leads_on, left_self}
use Rattle.log_answer.proofs.Passed.{AgainDone, AskedDone, again_all, again_more, again_none, again_otherwise, asked_all, asked_more, asked_none}

-- ---- one batch

pub record AskedOn (keeps : Bool) (logic : Logic) (n : ℕ) (asked rest : List ℕ) (old now : History) (texts : List ℕ) (count : ℕ) : Type 0 where
  pub all : History
  pub has : HasLeft keeps all now
  pub done : AskedDone logic n asked rest old all texts count

module _ (logic : Logic) (n : ℕ) where
  -- what is left is led as all would be, by a silo that keeps as much
  led_here : (keeps here : Bool) (all now new : History) (lines : List (List ℕ)) (text : List ℕ) → here ≡ keeps → HasLeft keeps all now
      → LeadsOn here logic n now lines new text → (more : History) × LeadsLines logic n all lines more text × HasLeft keeps more new
  led_here keeps here all now new lines text is has l =
      leads_on logic n keeps all now new has lines text (subst (λ (b : Bool). LeadsOn b logic n now lines new text) is l)

  pub asking_none : (keeps : Bool) (asked : List ℕ) (old : History) (texts : List ℕ) → AllIdle old.whole.entries → texts ≡ []
      → AskedOn keeps logic n asked asked old old texts 0
  asking_none keeps asked old texts idle none = record { all = old; has = left_self keeps old; done = asked_none logic n asked old texts idle none }

  pub asking_more : (keeps here : Bool) (asked rest others : List ℕ) (old now new : History) (texts line text texts_then : List ℕ) (count : ℕ) → here ≡ keeps
      → AskedOn keeps logic n asked rest old now texts count → (asked_lines rest ≡ line ∷ asked_lines others) × (length others + 1 ≤ length rest)
      → LeadsOn here logic n now (line ∷ []) new text → texts_then ≡ texts ++ text → AskedOn keeps logic n asked others old new texts_then (count + 1)
  asking_more keeps here asked rest others old now new texts line text texts_then count is p cut l then =
      let on = led_here keeps here p.all now new (line ∷ []) text is p.has l in
      record { all = on.0; has = on.2; done = asked_more logic n asked rest others old p.all on.0 texts line text texts_then count p.done cut on.1 then }

  pub asking_all : (keeps : Bool) (asked rest : List ℕ) (old now : History) (texts : List ℕ) (count : ℕ) → AskedOn keeps logic n asked rest old now texts count
      → asked_lines rest ≡ [] → LeadsOn keeps logic n old (asked_lines asked) now texts × (count ≡ length (asked_lines asked))
  asking_all keeps asked rest old now texts count p none =
      let all = asked_all logic n asked rest old p.all texts count p.done none in
      (record { all = p.all; left = p.has; leads = all.0 }, all.1)

-- ---- one batch after another

pub record PassedOn (keeps : Bool) (logic : Logic) (n : ℕ) (place : LogPlace) (bytes rest : List ℕ) (old now : History) (sum told lines marks : ℕ) : Type 0 where
  pub all : History
  pub has : HasLeft keeps all now
  pub done : AgainDone logic n place bytes rest old all sum told lines marks

module _ (keeps : Bool) (logic : Logic) (n : ℕ) where
  pub passing_none : (place : LogPlace) (bytes : List ℕ) (old : History) → LeadsTo logic old.setup old.journal old.whole → AllIdle old.whole.entries
      → PassedOn keeps logic n place bytes bytes old old place.sum place.told 0 0
  passing_none place bytes old leads idle = record { all = old; has = left_self keeps old; done = again_none logic n place bytes old leads idle }

  module _ (place : LogPlace) (bytes rest : List ℕ) (old now : History) (sum told lines marks : ℕ) (p : PassedOn keeps logic n place bytes rest old now sum told lines marks) where
    pub passing_more : (here : Bool) (new : History) (found : Behind) (texts : List ℕ) (next count : ℕ) → here ≡ keeps → IsBehind own_sums place.name sum rest found
        → LeadsOn here logic n now found.batch.lines new texts → next ≡ after told texts → found.batch.told ≡ spelled next → count ≡ length found.batch.lines
        → PassedOn keeps logic n place bytes found.bytes old new found.sum next (lines + count) (marks + 1)
    passing_more here new found texts next count same f l is says counted =
        let on = led_here logic n keeps here p.all now new found.batch.lines texts same p.has l in
        record { all = on.0; has = on.2; done = again_more logic n place bytes rest old p.all sum told lines marks p.done on.0 found texts next count f on.1 is says counted }

    pub passing_otherwise : (here : Bool) (new : History) (found : Behind) (texts : List ℕ) (next count before : ℕ) → here ≡ keeps → IsBehind own_sums place.name sum rest found
        → LeadsOn here logic n now found.batch.lines new texts → next ≡ after told texts → same_text found.batch.told (spelled next) ≡ false
        → count ≡ length found.batch.lines → before ≡ (lines + marks) + count → TellsOtherwise logic n place bytes old.whole before
    passing_otherwise here new found texts next count before same f l is differs counted total =
        let on = led_here logic n keeps here p.all now new found.batch.lines texts same p.has l in
        again_otherwise logic n place bytes rest old p.all sum told lines marks p.done found texts next count before on.0 f on.1 is differs counted total

    pub passing_all : recovered own_sums place.name sum rest ≡ [] → (r : Result Again AgainFault)
        → IfOk r (λ again. again.place ≡ record { name = place.name; sum = sum; told = told }) → IfOk r (λ again. again.lines ≡ lines)
        → OnOk r (fault_in own_sums place.name rest ≡ None) → IfOk r (λ again. AgainOn keeps logic n place bytes old now again)
    passing_all none r at counted passes = wrapped r (again_all logic n place bytes rest old p.all sum told lines marks p.done none r at counted passes)
      where
        wrapped : (r : Result Again AgainFault) → IfOk r (λ again. AnswersAgain logic n place bytes old p.all again) → IfOk r (λ again. AgainOn keeps logic n place bytes old now again)
        wrapped (Ok again) answers = record { all = p.all; left = p.has; answers = answers }
        wrapped (Err why) answers = tt
