use Rattle.std.proofs.Common.{◌≡◌, true, IfOk, subst}
use Rattle.clap.specs.Words.{FailsBy, HasMatchesOf, fault_of as faults_of, is_simple_and_free}
use Rattle.silo_words.specs.Words.{silo_app, texts_of}
use Rattle.silo_words.proofs.WordLemmas.{found-matches, refused-fails, silo_app-free, taken-passes}
use Rattle.silo_words.proofs.reading.matches_of.Goals as goal

pub returns-clause-taken : goal.returns-clause-taken
returns-clause-taken c =
    let words = texts_of c.args.words.now in
    let result = c.try_get_matches_from.result in
    taken-passes result (faults_of silo_app words)
    (subst (λ app. is_simple_and_free app ≡ true → FailsBy (faults_of app words) result) c.in_ok-silo_command.ensures.app c.try_get_matches_from.ensures.kinds silo_app-free)

pub returns-clause-found : goal.returns-clause-found
returns-clause-found c =
    let words = texts_of c.args.words.now in
    let result = c.try_get_matches_from.result in
    found-matches words result
    (subst (λ app. IfOk result (HasMatchesOf app words)) c.in_ok-silo_command.ensures.app c.try_get_matches_from.ensures.matches)

pub returns-clause-kind : goal.returns-clause-kind
returns-clause-kind c =
    let words = texts_of c.args.words.now in
    let result = c.try_get_matches_from.result in
    refused-fails result (faults_of silo_app words)
    (subst (λ app. is_simple_and_free app ≡ true → FailsBy (faults_of app words) result) c.in_ok-silo_command.ensures.app c.try_get_matches_from.ensures.kinds silo_app-free)
