-- What an audit finds and how it counts.
use Rattle.silo_model.proofs.Common.{◌++◌, ◌+◌, ◌∙◌, ◌∷◌, ◌≡◌, All-from_recursion, Bool, Client, List, None, Ok, Option, Result, Some, Step}
use Rattle.silo_model.proofs.Common.{Tree, ℕ, ℤ, [], all_done, all_weaker, ap, arith, concerns, concerns_by, cond, counters, filter}
use Rattle.silo_model.proofs.Common.{integer, is_some, is_to, length, not, opening, owner_of, refl, restricted_to, same_Some, same_text}
use Rattle.silo_model.proofs.Common.{same_text_decides, shown_to, sum_by-cons, sym, told, true}
use Rattle.std.proofs.lemmas.List.Elements.{recursion_from_All}
use Rattle.std.specs.Prelude.{count_by, pos, take}
use Rattle.tenant_gate.specs.Table.{Table, names_of}
use Rattle.silo_event.specs.declared.reply.Party.TheVariants as party
use Rattle.silo_model.proofs.Isolation.{not_now}
use Rattle.silo_model.proofs.Journals.{parts_lead}
use Rattle.silo_model.proofs.Tests.{on_test}
use Rattle.journal_text.specs.RecordedFault.{CodeAndText}
use Rattle.journal_text.specs.declared.recorded.RecordedReply.{RecordedReply}
use Rattle.audit_model.specs.Parts.{all_recorded, is_owned_by, is_told, others_in, own_steps, setup_of}
use Rattle.audit_model.specs.Report.{IsTenantReport, TenantReport}
use Rattle.silo_laws.specs.Audits.{ChangedReplyFound, FirstReplyChecked, StepsCounted, StopFound, TableComesFirst, is_nobodys}
use Rattle.silo_laws.proofs.SecondCall.{first_leads, first_told, first_whole}

-- ---- what is found

pub changed_reply_found : ChangedReplyFound
changed_reply_found logic journal w tenant before left right recorded given leads recorded_is given_is apart = (
  shown_to tenant w,
  parts_lead logic (setup_of journal) journal.steps w tenant leads,
  record {
    common = before;
    left = recorded ∷ left;
    right = given ∷ right;
    left_parts = recorded_is;
    right_parts = given_is;
    place = refl;
    apart = λ same. apart (same_Some recorded given same);
  },
)

filter-append : (p : Step → Bool) (xs ys : List Step) → filter p (xs ++ ys) ≡ filter p xs ++ filter p ys
filter-append p [] ys = refl
filter-append p (s ∷ xs) ys =
    on_test (λ b. cond b (s ∷ filter p (xs ++ ys)) (filter p (xs ++ ys)) ≡ cond b (s ∷ filter p xs) (filter p xs) ++ filter p ys) (p s)
    (λ _. ap (λ rest. s ∷ rest) (filter-append p xs ys)) (λ _. filter-append p xs ys)

pub stop_found : StopFound
stop_found logic journal w tenant before after step leads stops steps owner =
    let own : concerns tenant step ≡ true = ap (concerns_by tenant) owner ∙ (same_text_decides tenant tenant).1 refl in
    record {
      before = restricted_to tenant before;
      step = step;
      after = restricted_to tenant after;
      reached = shown_to tenant w;
      parts =
          ap (restricted_to tenant) steps
          ∙ filter-append (concerns tenant) before (step ∷ after)
          ∙ ap (λ b. restricted_to tenant before ++ cond b (step ∷ restricted_to tenant after) (restricted_to tenant after)) own;
      place = refl;
      done = parts_lead logic (setup_of journal) before w tenant leads;
      stops = not_now logic w step tenant own stops;
    }

-- ---- a first call whose reply was changed

-- the number that an outcome tells
abbrev number_in : Result Tree CodeAndText → ℤ
number_in (Ok (integer i)) = i
number_in _ = pos 0

abbrev with_number : Client → ℕ → ℤ → RecordedReply
with_number caller id n = record { recipient = party.Client caller id; outcome = Ok (integer n) }

pub first_reply_checked : FirstReplyChecked
unfolding shown_to
first_reply_checked journal caller id g n other may fits steps replies apart =
    let setup = setup_of journal in
    let w = first_whole setup caller id g n may in
    let t = caller.tenant in
    let itself : same_text t t ≡ true = (same_text_decides t t).1 refl in
    changed_reply_found counters journal w t [] [] [] (with_number caller id other) (with_number caller id n)
    (ap (λ k. all_done counters (opening setup) k) steps ∙ first_leads setup caller id g n may)
    (ap (filter (is_told t)) replies ∙ ap (λ b. cond b (with_number caller id other ∷ []) []) itself)
    (ap (λ rs. all_recorded (filter (is_to t) rs)) (first_told setup caller id g n may fits)
    ∙ ap (λ b. all_recorded (cond b (told (party.Client caller id) (Ok (integer n))) [])) itself)
    (λ same. apart (ap (λ (r : RecordedReply). number_in r.outcome) same))

-- ---- how it counts

module _ (tenant : List ℕ) where
  abbrev own : List Step → List Step
  own steps = filter (λ s. is_owned_by tenant (owner_of s)) steps

  -- one step more, by its owner
  one_more : (s : Step) (mine theirs : List Step) (shared : ℕ) (o : Option (List ℕ)) → length mine ≡ length theirs + shared
      → length (cond (concerns_by tenant o) (s ∷ mine) mine) ≡ length (cond (is_owned_by tenant o) (s ∷ theirs) theirs) + (cond (not (is_some o)) 1 0 + shared)
  one_more s mine theirs shared None rest = omega (arith, rest)
  one_more s mine theirs shared (Some owner) rest =
      on_test (λ b. length (cond b (s ∷ mine) mine) ≡ length (cond b (s ∷ theirs) theirs) + (0 + shared)) (same_text owner tenant)
      (λ _. omega (arith, rest)) (λ _. omega (arith, rest))

  counted : (steps : List Step) → length (restricted_to tenant steps) ≡ length (own steps) + count_by is_nobodys steps
  counted [] = refl
  counted (s ∷ steps) =
      one_more s (restricted_to tenant steps) (own steps) (count_by is_nobodys steps) (owner_of s) (counted steps)
      ∙ ap (λ k. length (own (s ∷ steps)) + k) (sym (sum_by-cons (λ r. cond (is_nobodys r) 1 0) s steps))

pub steps_counted : StepsCounted
steps_counted logic journal reports is =
    All-from_recursion (λ (r : TenantReport). r.steps ≡ length (own_steps r.tenant journal) + count_by is_nobodys journal.steps) reports
    (all_weaker (IsTenantReport logic journal) _ reports (λ r told. told.steps ∙ counted r.tenant journal.steps) (recursion_from_All _ reports is.each))

-- ---- in which order

take_names : (table : Table) (others : List (List ℕ)) → take (length table) (names_of table ++ others) ≡ names_of table
take_names [] others = refl
take_names (e ∷ table) others = ap (λ names. e.0 ∷ names) (take_names table others)

pub table_comes_first : TableComesFirst
table_comes_first journal = take_names journal.tenants (others_in journal)
