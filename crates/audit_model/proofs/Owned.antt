-- The tenants of whom a journal has something are reported, and a tenant's machine starts as the journal says.
use Rattle.silo_model.proofs.Common.{◌++◌, ◌||◌, ◌∙◌, ◌∷◌, ◌≡◌, ◌≢◌, Bool, Grain, List, Row, Step, [], ap, cond, false, filter, flat_map}
use Rattle.silo_model.proofs.Common.{limits_of, list_any-append, map_list, or_right, owner_of, refl, same_text, start_of, tenant_of, texts, true, ℕ}
use Rattle.std.specs.Prelude.{option_to_list}
use Rattle.std.proofs.lemmas.Bool.{or_left}
use Rattle.finite_maps.proofs.Keys.{key_turned}
use Rattle.tenant_gate.specs.Table.{names_of}
use Rattle.journal_text.specs.Text.{History}
use Rattle.journal_text.specs.declared.recorded.RecordedReply.{RecordedReply}
use Rattle.audit_model.specs.Parts.{is_listed, is_owned_by, own_steps, owners_in, replies_for, rows_for, tenants_in}
use Rattle.audit_model.specs.Report.{OwnersReported, StartsAsRecorded}
use Rattle.audit_model.proofs.Tenants.{tenants_in_order}
use Rattle.silo_model.proofs.Opening.{new_account_of}
use Rattle.silo_model.proofs.Tests.{on_found}

-- there is something in the list
abbrev has_some : {X : Type 0} → List X → Bool
has_some [] = false
has_some (x ∷ xs) = true

is_some : {X : Type 0} (xs : List X) → xs ≢ [] → has_some xs ≡ true
is_some [] none = absurd (none refl)
is_some (x ∷ xs) none = refl

-- ---- whose the things of a list are

module _ (tenant : List ℕ) where
  -- one thing more, which is the tenant's or isn't
  one_more : {X : Type 0} (x : X) (name : List ℕ) (others : List (List ℕ)) (own : List X) (b : Bool) → same_text name tenant ≡ b → is_listed others tenant ≡ has_some own
      → is_listed (name ∷ others) tenant ≡ has_some (cond b (x ∷ own) own)
  one_more x name others own true is rest = ap (λ c. c || is_listed others tenant) (key_turned texts tenant name ∙ is)
  one_more x name others own false is rest = ap (λ c. c || is_listed others tenant) (key_turned texts tenant name ∙ is) ∙ rest

  listed_things : {X : Type 0} (f : X → List ℕ) (xs : List X) → is_listed (map_list f xs) tenant ≡ has_some (filter (λ x. same_text (f x) tenant) xs)
  listed_things f [] = refl
  listed_things f (x ∷ xs) = one_more x (f x) (map_list f xs) (filter (λ y. same_text (f y) tenant) xs) (same_text (f x) tenant) refl (listed_things f xs)

  abbrev own : List Step → List Step
  own steps = filter (λ s. is_owned_by tenant (owner_of s)) steps

  abbrev owners : List Step → List (List ℕ)
  owners steps = flat_map (λ s. option_to_list (owner_of s)) steps

  listed_steps : (steps : List Step) → is_listed (owners steps) tenant ≡ has_some (own steps)
  listed_steps [] = refl
  listed_steps (s ∷ steps) =
      on_found (λ o. is_listed (option_to_list o ++ owners steps) tenant ≡ has_some (cond (is_owned_by tenant o) (s ∷ own steps) (own steps)))
      (owner_of s) (λ _. listed_steps steps)
      (λ name _. one_more s name (owners steps) (own steps) (same_text name tenant) refl (listed_steps steps))

  module _ (journal : History) where
    listed_owners : is_listed (owners_in journal) tenant ≡ ((has_some (own_steps tenant journal) || has_some (replies_for tenant journal)) || has_some (rows_for tenant journal))
    listed_owners =
        let names : List (List ℕ) = map_list (λ (reply : RecordedReply). tenant_of reply.recipient) journal.replies in
        let grains : List (List ℕ) = map_list (λ (row : Grain × Row). row.0.tenant) journal.rows in
        list_any-append (same_text tenant) (owners journal.steps ++ names) grains
        ∙ ap (λ b. b || is_listed grains tenant) (list_any-append (same_text tenant) (owners journal.steps) names)
        ∙ (λ i. (listed_steps journal.steps i || listed_things (λ (reply : RecordedReply). tenant_of reply.recipient) journal.replies i) || listed_things (λ (row : Grain × Row). row.0.tenant) journal.rows i)

    reported : is_listed (tenants_in journal) tenant
        ≡ (is_listed (names_of journal.tenants) tenant || ((has_some (own_steps tenant journal) || has_some (replies_for tenant journal)) || has_some (rows_for tenant journal)))
    reported = tenants_in_order.reported journal tenant ∙ ap (λ b. is_listed (names_of journal.tenants) tenant || b) listed_owners

-- ---- the laws

first_so : (a b c d : Bool) → b ≡ true → (a || ((b || c) || d)) ≡ true
first_so a b c d is = or_right a _ (or_left _ d (or_left b c is))

second_so : (a b c d : Bool) → c ≡ true → (a || ((b || c) || d)) ≡ true
second_so a b c d is = or_right a _ (or_left _ d (or_right b c is))

third_so : (a b c d : Bool) → d ≡ true → (a || ((b || c) || d)) ≡ true
third_so a b c d is = or_right a _ (or_right (b || c) d is)

pub owners_reported : OwnersReported
owners_reported = record {
  steps = λ journal tenant some.
      reported tenant journal
      ∙ first_so (is_listed (names_of journal.tenants) tenant) (has_some (own_steps tenant journal)) (has_some (replies_for tenant journal)) (has_some (rows_for tenant journal)) (is_some (own_steps tenant journal) some);
  replies = λ journal tenant some.
      reported tenant journal
      ∙ second_so (is_listed (names_of journal.tenants) tenant) (has_some (own_steps tenant journal)) (has_some (replies_for tenant journal)) (has_some (rows_for tenant journal)) (is_some (replies_for tenant journal) some);
  rows = λ journal tenant some.
      reported tenant journal
      ∙ third_so (is_listed (names_of journal.tenants) tenant) (has_some (own_steps tenant journal)) (has_some (replies_for tenant journal)) (has_some (rows_for tenant journal)) (is_some (rows_for tenant journal) some);
  no_other = λ journal tenant unlisted steps replies rows. reported tenant journal ∙ (λ i. unlisted i || ((has_some (steps i) || has_some (replies i)) || has_some (rows i)));
}

pub starts_as_recorded : StartsAsRecorded
unfolding start_of
starts_as_recorded = record {
  age = λ journal tenant. refl;
  ages = λ journal tenant. refl;
  limits = λ journal tenant. new_account_of tenant (limits_of journal.tenants tenant);
}
