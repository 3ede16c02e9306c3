-- A journal's lines lead from an empty draft to the journal, and to no other end.
use Rattle.std.proofs.Common.{◌≡◌, ℕ, ◌+◌, ◌-◌, ◌<◌, ◌≤◌, true, not, ◌&&◌, ◌||◌, ltb, lt-ltb, List, [], ◌∷◌, ◌++◌, map, length, get_or, Option, Some, None, refl, ap, sym, ◌∙◌, arith}
use Rattle.journal_text.proofs.Common.{option_and_then, first_so, second_so, list_any, append-nil, append_assoc, map-append, length-append, and_from, Grain, same_text, Ages, Limits, Table, names_of, first_repeat, Row, Step, Form, RecordedReply, Line, History, history_of, kind_line, tenant_line, row_line, body, comes_after, are_ascending, only_if}
use Rattle.journal_text.proofs.Common.{IsDraft, kind_after, are_kinds_ascending, is_empty, has_tenant, last_key, close_fits, added}
use Rattle.finite_maps.proofs.Options.{none_from_cond}
use Rattle.journal_text.specs.declared.line.Line.TheVariants as line

-- a draft in which only the first lines are read
abbrev pub empty : ℕ → ℕ → History
empty kinds age = history_of kinds age [] [] [] [] []

-- the journal that has these lines behind the draft
unfoldable pub completed : History → List Line → Option History
completed d [] = None
completed d (line.Close steps ∷ rest) = only_if (close_fits d steps && is_empty rest) d
completed d (l ∷ rest) = option_and_then (λ e. completed e rest) (added d l)

-- ---- each part of the lines, behind a draft

pub length-push : {A : Type 0} (xs : List A) (x : A) → length (xs ++ x ∷ []) ≡ length xs + 1
length-push xs x = length-append xs (x ∷ []) ∙ omega arith

pub names_of-push : (tenants : Table) (entry : List ℕ × Limits) → names_of (tenants ++ entry ∷ []) ≡ names_of tenants ++ entry.0 ∷ []
names_of-push tenants entry = map-append (λ e. e.0) tenants (entry ∷ [])

-- a tenant of that name is one of the names
pub has_tenant-names : (tenants : Table) (name : List ℕ) → has_tenant tenants name ≡ list_any (same_text name) (names_of tenants)
has_tenant-names [] name = refl
has_tenant-names (entry ∷ tenants) name = ap (λ b. same_text name entry.0 || b) (has_tenant-names tenants name)

pub last_key-push : {K X : Type 0} (before : Option K) (entries : List (K × X)) (entry : K × X) → last_key before (entries ++ entry ∷ []) ≡ Some entry.0
last_key-push before [] entry = refl
last_key-push before (e ∷ entries) entry = last_key-push (Some e.0) entries entry

ages_completed : (kinds age : ℕ) (before after : Ages) (rest : List Line) → length before + length after ≤ 64 → are_kinds_ascending (last_key None before) after ≡ true → completed (history_of kinds age before [] [] [] []) (map kind_line after ++ rest) ≡ completed (history_of kinds age (before ++ after) [] [] [] []) rest
unfolding completed added
ages_completed kinds age before [] rest few ascending = ap (λ t. completed (history_of kinds age t [] [] [] []) rest) (sym (append-nil before))
ages_completed kinds age before (entry ∷ after) rest few ascending =
    let here = first_so (kind_after (last_key None before) entry.0) (are_kinds_ascending (Some entry.0) after) ascending in
    let behind = second_so (kind_after (last_key None before) entry.0) (are_kinds_ascending (Some entry.0) after) ascending in
    let room : ltb (length before) 64 ≡ true = lt-ltb (length before) 64 (omega (arith, few)) in
    let fits = and_from (ltb (length before) 64) (kind_after (last_key None before) entry.0) room here in
    let still : are_kinds_ascending (last_key None (before ++ entry ∷ [])) after ≡ true = ap (λ last. are_kinds_ascending last after) (last_key-push None before entry) ∙ behind in
    ap (λ b. option_and_then (λ e. completed e (map kind_line after ++ rest)) (only_if b (history_of kinds age (before ++ entry ∷ []) [] [] [] []))) fits
    ∙ ages_completed kinds age (before ++ entry ∷ []) after rest (omega (arith, few, length-push before entry)) still
    ∙ ap (λ t. completed (history_of kinds age t [] [] [] []) rest) (append_assoc before (entry ∷ []) after)

tenants_completed : (kinds age : ℕ) (ages : Ages) (before after : Table) (rest : List Line) → length before + length after ≤ 1000 → first_repeat (names_of before) (names_of after) ≡ None → completed (history_of kinds age ages before [] [] []) (map tenant_line after ++ rest) ≡ completed (history_of kinds age ages (before ++ after) [] [] []) rest
unfolding completed added
tenants_completed kinds age ages before [] rest few distinct = ap (λ t. completed (history_of kinds age ages t [] [] []) rest) (sym (append-nil before))
tenants_completed kinds age ages before (entry ∷ after) rest few distinct =
    let apart = none_from_cond (list_any (same_text entry.0) (names_of before)) entry.0 (first_repeat (names_of before ++ entry.0 ∷ []) (names_of after)) distinct in
    let new : not (has_tenant before entry.0) ≡ true = ap not (has_tenant-names before entry.0 ∙ apart.0) in
    let room : ltb (length before) 1000 ≡ true = lt-ltb (length before) 1000 (omega (arith, few)) in
    let fits = and_from (ltb (length before) 1000) (not (has_tenant before entry.0)) room new in
    let still : first_repeat (names_of (before ++ entry ∷ [])) (names_of after) ≡ None = ap (λ names. first_repeat names (names_of after)) (names_of-push before entry) ∙ apart.1 in
    ap (λ b. option_and_then (λ e. completed e (map tenant_line after ++ rest)) (only_if b (history_of kinds age ages (before ++ entry ∷ []) [] [] []))) fits
    ∙ tenants_completed kinds age ages (before ++ entry ∷ []) after rest (omega (arith, few, length-push before entry)) still
    ∙ ap (λ t. completed (history_of kinds age ages t [] [] []) rest) (append_assoc before (entry ∷ []) after)

steps_completed : (kinds age : ℕ) (ages : Ages) (first : List ℕ × Limits) (others : Table) (before after : List Step) (rest : List Line) → completed (history_of kinds age ages (first ∷ others) before [] []) (map line.Step after ++ rest) ≡ completed (history_of kinds age ages (first ∷ others) (before ++ after) [] []) rest
unfolding completed added
steps_completed kinds age ages first others before [] rest = ap (λ t. completed (history_of kinds age ages (first ∷ others) t [] []) rest) (sym (append-nil before))
steps_completed kinds age ages first others before (s ∷ after) rest =
    steps_completed kinds age ages first others (before ++ s ∷ []) after rest
    ∙ ap (λ t. completed (history_of kinds age ages (first ∷ others) t [] []) rest) (append_assoc before (s ∷ []) after)

replies_completed : (kinds age : ℕ) (ages : Ages) (first : List ℕ × Limits) (others : Table) (steps : List Step) (before after : List RecordedReply) (rest : List Line) → completed (history_of kinds age ages (first ∷ others) steps before []) (map line.Reply after ++ rest) ≡ completed (history_of kinds age ages (first ∷ others) steps (before ++ after) []) rest
unfolding completed added
replies_completed kinds age ages first others steps before [] rest = ap (λ t. completed (history_of kinds age ages (first ∷ others) steps t []) rest) (sym (append-nil before))
replies_completed kinds age ages first others steps before (reply ∷ after) rest =
    replies_completed kinds age ages first others steps (before ++ reply ∷ []) after rest
    ∙ ap (λ t. completed (history_of kinds age ages (first ∷ others) steps t []) rest) (append_assoc before (reply ∷ []) after)

rows_completed : (kinds age : ℕ) (ages : Ages) (first : List ℕ × Limits) (others : Table) (steps : List Step) (replies : List RecordedReply) (before after : List (Grain × Row)) (rest : List Line) → are_ascending (last_key None before) after ≡ true → completed (history_of kinds age ages (first ∷ others) steps replies before) (map row_line after ++ rest) ≡ completed (history_of kinds age ages (first ∷ others) steps replies (before ++ after)) rest
unfolding completed added
rows_completed kinds age ages first others steps replies before [] rest ascending = ap (λ t. completed (history_of kinds age ages (first ∷ others) steps replies t) rest) (sym (append-nil before))
rows_completed kinds age ages first others steps replies before (row ∷ after) rest ascending =
    let here = first_so (comes_after (last_key None before) row.0) (are_ascending (Some row.0) after) ascending in
    let behind = second_so (comes_after (last_key None before) row.0) (are_ascending (Some row.0) after) ascending in
    let still : are_ascending (last_key None (before ++ row ∷ [])) after ≡ true = ap (λ last. are_ascending last after) (last_key-push None before row) ∙ behind in
    ap (λ b. option_and_then (λ e. completed e (map row_line after ++ rest)) (only_if b (history_of kinds age ages (first ∷ others) steps replies (before ++ row ∷ [])))) here
    ∙ rows_completed kinds age ages first others steps replies (before ++ row ∷ []) after rest still
    ∙ ap (λ t. completed (history_of kinds age ages (first ∷ others) steps replies t) rest) (append_assoc before (row ∷ []) after)

-- ---- all of them

regroup : (a b c d e f : List Line) → ((((a ++ b) ++ c) ++ d) ++ e) ++ f ≡ a ++ (b ++ (c ++ (d ++ (e ++ f))))
regroup a b c d e f = simp append_assoc

parts_completed : (kinds age : ℕ) (ages : Ages) (tenants : Table) (steps : List Step) (replies : List RecordedReply) (rows : List (Grain × Row)) (rest : List Line) → length ages ≤ 64 → are_kinds_ascending None ages ≡ true → length tenants ≤ 1000 → first_repeat [] (names_of tenants) ≡ None → are_ascending None rows ≡ true → (tenants ≡ [] → (steps ≡ []) × (replies ≡ []) × (rows ≡ [])) → completed (empty kinds age) (body (history_of kinds age ages tenants steps replies rows) ++ rest) ≡ completed (history_of kinds age ages tenants steps replies rows) rest
parts_completed kinds age ages [] [] [] [] rest few_ages in_order few distinct ascending first =
    ap (completed (empty kinds age)) (regroup (map kind_line ages) [] [] [] [] rest)
    ∙ ages_completed kinds age [] ages rest (omega (arith, few_ages)) in_order
parts_completed kinds age ages [] (s ∷ steps) replies rows rest few_ages in_order few distinct ascending first = let none = (first refl).0 in cc
parts_completed kinds age ages [] [] (reply ∷ replies) rows rest few_ages in_order few distinct ascending first = let none = (first refl).1 in cc
parts_completed kinds age ages [] [] [] (row ∷ rows) rest few_ages in_order few distinct ascending first = let none = (first refl).2 in cc
parts_completed kinds age ages (t ∷ tenants) steps replies rows rest few_ages in_order few distinct ascending first =
    let behind_replies : List Line = map row_line rows ++ rest in
    let behind_steps : List Line = map line.Reply replies ++ behind_replies in
    let behind_tenants : List Line = map line.Step steps ++ behind_steps in
    ap (completed (empty kinds age)) (regroup (map kind_line ages) (map tenant_line (t ∷ tenants)) (map line.Step steps) (map line.Reply replies) (map row_line rows) rest)
    ∙ ages_completed kinds age [] ages (map tenant_line (t ∷ tenants) ++ behind_tenants) (omega (arith, few_ages)) in_order
    ∙ tenants_completed kinds age ages [] (t ∷ tenants) behind_tenants (omega (arith, few)) distinct
    ∙ steps_completed kinds age ages t tenants [] steps behind_steps
    ∙ replies_completed kinds age ages t tenants steps [] replies behind_replies
    ∙ rows_completed kinds age ages t tenants steps replies [] rows rest ascending

-- what is behind a draft's own lines is behind the draft
pub body_completed : (form : Form) (d : History) → IsDraft form d → (rest : List Line) → completed (empty d.kinds d.age) (body d ++ rest) ≡ completed d rest
body_completed form d is rest = parts_completed d.kinds d.age d.ages d.tenants d.steps d.replies d.rows rest is.few_ages is.ages_ascending is.few is.distinct is.ascending is.tenants_first

-- ---- what the tests of a draft see

second_on : {E : Type 0} (e f : E) (entries : List E) (d : E) → get_or (e ∷ f ∷ entries) (length (e ∷ f ∷ entries) - 1) d ≡ get_or (f ∷ entries) (length (f ∷ entries) - 1) d
second_on e f entries d = grind arith

-- the last of some keys
pub last_key-last : {K X : Type 0} (before : Option K) (entries : List (K × X)) (last d : K × X) → 0 < length entries → get_or entries (length entries - 1) d ≡ last → last_key before entries ≡ Some last.0
last_key-last before [] last d some at = absurd (omega arith)
last_key-last before (e ∷ []) last d some at = ap (λ entry. Some entry.0) at
last_key-last before (e ∷ f ∷ entries) last d some at = last_key-last (Some e.0) (f ∷ entries) last d (omega arith) (sym (second_on e f entries d) ∙ at)
