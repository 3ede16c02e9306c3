-- A draft's lines are the first of a journal's, and a closed draft is a journal.
use Rattle.journal_text.proofs.Common.{◌≡◌, ℕ, ◌<◌, ◌≤◌, ◌^◌, Bool, true, false, true≢false, not, cond, ltb, eqb, List, [], ◌∷◌, ◌++◌, map, length, All, Option, Some, None, refl, ap, sym, subst, ◌∙◌, lit<, arith, append_assoc, All-nil, All-cons, All-head, All-tail, All-push, is_word, Grain, Limits, Row, Ages, Step, Form, RecordedReply, Line}
use Rattle.journal_text.proofs.Common.{History, history_of, kind_line, tenant_line, row_line, body, start_lines, journal_lines, BeginJournal, lines_so_far, IsDraft, is_empty}
use Rattle.std.specs.Prelude.{find, codes, option_map}
use Rattle.std.specs.Option.{option_or}
use Rattle.tenant_gate.specs.declared.fault.TableFault.TheVariants as faults
use Rattle.tenant_gate.specs.Table.{Table, names_of, first_repeat, first_out_of_range, are_in_range, table_fault}
use Rattle.journal_text.specs.declared.line.Line.TheVariants as line
use Rattle.journal_text.specs.Rules.{IsLine, IsTable, KeepsRulesIn}
use Rattle.journal_text.proofs.AgesKept.{are_ages, one_after_another}
use Rattle.journal_text.proofs.Added.{more_lines, tenant_body}

-- ---- what is true of all is true of each part

pub All-front : {X : Type 0} (P : X → Type 0) (xs ys : List X) → All P (xs ++ ys) → All P xs
All-front P [] ys all = All-nil P
All-front P (x ∷ xs) ys all = All-cons P x xs (All-head P x (xs ++ ys) all) (All-front P xs ys (All-tail P x (xs ++ ys) all))

pub All-back : {X : Type 0} (P : X → Type 0) (xs ys : List X) → All P (xs ++ ys) → All P ys
All-back P [] ys all = all
All-back P (x ∷ xs) ys all = All-back P xs ys (All-tail P x (xs ++ ys) all)

-- ---- the table

in_range : (form : Form) (tenants : Table) → All (IsLine form) (map tenant_line tenants) → first_out_of_range tenants ≡ None
in_range form [] all = refl
in_range form (entry ∷ tenants) all =
    let here = (All-head (IsLine form) (tenant_line entry) (map tenant_line tenants) all).1 in
    ap (λ b. option_map (λ e. e.0) (cond (not b) (Some entry) (find (λ e. not (are_in_range e.1)) tenants))) here
    ∙ in_range form tenants (All-tail (IsLine form) (tenant_line entry) (map tenant_line tenants) all)

no_fault : (none many : Bool) (repeat range : Option (List ℕ)) → none ≡ false → many ≡ false → repeat ≡ None → range ≡ None → cond none (Some faults.Empty) (cond many (Some faults.TooMany) (option_or (option_map faults.Twice repeat) (option_map faults.Range range))) ≡ None
no_fault none many repeat range a b c d = rw (a, b, c, d) refl

some_length : (t : List ℕ × Limits) (tenants : Table) → eqb (length (t ∷ tenants)) 0 ≡ false
some_length t tenants = grind arith

few_length : (n : ℕ) → n ≤ 1000 → ltb 1000 n ≡ false
few_length n few = grind (arith, few)

table : (form : Form) (t : List ℕ × Limits) (tenants : Table) → length (t ∷ tenants) ≤ 1000 → first_repeat [] (names_of (t ∷ tenants)) ≡ None → All (IsLine form) (map tenant_line (t ∷ tenants)) → IsTable (t ∷ tenants)
unfolding table_fault
table form t tenants few distinct all = no_fault (eqb (length (t ∷ tenants)) 0) (ltb 1000 (length (t ∷ tenants))) (first_repeat [] (names_of (t ∷ tenants))) (first_out_of_range (t ∷ tenants)) (some_length t tenants) (few_length (length (t ∷ tenants)) few) distinct (in_range form (t ∷ tenants) all)

-- ---- a closed draft

-- the ages of kinds, and the tenants, of a draft's lines
record FirstParts (form : Form) (ages : Ages) (tenants : Table) : Type 0 where
  of_ages : All (IsLine form) (map kind_line ages)
  of_tenants : All (IsLine form) (map tenant_line tenants)

first_parts : (form : Form) (kinds age : ℕ) (ages : Ages) (tenants : Table) (steps : List Step) (replies : List RecordedReply) (rows : List (Grain × Row)) → All (IsLine form) (lines_so_far form (history_of kinds age ages tenants steps replies rows)) → FirstParts form ages tenants
first_parts form kinds age ages tenants steps replies rows all =
    let l1 : List Line = map kind_line ages in
    let l2 : List Line = l1 ++ map tenant_line tenants in
    let l3 : List Line = l2 ++ map line.Step steps in
    let l4 : List Line = l3 ++ map line.Reply replies in
    let behind = All-back (IsLine form) (start_lines form kinds age) (l4 ++ map row_line rows) all in
    let parts = All-front (IsLine form) l2 (map line.Step steps) (All-front (IsLine form) l3 (map line.Reply replies) (All-front (IsLine form) l4 (map row_line rows) behind)) in
    record { of_ages = All-front (IsLine form) l1 (map tenant_line tenants) parts; of_tenants = All-back (IsLine form) l1 (map tenant_line tenants) parts }

-- a draft with its close is a journal
keeps : (form : Form) (kinds age : ℕ) (ages : Ages) (t : List ℕ × Limits) (tenants : Table) (steps : List Step) (replies : List RecordedReply) (rows : List (Grain × Row)) → IsDraft form (history_of kinds age ages (t ∷ tenants) steps replies rows) → length steps < 2 ^ 64 → KeepsRulesIn form (history_of kinds age ages (t ∷ tenants) steps replies rows)
unfolding journal_lines
keeps form kinds age ages t tenants steps replies rows is small =
    let parts = first_parts form kinds age ages (t ∷ tenants) steps replies rows is.lines in
    record {
      kinds = is.kinds;
      ages = are_ages form ages is.few_ages is.ages_ascending parts.of_ages;
      untold = is.untold;
      is_table = table form t tenants is.few is.distinct parts.of_tenants;
      ascending = is.ascending;
      lines = All-push (IsLine form) (lines_so_far form (history_of kinds age ages (t ∷ tenants) steps replies rows)) (line.Close (length steps)) is.lines small;
    }

-- its lines are the draft's and the close
pub closed_lines : (form : Form) (d : History) → journal_lines form d ≡ lines_so_far form d ++ line.Close (length d.steps) ∷ []
unfolding journal_lines
closed_lines form d = refl

pub closed_keeps : (form : Form) (kinds age : ℕ) (ages : Ages) (tenants : Table) (steps : List Step) (replies : List RecordedReply) (rows : List (Grain × Row)) → IsDraft form (history_of kinds age ages tenants steps replies rows) → not (is_empty tenants) ≡ true → length steps < 2 ^ 64 → KeepsRulesIn form (history_of kinds age ages tenants steps replies rows)
closed_keeps form kinds age ages [] steps replies rows is some small = absurd (true≢false (sym some))
closed_keeps form kinds age ages (t ∷ tenants) steps replies rows is some small = keeps form kinds age ages t tenants steps replies rows is small

cons_nil : {A : Type 0} (x : A) (xs : List A) → x ∷ xs ≡ [] → ⊥
cons_nil x xs e = cc

some_so : {A : Type 0} (xs : List A) → (xs ≡ [] → ⊥) → not (is_empty xs) ≡ true
some_so [] some = absurd (some refl)
some_so (x ∷ xs) some = refl

-- ---- a draft's lines begin a journal

-- the lines before others begin a journal too
pub begin_front : (form : Form) (ls ms : List Line) → BeginJournal form (ls ++ ms) → BeginJournal form ls
begin_front form ls ms begin = record {
  journal = begin.journal;
  behind = ms ++ begin.behind;
  keeps = begin.keeps;
  are_first = begin.are_first ∙ append_assoc ls ms begin.behind;
}

some_tenant : List ℕ × Limits
some_tenant = (codes "a", record { activations = 1; mailbox = 1 })

is_some_tenant : (form : Form) → IsLine form (tenant_line some_tenant)
unfolding is_word some_tenant
is_some_tenant form = (refl, refl)

-- the lines of a draft of ages alone, and of it with a tenant
with_tenant : (form : Form) (kinds age : ℕ) (ages : Ages) → lines_so_far form (history_of kinds age ages (some_tenant ∷ []) [] [] []) ≡ lines_so_far form (history_of kinds age ages [] [] [] []) ++ tenant_line some_tenant ∷ []
with_tenant form kinds age ages =
    more_lines (start_lines form kinds age) (body (history_of kinds age ages [] [] [] [])) (body (history_of kinds age ages (some_tenant ∷ []) [] [] [])) (tenant_line some_tenant) (tenant_body kinds age ages [] some_tenant)

-- a draft of ages alone, with a tenant
one_tenant : (form : Form) (kinds age : ℕ) (ages : Ages) → IsDraft form (history_of kinds age ages [] [] [] []) → IsDraft form (history_of kinds age ages (some_tenant ∷ []) [] [] [])
one_tenant form kinds age ages is =
    let before : List Line = lines_so_far form (history_of kinds age ages [] [] [] []) in
    record {
      kinds = is.kinds;
      few_ages = is.few_ages;
      ages_ascending = is.ages_ascending;
      untold = is.untold;
      few = omega arith;
      distinct = refl;
      ascending = refl;
      tenants_first = λ none. absurd (cons_nil some_tenant [] none);
      lines = subst (All (IsLine form)) (sym (with_tenant form kinds age ages)) (All-push (IsLine form) before (tenant_line some_tenant) is.lines (is_some_tenant form));
    }

begins : (form : Form) (kinds age : ℕ) (ages : Ages) (tenants : Table) (steps : List Step) (replies : List RecordedReply) (rows : List (Grain × Row)) → IsDraft form (history_of kinds age ages tenants steps replies rows) → length steps < 2 ^ 64 → BeginJournal form (lines_so_far form (history_of kinds age ages tenants steps replies rows))
unfolding journal_lines
begins form kinds age ages [] [] [] [] is small = record {
  journal = history_of kinds age ages (some_tenant ∷ []) [] [] [];
  behind = tenant_line some_tenant ∷ line.Close 0 ∷ [];
  keeps = keeps form kinds age ages some_tenant [] [] [] [] (one_tenant form kinds age ages is) (lit< tt);
  are_first = ap (λ lines. lines ++ line.Close 0 ∷ []) (with_tenant form kinds age ages) ∙ append_assoc (lines_so_far form (history_of kinds age ages [] [] [] [])) (tenant_line some_tenant ∷ []) (line.Close 0 ∷ []);
}
begins form kinds age ages [] (s ∷ steps) replies rows is small = let none = (is.tenants_first refl).0 in cc
begins form kinds age ages [] [] (reply ∷ replies) rows is small = let none = (is.tenants_first refl).1 in cc
begins form kinds age ages [] [] [] (row ∷ rows) is small = let none = (is.tenants_first refl).2 in cc
begins form kinds age ages (t ∷ tenants) steps replies rows is small = record {
  journal = history_of kinds age ages (t ∷ tenants) steps replies rows;
  behind = line.Close (length steps) ∷ [];
  keeps = keeps form kinds age ages t tenants steps replies rows is small;
  are_first = refl;
}

pub draft_begins : (form : Form) (d : History) → IsDraft form d → length d.steps < 2 ^ 64 → BeginJournal form (lines_so_far form d)
draft_begins form d is small = begins form d.kinds d.age d.ages d.tenants d.steps d.replies d.rows is small

-- ---- a journal is a draft

fault_parts : (none many : Bool) (repeat range : Option (List ℕ)) → cond none (Some faults.Empty) (cond many (Some faults.TooMany) (option_or (option_map faults.Twice repeat) (option_map faults.Range range))) ≡ None → (none ≡ false) × (many ≡ false) × (repeat ≡ None)
fault_parts true many repeat range e = cc
fault_parts false true repeat range e = cc
fault_parts false false (Some name) range e = cc
fault_parts false false None range e = (refl, refl, refl)

few_of : (n : ℕ) → ltb 1000 n ≡ false → n ≤ 1000
few_of n not_many = grind (arith, not_many)

-- What a table keeps.
record TableKeeps (tenants : Table) : Type 0 where
  some : tenants ≡ [] → ⊥
  few : length tenants ≤ 1000
  distinct : first_repeat [] (names_of tenants) ≡ None

table_keeps : (tenants : Table) → IsTable tenants → TableKeeps tenants
unfolding table_fault
table_keeps tenants is =
    let parts = fault_parts (eqb (length tenants) 0) (ltb 1000 (length tenants)) (first_repeat [] (names_of tenants)) (first_out_of_range tenants) is in
    record {
      some = λ none. true≢false (ap (λ t. eqb (length t) 0) (sym none) ∙ parts.0);
      few = few_of (length tenants) parts.1;
      distinct = parts.2;
    }

pub journal_is_draft : (form : Form) (j : History) → KeepsRulesIn form j → IsDraft form j
unfolding journal_lines
journal_is_draft form j keeps =
    let table = table_keeps j.tenants keeps.is_table in
    record {
      kinds = keeps.kinds;
      few_ages = keeps.ages.few;
      ages_ascending = one_after_another j.ages keeps.ages.ascending;
      untold = keeps.untold;
      few = table.few;
      distinct = table.distinct;
      ascending = keeps.ascending;
      tenants_first = λ none. absurd (table.some none);
      lines = All-front (IsLine form) (lines_so_far form j) (line.Close (length j.steps) ∷ []) keeps.lines;
    }

pub has_tenants : (form : Form) (j : History) → KeepsRulesIn form j → not (is_empty j.tenants) ≡ true
has_tenants form j keeps = some_so j.tenants (table_keeps j.tenants keeps.is_table).some
