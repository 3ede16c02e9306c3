-- A draft with a line more is a draft, and its lines are those before and the line.
use Rattle.journal_text.proofs.Common.{◌≡◌, ℕ, ◌<◌, ◌≤◌, Bool, true, false, true≢false, not, ◌&&◌, ltb, ltb-true, List, [], ◌∷◌, ◌++◌, length, All, Option, Some, None, refl, ap, sym, subst, ◌∙◌, arith, IsTrue, first_so, second_so, list_any, append-nil, append_assoc, map-append, same_Some, Grain, same_text, Limits, Table, names_of, first_repeat}
use Rattle.journal_text.proofs.Common.{Row, Ages, Step, Form, RecordedReply, Line, tells_kinds, History, history_of, kind_line, tenant_line, row_line, body, start_lines, IsAge, IsKinds, IsLine, comes_after, are_ascending, AreKinds, only_if}
use Rattle.std.proofs.lemmas.List.Elements.{All-nil, All-cons, All-append, All-push}
use Rattle.std.proofs.lemmas.Bool.{not-true}
use Rattle.tenant_gate.proofs.Repeats.{first_repeat-push}
use Rattle.finite_maps.proofs.Lists.{push_not_empty}
use Rattle.journal_text.specs.declared.form.Form.TheVariants as forms
use Rattle.journal_text.specs.declared.line.Line.TheVariants as line
use Rattle.journal_text.specs.inside.Draft.{lines_so_far, IsDraft, is_empty, has_tenant, kind_after, are_kinds_ascending, last_key, kind_fits, tenant_fits, step_fits, reply_fits, row_fits, added}
use Rattle.journal_text.proofs.Drafts.{empty, length-push, names_of-push, has_tenant-names}

-- the first lines of a form that tells the logic
told_are : (form : Form) (kinds age : ℕ) → IsTrue (tells_kinds form) → IsKinds kinds → IsAge age → All (IsLine form) (line.Head ∷ line.Kinds kinds ∷ line.Age age ∷ [])
told_are form kinds age tells are is =
    All-cons (IsLine form) line.Head (line.Kinds kinds ∷ line.Age age ∷ []) tt
    (All-cons (IsLine form) (line.Kinds kinds) (line.Age age ∷ []) (tells, are)
    (All-cons (IsLine form) (line.Age age) [] is (All-nil (IsLine form))))

-- the first lines may stand in a journal of the form
pub start_are : (form : Form) (kinds age : ℕ) → IsKinds kinds → IsAge age → All (IsLine form) (start_lines form kinds age)
start_are forms.First kinds age are is =
    All-cons (IsLine forms.First) line.Head (line.Age age ∷ []) tt (All-cons (IsLine forms.First) (line.Age age) [] is (All-nil (IsLine forms.First)))
start_are forms.Second kinds age are is = told_are forms.Second kinds age refl are is
start_are forms.Third kinds age are is = told_are forms.Third kinds age refl are is

-- a draft of the first lines alone
pub empty_is_draft : (form : Form) (kinds age : ℕ) → AreKinds form kinds → IsAge age → IsDraft form (empty kinds age)
empty_is_draft form kinds age are is = record {
  kinds = are.0;
  few_ages = omega arith;
  ages_ascending = refl;
  untold = λ e. (are.1 e, refl);
  few = omega arith;
  distinct = refl;
  ascending = refl;
  tenants_first = λ e. (refl, refl, refl);
  lines = All-append (IsLine form) (start_lines form kinds age) [] (start_are form kinds age are.0 is) (All-nil (IsLine form));
}

-- ---- what a line's test says

pub none_of : {A : Type 0} (xs : List A) → is_empty xs ≡ true → xs ≡ []
none_of [] e = refl
none_of (x ∷ xs) e = absurd (true≢false (sym e))

-- What the test of a kind's line says.
record KindFits (tenants : Table) (ages : Ages) (kind : List ℕ) : Type 0 where
  no_tenants : tenants ≡ []
  room : length ages < 64
  after : kind_after (last_key None ages) kind ≡ true

kind_test : (d : History) (kind : List ℕ) → kind_fits d kind ≡ true → KindFits d.tenants d.ages kind
kind_test d kind fits =
    let none = is_empty d.tenants in
    let room = ltb (length d.ages) 64 in
    let after = kind_after (last_key None d.ages) kind in
    let front = first_so (none && room) after fits in
    record {
      no_tenants = none_of d.tenants (first_so none room front);
      room = ltb-true (length d.ages) 64 (second_so none room front);
      after = second_so (none && room) after fits;
    }

-- What the test of a tenant's line says.
record TenantFits (tenants : Table) (steps : List Step) (replies : List RecordedReply) (rows : List (Grain × Row)) (name : List ℕ) : Type 0 where
  no_steps : steps ≡ []
  no_replies : replies ≡ []
  no_rows : rows ≡ []
  room : length tenants < 1000
  new : list_any (same_text name) (names_of tenants) ≡ false

tenant_test : (d : History) (name : List ℕ) → tenant_fits d name ≡ true → TenantFits d.tenants d.steps d.replies d.rows name
tenant_test d name fits =
    let e0 = is_empty d.steps in
    let e1 = is_empty d.replies in
    let e2 = is_empty d.rows in
    let room = ltb (length d.tenants) 1000 in
    let new = not (has_tenant d.tenants name) in
    let f3 = first_so (e0 && e1 && e2 && room) new fits in
    let f2 = first_so (e0 && e1 && e2) room f3 in
    let f1 = first_so (e0 && e1) e2 f2 in
    record {
      no_steps = none_of d.steps (first_so e0 e1 f1);
      no_replies = none_of d.replies (second_so e0 e1 f1);
      no_rows = none_of d.rows (second_so (e0 && e1) e2 f2);
      room = ltb-true (length d.tenants) 1000 (second_so (e0 && e1 && e2) room f3);
      new = sym (has_tenant-names d.tenants name) ∙ not-true (has_tenant d.tenants name) (second_so (e0 && e1 && e2 && room) new fits);
    }

some_tenant : {A : Type 0} (xs : List A) → not (is_empty xs) ≡ true → xs ≡ [] → ⊥
some_tenant xs some none = true≢false (sym some ∙ ap (λ ys. not (is_empty ys)) none)

-- ---- the lines

kind_body : (kinds age : ℕ) (ages : Ages) (entry : List ℕ × ℕ) → body (history_of kinds age (ages ++ entry ∷ []) [] [] [] []) ≡ body (history_of kinds age ages [] [] [] []) ++ kind_line entry ∷ []
kind_body kinds age ages entry = simp (append-nil, map-append)

pub tenant_body : (kinds age : ℕ) (ages : Ages) (tenants : Table) (entry : List ℕ × Limits) → body (history_of kinds age ages (tenants ++ entry ∷ []) [] [] []) ≡ body (history_of kinds age ages tenants [] [] []) ++ tenant_line entry ∷ []
tenant_body kinds age ages tenants entry = simp (append-nil, map-append, append_assoc)

step_body : (kinds age : ℕ) (ages : Ages) (tenants : Table) (steps : List Step) (s : Step) → body (history_of kinds age ages tenants (steps ++ s ∷ []) [] []) ≡ body (history_of kinds age ages tenants steps [] []) ++ line.Step s ∷ []
step_body kinds age ages tenants steps s = simp (append-nil, map-append, append_assoc)

reply_body : (kinds age : ℕ) (ages : Ages) (tenants : Table) (steps : List Step) (replies : List RecordedReply) (reply : RecordedReply) → body (history_of kinds age ages tenants steps (replies ++ reply ∷ []) []) ≡ body (history_of kinds age ages tenants steps replies []) ++ line.Reply reply ∷ []
reply_body kinds age ages tenants steps replies reply = simp (append-nil, map-append, append_assoc)

row_body : (kinds age : ℕ) (ages : Ages) (tenants : Table) (steps : List Step) (replies : List RecordedReply) (rows : List (Grain × Row)) (row : Grain × Row) → body (history_of kinds age ages tenants steps replies (rows ++ row ∷ [])) ≡ body (history_of kinds age ages tenants steps replies rows) ++ row_line row ∷ []
row_body kinds age ages tenants steps replies rows row = simp (map-append, append_assoc)

-- ---- the rules

ascending-push : (last : Option Grain) (rows : List (Grain × Row)) (row : Grain × Row) → are_ascending last rows ≡ true → comes_after (last_key last rows) row.0 ≡ true → are_ascending last (rows ++ row ∷ []) ≡ true
ascending-push last [] row ascending after = ap (λ b. b && true) after
ascending-push last (r ∷ rows) row ascending after =
    let here = first_so (comes_after last r.0) (are_ascending (Some r.0) rows) ascending in
    let behind = second_so (comes_after last r.0) (are_ascending (Some r.0) rows) ascending in
    ap (λ b. b && are_ascending (Some r.0) (rows ++ row ∷ [])) here ∙ ascending-push (Some r.0) rows row behind after

kinds_ascending-push : (last : Option (List ℕ)) (ages : Ages) (entry : List ℕ × ℕ) → are_kinds_ascending last ages ≡ true → kind_after (last_key last ages) entry.0 ≡ true → are_kinds_ascending last (ages ++ entry ∷ []) ≡ true
kinds_ascending-push last [] entry ascending after = ap (λ b. b && true) after
kinds_ascending-push last (e ∷ ages) entry ascending after =
    let here = first_so (kind_after last e.0) (are_kinds_ascending (Some e.0) ages) ascending in
    let behind = second_so (kind_after last e.0) (are_kinds_ascending (Some e.0) ages) ascending in
    ap (λ b. b && are_kinds_ascending (Some e.0) (ages ++ entry ∷ [])) here ∙ kinds_ascending-push (Some e.0) ages entry behind after

-- What a line more makes of a draft: a draft, with that line behind its own.
pub record Extends (form : Form) (d e : History) (l : Line) : Type 0 where
  pub is_draft : IsDraft form e
  pub lines : lines_so_far form e ≡ lines_so_far form d ++ l ∷ []

-- one line more behind the first lines
pub more_lines : (start lines more : List Line) (l : Line) → more ≡ lines ++ l ∷ [] → start ++ more ≡ (start ++ lines) ++ l ∷ []
more_lines start lines more l is = ap (λ ls. start ++ ls) is ∙ sym (append_assoc start lines (l ∷ []))

more_are : (form : Form) (d e : History) (l : Line) → IsDraft form d → IsLine form l → lines_so_far form e ≡ lines_so_far form d ++ l ∷ [] → All (IsLine form) (lines_so_far form e)
more_are form d e l is also lines = subst (All (IsLine form)) (sym lines) (All-push (IsLine form) (lines_so_far form d) l is.lines also)

-- a draft with a line more, by what its tests say
extended : (form : Form) (d : History) (ages : Ages) (tenants : Table) (steps : List Step) (replies : List RecordedReply) (rows : List (Grain × Row)) (l : Line) → IsDraft form d → IsLine form l → body (history_of d.kinds d.age ages tenants steps replies rows) ≡ body d ++ l ∷ [] → length ages ≤ 64 → are_kinds_ascending None ages ≡ true → (tells_kinds form ≡ false → ages ≡ []) → length tenants ≤ 1000 → first_repeat [] (names_of tenants) ≡ None → are_ascending None rows ≡ true → (tenants ≡ [] → (steps ≡ []) × (replies ≡ []) × (rows ≡ [])) → Extends form d (history_of d.kinds d.age ages tenants steps replies rows) l
extended form d ages tenants steps replies rows l is also more few_ages ages_ascending untold few distinct ascending first =
    let e : History = history_of d.kinds d.age ages tenants steps replies rows in
    let lines = more_lines (start_lines form d.kinds d.age) (body d) (body e) l more in
    record {
      is_draft = record {
        kinds = is.kinds;
        few_ages = few_ages;
        ages_ascending = ages_ascending;
        untold = λ none. ((is.untold none).0, untold none);
        few = few;
        distinct = distinct;
        ascending = ascending;
        tenants_first = first;
        lines = more_are form d e l is also lines;
      };
      lines = lines;
    }

kind_added : (form : Form) (kinds age : ℕ) (ages : Ages) (entry : List ℕ × ℕ) → IsDraft form (history_of kinds age ages [] [] [] []) → IsLine form (kind_line entry) → length ages < 64 → kind_after (last_key None ages) entry.0 ≡ true → Extends form (history_of kinds age ages [] [] [] []) (history_of kinds age (ages ++ entry ∷ []) [] [] [] []) (kind_line entry)
kind_added form kinds age ages entry is also room after =
    extended form (history_of kinds age ages [] [] [] []) (ages ++ entry ∷ []) [] [] [] [] (kind_line entry) is also (kind_body kinds age ages entry)
    (omega (arith, length-push ages entry, room))
    (kinds_ascending-push None ages entry is.ages_ascending after)
    (λ untold. absurd (true≢false (sym also.0 ∙ untold)))
    is.few is.distinct is.ascending is.tenants_first

module _ (form : Form) (kinds age : ℕ) (ages : Ages) (tenants : Table) (steps : List Step) (replies : List RecordedReply) (rows : List (Grain × Row)) (is : IsDraft form (history_of kinds age ages tenants steps replies rows)) where
  abbrev before : History
  before = history_of kinds age ages tenants steps replies rows

  -- with a line behind the ages of kinds
  behind_ages : (others : Table) (more_steps : List Step) (more_replies : List RecordedReply) (more_rows : List (Grain × Row)) (l : Line) → IsLine form l → body (history_of kinds age ages others more_steps more_replies more_rows) ≡ body before ++ l ∷ [] → length others ≤ 1000 → first_repeat [] (names_of others) ≡ None → are_ascending None more_rows ≡ true → (others ≡ [] → (more_steps ≡ []) × (more_replies ≡ []) × (more_rows ≡ [])) → Extends form before (history_of kinds age ages others more_steps more_replies more_rows) l
  behind_ages others more_steps more_replies more_rows l also more few distinct ascending first =
      extended form before ages others more_steps more_replies more_rows l is also more is.few_ages is.ages_ascending (λ none. (is.untold none).1) few distinct ascending first

  tenant_added : (entry : List ℕ × Limits) → IsLine form (tenant_line entry) → TenantFits tenants steps replies rows entry.0 → Extends form before (history_of kinds age ages (tenants ++ entry ∷ []) steps replies rows) (tenant_line entry)
  tenant_added entry also fits =
      behind_ages (tenants ++ entry ∷ []) steps replies rows (tenant_line entry) also
      (rw (fits.no_steps, fits.no_replies, fits.no_rows) (tenant_body kinds age ages tenants entry))
      (omega (arith, length-push tenants entry, fits.room))
      (ap (first_repeat []) (names_of-push tenants entry) ∙ first_repeat-push [] (names_of tenants) entry.0 is.distinct fits.new)
      is.ascending
      (λ e. absurd (push_not_empty tenants entry e))

  step_added : (s : Step) → IsLine form (line.Step s) → step_fits before ≡ true → Extends form before (history_of kinds age ages tenants (steps ++ s ∷ []) replies rows) (line.Step s)
  step_added s also fits =
      let some = not (is_empty tenants) in
      let front = first_so (some && is_empty replies) (is_empty rows) fits in
      let no_replies : replies ≡ [] = none_of replies (second_so some (is_empty replies) front) in
      let no_rows : rows ≡ [] = none_of rows (second_so (some && is_empty replies) (is_empty rows) fits) in
      behind_ages tenants (steps ++ s ∷ []) replies rows (line.Step s) also
      (rw (no_replies, no_rows) (step_body kinds age ages tenants steps s))
      is.few is.distinct is.ascending
      (λ e. absurd (some_tenant tenants (first_so some (is_empty replies) front) e))

  reply_added : (reply : RecordedReply) → IsLine form (line.Reply reply) → reply_fits before ≡ true → Extends form before (history_of kinds age ages tenants steps (replies ++ reply ∷ []) rows) (line.Reply reply)
  reply_added reply also fits =
      let some = not (is_empty tenants) in
      let no_rows : rows ≡ [] = none_of rows (second_so some (is_empty rows) fits) in
      behind_ages tenants steps (replies ++ reply ∷ []) rows (line.Reply reply) also
      (rw no_rows (reply_body kinds age ages tenants steps replies reply))
      is.few is.distinct is.ascending
      (λ e. absurd (some_tenant tenants (first_so some (is_empty rows) fits) e))

  row_added : (row : Grain × Row) → IsLine form (row_line row) → row_fits before row.0 ≡ true → Extends form before (history_of kinds age ages tenants steps replies (rows ++ row ∷ [])) (row_line row)
  row_added row also fits =
      let some = not (is_empty tenants) in
      let after = comes_after (last_key None rows) row.0 in
      behind_ages tenants steps replies (rows ++ row ∷ []) (row_line row) also
      (row_body kinds age ages tenants steps replies rows row)
      is.few is.distinct
      (ascending-push None rows row is.ascending (second_so some after fits))
      (λ e. absurd (some_tenant tenants (first_so some after fits) e))

  kind_extends : (entry : List ℕ × ℕ) → IsLine form (kind_line entry) → KindFits tenants ages entry.0 → Extends form before (history_of kinds age (ages ++ entry ∷ []) tenants steps replies rows) (kind_line entry)
  kind_extends entry also fits =
      let none = is.tenants_first fits.no_tenants in
      let empty_is : IsDraft form (history_of kinds age ages [] [] [] []) = subst (IsDraft form) (λ i. history_of kinds age ages (fits.no_tenants i) (none.0 i) (none.1 i) (none.2 i)) is in
      rw (fits.no_tenants, none.0, none.1, none.2) (kind_added form kinds age ages entry empty_is also fits.room fits.after)

-- what a test lets through
let_through : (form : Form) (d e f : History) (l : Line) (b : Bool) → only_if b f ≡ Some e → (b ≡ true → Extends form d f l) → Extends form d e l
let_through form d e f l true taken extends = subst (λ g. Extends form d g l) (same_Some f e taken) (extends refl)
let_through form d e f l false taken extends = absurd cc

-- a line that is added extends the draft
pub added_extends : (form : Form) (d e : History) (l : Line) → IsDraft form d → IsLine form l → added d l ≡ Some e → Extends form d e l
unfolding added
added_extends form d e (line.Kind kind age) is also taken =
    let_through form d e _ (line.Kind kind age) (kind_fits d kind) taken (λ fits. kind_extends form d.kinds d.age d.ages d.tenants d.steps d.replies d.rows is (kind, age) also (kind_test d kind fits))
added_extends form d e (line.Tenant tenant limits) is also taken =
    let_through form d e _ (line.Tenant tenant limits) (tenant_fits d tenant) taken (λ fits. tenant_added form d.kinds d.age d.ages d.tenants d.steps d.replies d.rows is (tenant, limits) also (tenant_test d tenant fits))
added_extends form d e (line.Step s) is also taken =
    let_through form d e _ (line.Step s) (step_fits d) taken (step_added form d.kinds d.age d.ages d.tenants d.steps d.replies d.rows is s also)
added_extends form d e (line.Reply reply) is also taken =
    let_through form d e _ (line.Reply reply) (reply_fits d) taken (reply_added form d.kinds d.age d.ages d.tenants d.steps d.replies d.rows is reply also)
added_extends form d e (line.Row grain row) is also taken =
    let_through form d e _ (line.Row grain row) (row_fits d grain) taken (row_added form d.kinds d.age d.ages d.tenants d.steps d.replies d.rows is (grain, row) also)
added_extends form d e line.Head is also taken = cc
added_extends form d e (line.Kinds kinds) is also taken = cc
added_extends form d e (line.Age age) is also taken = cc
added_extends form d e (line.Close steps) is also taken = cc
