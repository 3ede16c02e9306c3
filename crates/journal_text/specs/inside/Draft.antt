-- A journal as far as it is read, and what may stand behind that.
use Rattle.std.specs.Prelude.{◌≡◌, ℕ, ◌≤◌, Bool, true, false, not, ◌&&◌, ◌==◌, nat_lt, List, []}
use Rattle.std.specs.Prelude.{◌∷◌, ◌++◌, length, All, IsTrue, Option, Some, None, Result, Ok, Err}
use Rattle.std.specs.declared.alloc.AllocError.{AllocError}
use Rattle.std.specs.List.{list_any}
use Rattle.std.specs.Ordering.{is_lt}
use Rattle.grain_id.specs.Names.{Grain, same_text, text_cmp}
use Rattle.tenant_gate.specs.Table.{Table, most_tenants, names_of, first_repeat}
use Rattle.idle_collector.specs.Ages.{Ages, most_ages}
use Rattle.journal_text.specs.Form.{tells_kinds}
use Rattle.journal_text.specs.Text.{History, body, start_lines}
use Rattle.journal_text.specs.Rules.{IsKinds, IsLine, comes_after, are_ascending}
use Rattle.journal_text.specs.inside.Candidates.{only_if}
use Rattle.journal_text.specs.declared.form.Form.{Form}
use Rattle.journal_text.specs.declared.line.Line.{Line}
use Rattle.journal_text.specs.declared.line.Line.TheVariants as line

-- the lines that are read
abbrev pub lines_so_far : Form → History → List Line
lines_so_far form d = start_lines form d.kinds d.age ++ body d

-- the kind comes after the last one, if there is one
abbrev pub kind_after : Option (List ℕ) → List ℕ → Bool
kind_after None kind = true
kind_after (Some last) kind = is_lt (text_cmp last kind)

-- the kinds come one after another, the first after the last one before them
abbrev pub are_kinds_ascending : Option (List ℕ) → Ages → Bool
are_kinds_ascending last [] = true
are_kinds_ascending last (entry ∷ ages) = kind_after last entry.0 && are_kinds_ascending (Some entry.0) ages

-- What a draft of a journal of that form keeps.
pub record IsDraft (form : Form) (d : History) : Type 0 where
  pub kinds : IsKinds d.kinds
  pub few_ages : length d.ages ≤ 64
  pub ages_ascending : IsTrue (are_kinds_ascending None d.ages)
  pub untold : tells_kinds form ≡ false → (d.kinds ≡ 1) × (d.ages ≡ [])
  pub few : length d.tenants ≤ 1000
  pub distinct : first_repeat [] (names_of d.tenants) ≡ None
  pub ascending : IsTrue (are_ascending None d.rows)
  pub tenants_first : d.tenants ≡ [] → (d.steps ≡ []) × (d.replies ≡ []) × (d.rows ≡ [])
  pub lines : All (IsLine form) (lines_so_far form d)

abbrev pub is_empty : {A : Type 0} → List A → Bool
is_empty [] = true
is_empty (x ∷ xs) = false

-- whether one of the tenants has that name
abbrev pub has_tenant : Table → List ℕ → Bool
has_tenant tenants name = list_any (λ entry. same_text name entry.0) tenants

-- the last of the entries' keys, or the one before them
abbrev pub last_key : {K X : Type 0} → Option K → List (K × X) → Option K
last_key before [] = before
last_key before (entry ∷ entries) = last_key (Some entry.0) entries

-- the age of a kind stands before the tenants, behind the kinds that come before its own, and there is room for one more
abbrev pub kind_fits : History → List ℕ → Bool
kind_fits d kind = is_empty d.tenants && nat_lt (length d.ages) most_ages && kind_after (last_key None d.ages) kind

-- a tenant stands among the tenants: there is none of its name, and room for one more
abbrev pub tenant_fits : History → List ℕ → Bool
tenant_fits d name =
    is_empty d.steps && is_empty d.replies && is_empty d.rows
    && nat_lt (length d.tenants) most_tenants && not (has_tenant d.tenants name)

-- a step stands behind the tenants, before the replies and the rows
abbrev pub step_fits : History → Bool
step_fits d = not (is_empty d.tenants) && is_empty d.replies && is_empty d.rows

-- a reply stands behind the tenants, before the rows
abbrev pub reply_fits : History → Bool
reply_fits d = not (is_empty d.tenants) && is_empty d.rows

-- a row stands behind the tenants, and behind the rows whose grains come before its own
abbrev pub row_fits : History → Grain → Bool
row_fits d grain = not (is_empty d.tenants) && comes_after (last_key None d.rows) grain

-- the close stands behind the tenants, with the number of steps
abbrev pub close_fits : History → ℕ → Bool
close_fits d steps = not (is_empty d.tenants) && (steps == length d.steps)

-- the draft with a line more, if the line may stand there
unfoldable pub added : History → Line → Option History
added d (line.Kind kind age) = only_if (kind_fits d kind) (record d { ages = d.ages ++ (kind, age) ∷ [] })
added d (line.Tenant tenant limits) = only_if (tenant_fits d tenant) (record d { tenants = d.tenants ++ (tenant, limits) ∷ [] })
added d (line.Step s) = only_if (step_fits d) (record d { steps = d.steps ++ s ∷ [] })
added d (line.Reply reply) = only_if (reply_fits d) (record d { replies = d.replies ++ reply ∷ [] })
added d (line.Row grain row) = only_if (row_fits d grain) (record d { rows = d.rows ++ (grain, row) ∷ [] })
added d line.Head = None
added d (line.Kinds kinds) = None
added d (line.Age age) = None
added d (line.Close steps) = None

-- What adding a line answers: whether it was added. After a refusal of memory the draft is given up.
abbrev pub AddAnswers : History → Line → Result Bool AllocError → History → Type 0
AddAnswers d l (Ok true) e = added d l ≡ Some e
AddAnswers d l (Ok false) e = added d l ≡ None
AddAnswers d l (Err refused) e = Unit {0}
