-- What parts keep of a journal's rules, put together.
use Rattle.journal_text.proofs.Common.{◌≡◌, ◌<◌, ◌^◌, ◌≤◌, ◌∷◌, ◌++◌, ◌&&◌, ℕ, Ages, All, All-cons, All-head, All-nil, All-tail, Bool, Grain, History, IsAge, IsKinds, IsLine, Line, List, None, Option, Row, Some, Step, Table, [], and_from, arith, body, cond, false, history_of, is_recorded_fault, is_text_byte, journal_lines, kind_line, le-leb, leb, length, list_all, map, not, refl, row_line, some_none, start_lines, subst, sym, take, tenant_line, true, true≢false, written}
use Rattle.std.specs.Prelude.{find, option_map}
use Rattle.std.specs.Option.{option_or}
use Rattle.std.specs.List.{AllByRecursion}
use Rattle.std.proofs.lemmas.List.{take_all}
use Rattle.std.proofs.lemmas.List.Elements.{All-append}
use Rattle.finite_maps.proofs.Options.{none_from_option_map}
use Rattle.tenant_gate.specs.Table.{are_in_range, first_out_of_range, first_repeat, names_of, table_fault}
use Rattle.tenant_gate.specs.declared.fault.TableFault.TheVariants as faults
use Rattle.tenant_gate.specs.declared.limits.Limits.{Limits}
use Rattle.silo_event.specs.Fault.{fault_code, fault_text}
use Rattle.silo_event.specs.Visible.{HasNames}
use Rattle.silo_event.specs.declared.fault.Fault.{Fault}
use Rattle.silo_event.specs.declared.fault.Fault.TheVariants as fault
use Rattle.silo_event.specs.declared.reply.Reply.{Reply}
use Rattle.silo_event.proofs.Texts.{texts_are_visible}
use Rattle.journal_text.specs.Form.{is_code}
use Rattle.journal_text.specs.RecordedFault.{code_and_text}
use Rattle.journal_text.specs.RecordedReply.{recorded_of}
use Rattle.journal_text.specs.Rules.{HasNumbers, IsInRange, IsTable, KeepsRules, ToNumber}
use Rattle.journal_text.specs.declared.line.Line.TheVariants as line
use Rattle.journal_text.specs.declared.recorded.RecordedReply.{RecordedReply}
use Rattle.journal_text.specs.inside.Kept.{HasWord, KeepsReply, KeepsRow, KeepsStep}

-- ---- faults

abbrev has_some : List ℕ → Bool
has_some [] = false
has_some (x ∷ xs) = true

some_long : (xs : List ℕ) → has_some xs ≡ true → leb 1 (length xs) ≡ true
some_long [] none = absurd (true≢false (sym none))
some_long (x ∷ xs) some = le-leb 1 (length (x ∷ xs)) (omega arith)

-- its code is one of the form's, and its text has some bytes
told_is : (f : Fault) → (is_code written (fault_code f) ≡ true) × (has_some (fault_text f) ≡ true)
told_is fault.NotARequest = (refl, refl)
told_is fault.TooLong = (refl, refl)
told_is fault.TooDeep = (refl, refl)
told_is fault.NotWhole = (refl, refl)
told_is fault.NotHex = (refl, refl)
told_is fault.NotWellFormed = (refl, refl)
told_is fault.StorageFailed = (refl, refl)
told_is fault.UnknownMethod = (refl, refl)
told_is fault.Misfit = (refl, refl)
told_is fault.OutOfRange = (refl, refl)
told_is fault.TooLarge = (refl, refl)
told_is fault.NoMemory = (refl, refl)
told_is (fault.UnknownTenant tenant) = (refl, refl)
told_is (fault.UnknownKind kind) = (refl, refl)
told_is (fault.AcrossTenants from to) = (refl, refl)
told_is (fault.NoActivation tenant) = (refl, refl)
told_is (fault.MailboxFull grain) = (refl, refl)
told_is (fault.NoNumber tenant) = (refl, refl)
told_is (fault.StateChanged grain) = (refl, refl)
told_is (fault.VersionsSpent grain) = (refl, refl)

pub fault_is : (f : Fault) → HasNames f → is_recorded_fault written (code_and_text (fault_code f) (fault_text f)) ≡ true
unfolding is_recorded_fault
fault_is f named =
    and_from (is_code written (fault_code f) && leb 1 (length (fault_text f))) (list_all is_text_byte (fault_text f))
    (and_from (is_code written (fault_code f)) (leb 1 (length (fault_text f))) (told_is f).0 (some_long (fault_text f) (told_is f).1))
    (texts_are_visible f named)

-- ---- lists

-- what holds of as many as there are holds of all
pub all_taken : {X : Type 0} (P : X → Type 0) (xs : List X) (n : ℕ) → length xs ≤ n → All P (take n xs) → All P xs
all_taken P xs n few all = subst (All P) (take_all n xs few) all

-- ---- lines

abbrev AreLines : List Line → Type 0
AreLines lines = All (IsLine written) lines

kinds_kept : (ages : Ages) → All HasWord ages → AllByRecursion (λ entry. IsAge entry.1) ages → AreLines (map kind_line ages)
kinds_kept [] words in_range = All-nil (IsLine written)
kinds_kept (entry ∷ ages) words in_range =
    All-cons (IsLine written) (kind_line entry) (map kind_line ages) (refl, All-head HasWord entry ages words, in_range.0)
    (kinds_kept ages (All-tail HasWord entry ages words) in_range.1)

abbrev misfit : Table → Option (List ℕ × Limits)
misfit tenants = find (λ entry. not (are_in_range entry.1)) tenants

first_fits : (entry : List ℕ × Limits) (tenants : Table) (fits : Bool) → cond (not fits) (Some entry) (misfit tenants) ≡ None
    → (fits ≡ true) × (misfit tenants ≡ None)
first_fits entry tenants true none = (refl, none)
first_fits entry tenants false none = absurd (some_none (Some entry) entry none refl)

tenants_kept : (tenants : Table) → misfit tenants ≡ None → All HasWord tenants → AreLines (map tenant_line tenants)
tenants_kept [] none words = All-nil (IsLine written)
tenants_kept (entry ∷ tenants) none words =
    let fits = first_fits entry tenants (are_in_range entry.1) none in
    All-cons (IsLine written) (tenant_line entry) (map tenant_line tenants) (All-head HasWord entry tenants words, fits.0)
    (tenants_kept tenants fits.1 (All-tail HasWord entry tenants words))

no_range : (none many : Bool) (repeat range : Option (List ℕ))
    → cond none (Some faults.Empty) (cond many (Some faults.TooMany) (option_or (option_map faults.Twice repeat) (option_map faults.Range range))) ≡ None
    → range ≡ None
no_range true many repeat range e = cc
no_range false true repeat range e = cc
no_range false false (Some name) range e = cc
no_range false false None (Some name) e = cc
no_range false false None None e = refl

table_fits : (tenants : Table) → IsTable tenants → misfit tenants ≡ None
unfolding table_fault
table_fits tenants is =
    none_from_option_map (λ (entry : List ℕ × Limits). entry.0) (misfit tenants)
    (no_range _ _ (first_repeat [] (names_of tenants)) (first_out_of_range tenants) is)

steps_kept : (steps : List Step) → All KeepsStep steps → All HasNumbers steps → AreLines (map line.Step steps)
steps_kept [] keeps has = All-nil (IsLine written)
steps_kept (s ∷ steps) keeps has =
    All-cons (IsLine written) (line.Step s) (map line.Step steps) (All-head KeepsStep s steps keeps (All-head HasNumbers s steps has))
    (steps_kept steps (All-tail KeepsStep s steps keeps) (All-tail HasNumbers s steps has))

abbrev IsTo : RecordedReply → Type 0
IsTo reply = ToNumber reply.recipient

replies_kept : (replies : List Reply) → All KeepsReply replies → All IsTo (map recorded_of replies) → AreLines (map line.Reply (map recorded_of replies))
replies_kept [] keeps has = All-nil (IsLine written)
replies_kept (r ∷ replies) keeps has =
    All-cons (IsLine written) (line.Reply (recorded_of r)) (map line.Reply (map recorded_of replies))
    (All-head KeepsReply r replies keeps (All-head IsTo (recorded_of r) (map recorded_of replies) has))
    (replies_kept replies (All-tail KeepsReply r replies keeps) (All-tail IsTo (recorded_of r) (map recorded_of replies) has))

abbrev HasVersion : Grain × Row → Type 0
HasVersion row = 1 ≤ row.1.version

rows_kept : (rows : List (Grain × Row)) → All KeepsRow rows → All HasVersion rows → AreLines (map row_line rows)
rows_kept [] keeps has = All-nil (IsLine written)
rows_kept (row ∷ rows) keeps has =
    All-cons (IsLine written) (row_line row) (map row_line rows) (All-head KeepsRow row rows keeps (All-head HasVersion row rows has))
    (rows_kept rows (All-tail KeepsRow row rows keeps) (All-tail HasVersion row rows has))

-- ---- the whole

module _ (kinds age : ℕ) (ages : Ages) (tenants : Table) (steps : List Step) (replies : List Reply) (rows : List (Grain × Row)) where
  abbrev written_of : History
  written_of = history_of kinds age ages tenants steps (map recorded_of replies) rows

  start_kept : IsKinds kinds → IsAge age → AreLines (start_lines written kinds age)
  start_kept named aged =
      All-cons (IsLine written) line.Head (line.Kinds kinds ∷ line.Age age ∷ []) tt
      (All-cons (IsLine written) (line.Kinds kinds) (line.Age age ∷ []) (refl, named)
      (All-cons (IsLine written) (line.Age age) [] aged (All-nil (IsLine written))))

  append : (ls ms : List Line) → AreLines ls → AreLines ms → AreLines (ls ++ ms)
  append = All-append (IsLine written)

  -- what is in range where types don't keep it keeps the rules
  pub rules_kept : All HasWord ages → All HasWord tenants → All KeepsStep steps → All KeepsReply replies → All KeepsRow rows → length steps < 2 ^ 64
      → IsInRange written_of → KeepsRules written_of
  unfolding journal_lines
  rules_kept kinds_words tenants_words keeps_steps keeps_replies keeps_rows few is = record {
    kinds = is.kinds;
    ages = is.ages;
    untold = λ untold. absurd (true≢false untold);
    is_table = is.is_table;
    ascending = is.ascending;
    lines =
        append (start_lines written kinds age ++ body written_of) (line.Close (length steps) ∷ [])
        (append (start_lines written kinds age) (body written_of) (start_kept is.kinds is.age)
        (append _ (map row_line rows)
        (append _ (map line.Reply (map recorded_of replies))
        (append _ (map line.Step steps)
        (append (map kind_line ages) (map tenant_line tenants) (kinds_kept ages kinds_words is.ages.in_range)
        (tenants_kept tenants (table_fits tenants is.is_table) tenants_words))
        (steps_kept steps keeps_steps is.numbers.steps))
        (replies_kept replies keeps_replies is.numbers.replies))
        (rows_kept rows keeps_rows is.numbers.versions)))
        (All-cons (IsLine written) (line.Close (length steps)) [] few (All-nil (IsLine written)));
  }
