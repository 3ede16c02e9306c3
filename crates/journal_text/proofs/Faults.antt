-- Which line is the first at fault.
use Rattle.std.proofs.Common.{◌≡◌, ℕ, ◌+◌, ◌<◌, ◌≤◌, ◌^◌, inl, inr, Bool, true, false, true≢false, not, ◌&&◌, if◌then◌else◌, ◌==◌, eq-eqb, eqb-true, List, [], ◌∷◌, ◌++◌, length, map, take, drop, get_or, All, Some, None, refl, ap, sym, subst, ◌∙◌, lit<, lit≤, arith}
use Rattle.journal_text.proofs.Common.{option_and_then, first_so, second_so, cases_lt, All-head, same_head, some_none, Form, Line, History, kind_line, tenant_line, row_line, body, line_text, lines_text, kinds_lines, start_lines, journal_lines, text_in, IsLine, KeepsRulesIn, only_if, newest, tells_kinds, lines_so_far, IsDraft, is_empty, close_fits}
use Rattle.journal_text.proofs.Common.{added}
use Rattle.std.proofs.lemmas.List.{append_assoc, append-nil, take-append-drop, length-append, length-map, length-take}
use Rattle.std.proofs.Math.Bool.{and-false}
use Rattle.journal_text.specs.declared.line.Line.TheVariants as line
use Rattle.journal_text.specs.declared.form.Form.TheVariants as forms
use Rattle.journal_text.specs.FirstFault.{BeginJournal, LinesFit, IsFirstFault}
use Rattle.journal_text.specs.inside.Answers.{BeginsWithLine, BeginsWithHead, BeginsWithKinds, BeginsWithAge, AreKinds}
use Rattle.journal_text.proofs.Lines.{lines_text-append}
use Rattle.journal_text.proofs.LinesCut.{one_first, lines_cut, lines_cons, nothing_more}
use Rattle.journal_text.proofs.Drafts.{empty, completed, body_completed}
use Rattle.journal_text.proofs.Added.{empty_is_draft}
use Rattle.journal_text.proofs.DraftJournals.{All-front, All-back, begin_front, draft_begins, closed_lines, closed_keeps, journal_is_draft, has_tenants}

-- ---- behind lines that begin a journal

pub begin_lines : (form : Form) (ls : List Line) → BeginJournal form ls → All (IsLine form) ls
begin_lines form ls begin = All-front (IsLine form) ls begin.behind (subst (All (IsLine form)) begin.are_first begin.keeps.lines)

-- No journal has the lines, and then one that the rest begins with.
abbrev pub NoLineFits : (form : Form) → List Line → List ℕ → Type 0
NoLineFits form ls rest = (j : History) (l : Line) (more : List Line) (behind : List ℕ) → KeepsRulesIn form j → IsLine form l → rest ≡ line_text form l ++ 10 ∷ behind → journal_lines form j ≡ ls ++ l ∷ more → ⊥

-- No journal has these lines alone, if the rest is nothing.
abbrev pub IsNoEnd : (form : Form) → List Line → List ℕ → Type 0
IsNoEnd form ls rest = (j : History) → KeepsRulesIn form j → journal_lines form j ≡ ls → rest ≡ [] → ⊥

-- what stands behind the lines fits, in lines that are cut
cut_fits : (form : Form) (ls : List Line) (rest : List ℕ) → NoLineFits form ls rest → (j : History) → KeepsRulesIn form j → (more others : List Line) (behind : List ℕ) → rest ≡ lines_text form more ++ behind → journal_lines form j ≡ (ls ++ more) ++ others → more ≡ []
cut_fits form ls rest none j keeps [] others behind whole lines = refl
cut_fits form ls rest none j keeps (l ∷ more) others behind whole lines =
    let along : journal_lines form j ≡ ls ++ l ∷ (more ++ others) = lines ∙ append_assoc ls (l ∷ more) others in
    let is : IsLine form l = All-head (IsLine form) l (more ++ others) (All-back (IsLine form) ls (l ∷ (more ++ others)) (subst (All (IsLine form)) along keeps.lines)) in
    absurd (none j l (more ++ others) (lines_text form more ++ behind) keeps is (whole ∙ lines_cons form l more behind) along)

no_line_fits : (form : Form) (bytes : List ℕ) (ls : List Line) (rest : List ℕ) → bytes ≡ lines_text form ls ++ rest → All (IsLine form) ls → NoLineFits form ls rest → LinesFit form bytes (length ls + 1) → ⊥
no_line_fits form bytes ls rest whole are none fit =
    let j = fit.fit.journal in
    let cut = lines_cut form ls fit.lines rest fit.behind are (begin_lines form fit.lines fit.fit) (sym whole ∙ fit.whole) (omega (arith, fit.counted)) in
    let nothing : cut.more ≡ [] = cut_fits form ls rest none j fit.fit.keeps cut.more fit.fit.behind fit.behind cut.rest (fit.fit.are_first ∙ ap (λ lines. lines ++ fit.fit.behind) cut.longer) in
    let same : fit.lines ≡ ls = cut.longer ∙ ap (λ more. ls ++ more) nothing ∙ append-nil ls in
    omega (arith, fit.counted, ap length same)

no_journal : (form : Form) (bytes : List ℕ) (ls : List Line) (rest : List ℕ) → bytes ≡ lines_text form ls ++ rest → All (IsLine form) ls → NoLineFits form ls rest → IsNoEnd form ls rest → (j : History) → KeepsRulesIn form j → bytes ≡ text_in form j → ⊥
no_journal form bytes ls rest whole are none no_end j keeps text =
    let same : lines_text form ls ++ rest ≡ lines_text form (journal_lines form j) ++ [] = sym whole ∙ text ∙ sym (append-nil (lines_text form (journal_lines form j))) in
    elim (cases_lt (length (journal_lines form j)) (length ls)) [
      | inl short ↦
          (let cut = lines_cut form (journal_lines form j) ls [] rest keeps.lines are (sym same) (omega (arith, short)) in
          let nothing = nothing_more form cut.more rest cut.rest in
          no_end j keeps (sym (cut.longer ∙ ap (λ more. journal_lines form j ++ more) nothing.0 ∙ append-nil (journal_lines form j))) nothing.1)
      | inr short ↦
          (let cut = lines_cut form ls (journal_lines form j) rest [] are keeps.lines same short in
          let nothing : cut.more ≡ [] = cut_fits form ls rest none j keeps cut.more [] [] cut.rest (cut.longer ∙ sym (append-nil (ls ++ cut.more))) in
          no_end j keeps (cut.longer ∙ ap (λ more. ls ++ more) nothing ∙ append-nil ls) (cut.rest ∙ ap (λ more. lines_text form more ++ []) nothing))
    ]

-- ---- the form

-- the byte that names the form
named : (f g : Form) (xs ys : List ℕ) → line_text f line.Head ++ 10 ∷ xs ≡ line_text g line.Head ++ 10 ∷ ys → get_or (line_text f line.Head ++ 10 ∷ xs) 13 0 ≡ get_or (line_text g line.Head ++ 10 ∷ ys) 13 0
named f g xs ys same = ap (λ t. get_or t 13 0) same

abbrev byte_of : Form → ℕ
byte_of forms.First = 49
byte_of forms.Second = 50
byte_of forms.Third = 51

form_byte : (form : Form) (xs : List ℕ) → get_or (line_text form line.Head ++ 10 ∷ xs) 13 0 ≡ byte_of form
form_byte forms.First xs = refl
form_byte forms.Second xs = refl
form_byte forms.Third xs = refl

abbrev form_of : ℕ → Form
form_of byte = if byte == 49 then forms.First else if byte == 50 then forms.Second else forms.Third

form_again : (form : Form) → form ≡ form_of (byte_of form)
form_again forms.First = refl
form_again forms.Second = refl
form_again forms.Third = refl

-- no two forms have the same head
one_form : (f g : Form) (xs ys : List ℕ) → line_text f line.Head ++ 10 ∷ xs ≡ line_text g line.Head ++ 10 ∷ ys → f ≡ g
one_form f g xs ys same = form_again f ∙ ap form_of (sym (form_byte f xs) ∙ named f g xs ys same ∙ form_byte g ys) ∙ sym (form_again g)

-- The bytes begin with the head of the form.
pub record HasHead (form : Form) (bytes : List ℕ) : Type 0 where
  pub behind : List ℕ
  pub is : bytes ≡ line_text form line.Head ++ 10 ∷ behind

pub same_form : (f g : Form) (bytes : List ℕ) → HasHead f bytes → HasHead g bytes → f ≡ g
same_form f g bytes a b = one_form f g a.behind b.behind (sym a.is ∙ b.is)

has_head : (form : Form) (bytes : List ℕ) (ls : List Line) (rest : List ℕ) → bytes ≡ lines_text form (line.Head ∷ ls) ++ rest → HasHead form bytes
has_head form bytes ls rest whole = record { behind = lines_text form ls ++ rest; is = whole ∙ lines_cons form line.Head ls rest }

abbrev pub behind_head : Form → History → List Line
behind_head form j = ((kinds_lines form j.kinds ++ line.Age j.age ∷ []) ++ body j) ++ line.Close (length j.steps) ∷ []

pub first_lines : (form : Form) (j : History) → journal_lines form j ≡ line.Head ∷ behind_head form j
first_lines form j = closed_lines form j

journal_head : (form : Form) (bytes : List ℕ) (j : History) (rest : List ℕ) → bytes ≡ lines_text form (journal_lines form j) ++ rest → HasHead form bytes
journal_head form bytes j rest whole = has_head form bytes (behind_head form j) rest (whole ∙ ap (λ ls. lines_text form ls ++ rest) (first_lines form j))

pub text_head : (form : Form) (bytes : List ℕ) (j : History) → bytes ≡ text_in form j → HasHead form bytes
text_head form bytes j text = journal_head form bytes j [] (text ∙ sym (append-nil (lines_text form (journal_lines form j))))

lines_head : (form : Form) (bytes : List ℕ) (n : ℕ) (ls : List Line) (rest : List ℕ) → bytes ≡ lines_text form ls ++ rest → length ls ≡ n + 1 → BeginJournal form ls → HasHead form bytes
lines_head form bytes n [] rest whole counted begin = absurd (omega (arith, counted))
lines_head form bytes n (l ∷ ls) rest whole counted begin =
    let first : line.Head ≡ l = same_head line.Head l (behind_head form begin.journal) (ls ++ begin.behind) (sym (first_lines form begin.journal) ∙ begin.are_first) in
    has_head form bytes ls rest (whole ∙ ap (λ k. lines_text form (k ∷ ls) ++ rest) (sym first))

-- one line and more that fit have the head
fit_head : (form : Form) (bytes : List ℕ) (n : ℕ) → LinesFit form bytes (n + 1) → HasHead form bytes
fit_head form bytes n fit = lines_head form bytes n fit.lines fit.behind fit.whole fit.counted fit.fit

-- The line behind lines that begin a journal is at fault, if no line fits there and it isn't the end.
fault_behind : (form : Form) (bytes : List ℕ) (ls : List Line) (rest : List ℕ) → HasHead form bytes → bytes ≡ lines_text form ls ++ rest → BeginJournal form ls → NoLineFits form ls rest → IsNoEnd form ls rest → IsFirstFault bytes (length ls + 1)
fault_behind form bytes ls rest head whole begin none no_end =
    let are = begin_lines form ls begin in
    let no_fit = no_line_fits form bytes ls rest whole are none in
    let no_text = no_journal form bytes ls rest whole are none no_end in
    record {
      before = length ls;
      counted = refl;
      fit = record { form = form; fit = record { lines = ls; behind = rest; whole = whole; counted = refl; fit = begin } };
      fits_not = λ fit. subst (λ g. LinesFit g bytes (length ls + 1) → ⊥) (same_form form fit.form bytes head (fit_head fit.form bytes (length ls) fit.fit)) no_fit fit.fit;
      no_journal = λ g j keeps text. subst (λ f. KeepsRulesIn f j → bytes ≡ text_in f j → ⊥) (same_form form g bytes head (text_head g bytes j text)) (no_text j) keeps text;
    }

-- ---- behind a draft

only_so : {A : Type 0} (b : Bool) (x : A) → b ≡ true → only_if b x ≡ Some x
only_so b x is = ap (λ t. only_if t x) is

-- a journal is what its close completes
closed_completed : (form : Form) (j : History) → KeepsRulesIn form j → completed j (line.Close (length j.steps) ∷ []) ≡ Some j
unfolding completed
closed_completed form j keeps = only_so (not (is_empty j.tenants) && (length j.steps == length j.steps) && true) j (rw (has_tenants form j keeps, eq-eqb (length j.steps) (length j.steps) refl) refl)

-- the first lines of a journal, and those behind them
start_first : (form : Form) (j : History) → journal_lines form j ≡ start_lines form j.kinds j.age ++ (body j ++ line.Close (length j.steps) ∷ [])
start_first form j = closed_lines form j ∙ append_assoc (start_lines form j.kinds j.age) (body j) (line.Close (length j.steps) ∷ [])

-- What the same lines say that begin with the first ones.
record SameStart (m n a b : ℕ) (xs ys : List Line) : Type 0 where
  kinds : m ≡ n
  age : a ≡ b
  behind : xs ≡ ys

same_start : (form : Form) (m n a b : ℕ) (xs ys : List Line) → (tells_kinds form ≡ false → m ≡ n) → start_lines form m a ++ xs ≡ start_lines form n b ++ ys → SameStart m n a b xs ys
same_start forms.First m n a b xs ys untold e = record { kinds = untold refl; age = cc; behind = cc }
same_start forms.Second m n a b xs ys untold e = record { kinds = cc; age = cc; behind = cc }
same_start forms.Third m n a b xs ys untold e = record { kinds = cc; age = cc; behind = cc }

-- the lines of a journal that stand behind a draft's complete the draft to the journal
pub journal_completed : (form : Form) (j d : History) (lines : List Line) → KeepsRulesIn form j → IsDraft form d → journal_lines form j ≡ lines_so_far form d ++ lines → completed d lines ≡ Some j
journal_completed form j d lines keeps is same =
    let close : List Line = line.Close (length j.steps) ∷ [] in
    let whole = sym (start_first form j) ∙ same ∙ append_assoc (start_lines form d.kinds d.age) (body d) lines in
    let parts = same_start form j.kinds d.kinds j.age d.age (body j ++ close) (body d ++ lines) (λ untold. (keeps.untold untold).0 ∙ sym (is.untold untold).0) whole in
    let along : completed (empty j.kinds j.age) (body j ++ close) ≡ completed (empty d.kinds d.age) (body d ++ lines) = (λ i. completed (empty (parts.kinds i) (parts.age i)) (parts.behind i)) in
    sym (body_completed form d is lines) ∙ sym along ∙ body_completed form j (journal_is_draft form j keeps) close ∙ closed_completed form j keeps

-- The rest begins with no line that completes the draft.
abbrev pub CompletesNothing : (form : Form) → History → List ℕ → Type 0
CompletesNothing form d rest = (l : Line) (more : List Line) (behind : List ℕ) → IsLine form l → rest ≡ line_text form l ++ 10 ∷ behind → completed d (l ∷ more) ≡ None

draft_head : (form : Form) (bytes : List ℕ) (d : History) (rest : List ℕ) → bytes ≡ lines_text form (lines_so_far form d) ++ rest → HasHead form bytes
draft_head form bytes d rest whole = has_head form bytes ((kinds_lines form d.kinds ++ line.Age d.age ∷ []) ++ body d) rest whole

-- the line behind a draft is at fault, if it completes nothing
pub fault_in_draft : (form : Form) (bytes : List ℕ) (d : History) (rest : List ℕ) → bytes ≡ lines_text form (lines_so_far form d) ++ rest → IsDraft form d → length d.steps < 2 ^ 64 → CompletesNothing form d rest → IsFirstFault bytes (length (lines_so_far form d) + 1)
unfolding completed
fault_in_draft form bytes d rest whole is small nothing =
    fault_behind form bytes (lines_so_far form d) rest (draft_head form bytes d rest whole) whole (draft_begins form d is small)
    (λ j l more behind keeps also begins same. some_none (completed d (l ∷ more)) j (nothing l more behind also begins) (journal_completed form j d (l ∷ more) keeps is same))
    (λ j keeps same end. some_none (completed d []) j refl (journal_completed form j d [] keeps is (same ∙ sym (append-nil (lines_so_far form d)))))

counted_on : (form : Form) (d : History) → length (journal_lines form d) + 1 ≡ length (lines_so_far form d) + 2
counted_on form d = omega (arith, ap length (closed_lines form d), length-append (lines_so_far form d) (line.Close (length d.steps) ∷ []))

-- the line behind the close is at fault
pub fault_behind_close : (form : Form) (bytes : List ℕ) (d : History) (rest : List ℕ) → bytes ≡ lines_text form (journal_lines form d) ++ rest → IsDraft form d → KeepsRulesIn form d → (rest ≡ [] → ⊥) → IsFirstFault bytes (length (lines_so_far form d) + 2)
unfolding completed
fault_behind_close form bytes d rest whole is keeps more_bytes =
    let begin : BeginJournal form (journal_lines form d) = record { journal = d; behind = []; keeps = keeps; are_first = sym (append-nil (journal_lines form d)) } in
    let close = line.Close (length d.steps) in
    let fault = fault_behind form bytes (journal_lines form d) rest (journal_head form bytes d rest whole) whole begin
    (λ j l more behind also is_line begins same. some_none (completed d (close ∷ l ∷ more)) j (ap (λ b. only_if b d) (and-false (close_fits d (length d.steps)))) (journal_completed form j d (close ∷ l ∷ more) also is (same ∙ ap (λ lines. lines ++ l ∷ more) (closed_lines form d) ∙ append_assoc (lines_so_far form d) (close ∷ []) (l ∷ more))))
    (λ j also same end. more_bytes end) in
    subst (IsFirstFault bytes) (counted_on form d) fault

-- ---- at the close

within : (form : Form) (d : History) → length d.steps ≤ length (lines_so_far form d)
within form d =
    let l2 : List Line = map kind_line d.ages ++ map tenant_line d.tenants in
    let l3 : List Line = l2 ++ map line.Step d.steps in
    let l4 : List Line = l3 ++ map line.Reply d.replies in
    let all = length-append (start_lines form d.kinds d.age) (l4 ++ map row_line d.rows) in
    let rows = length-append l4 (map row_line d.rows) in
    let replies = length-append l3 (map line.Reply d.replies) in
    let steps = length-append l2 (map line.Step d.steps) in
    omega (arith, all, rows, replies, steps, length-map d.steps line.Step)

steps_small : (form : Form) (d : History) → length (lines_so_far form d) < 2 ^ 64 → length d.steps < 2 ^ 64
steps_small form d small = omega (arith, within form d, small)

-- the rest begins with a line that completes nothing
unfit_line : (form : Form) (d : History) (m : Line) (rest behind : List ℕ) → IsLine form m → rest ≡ line_text form m ++ 10 ∷ behind → ((more : List Line) → completed d (m ∷ more) ≡ None) → CompletesNothing form d rest
unfit_line form d m rest behind is begins unfit l more other also same =
    let one : m ≡ l = (one_first form m l behind other is also (sym begins ∙ same)).0 in
    subst (λ k. completed d (k ∷ more) ≡ None) one (unfit more)

-- a close that doesn't fit is at fault
pub fault_at_close : (form : Form) (d : History) (steps : ℕ) (behind : List ℕ) → IsDraft form d → length (lines_so_far form d) < 2 ^ 64 → steps < 2 ^ 64 → close_fits d steps ≡ false → IsFirstFault (lines_text form (lines_so_far form d) ++ (line_text form (line.Close steps) ++ 10 ∷ behind)) (length (lines_so_far form d) + 1)
unfolding completed
fault_at_close form d steps behind is small is_line wrong =
    let rest : List ℕ = line_text form (line.Close steps) ++ 10 ∷ behind in
    fault_in_draft form (lines_text form (lines_so_far form d) ++ rest) d rest refl is (steps_small form d small)
    (unfit_line form d (line.Close steps) rest behind is_line refl (λ more. ap (λ b. only_if (b && is_empty more) d) wrong))

-- What a close that fits says.
record CloseFits (d : History) (steps : ℕ) : Type 0 where
  some : not (is_empty d.tenants) ≡ true
  counted : steps ≡ length d.steps

close_says : (d : History) (steps : ℕ) → close_fits d steps ≡ true → CloseFits d steps
close_says d steps fits = record {
  some = first_so (not (is_empty d.tenants)) (steps == length d.steps) fits;
  counted = eqb-true steps (length d.steps) (second_so (not (is_empty d.tenants)) (steps == length d.steps) fits);
}

-- a draft whose close fits keeps the rules of a journal
pub close_keeps : (form : Form) (d : History) (steps : ℕ) → IsDraft form d → length (lines_so_far form d) < 2 ^ 64 → close_fits d steps ≡ true → KeepsRulesIn form d
close_keeps form d steps is small fits = closed_keeps form d.kinds d.age d.ages d.tenants d.steps d.replies d.rows is (close_says d steps fits).some (steps_small form d small)

-- its text is the draft's and the close's
pub close_text : (form : Form) (d : History) (steps : ℕ) (behind : List ℕ) → close_fits d steps ≡ true → lines_text form (lines_so_far form d) ++ (line_text form (line.Close steps) ++ 10 ∷ behind) ≡ text_in form d ++ behind
close_text form d steps behind fits =
    let counted = (close_says d steps fits).counted in
    let close : List Line = line.Close (length d.steps) ∷ [] in
    ap (λ n. lines_text form (lines_so_far form d) ++ (line_text form (line.Close n) ++ 10 ∷ behind)) counted
    ∙ ap (λ text. lines_text form (lines_so_far form d) ++ text) (sym (lines_cons form (line.Close (length d.steps)) [] behind))
    ∙ sym (append_assoc (lines_text form (lines_so_far form d)) (lines_text form close) behind)
    ∙ ap (λ text. text ++ behind) (sym (lines_text-append form (lines_so_far form d) close) ∙ ap (lines_text form) (sym (closed_lines form d)))

-- what stands behind a close that fits is at fault
pub fault_behind_fit : (form : Form) (d : History) (steps : ℕ) (behind : List ℕ) → IsDraft form d → length (lines_so_far form d) < 2 ^ 64 → close_fits d steps ≡ true → (behind ≡ [] → ⊥) → IsFirstFault (lines_text form (lines_so_far form d) ++ (line_text form (line.Close steps) ++ 10 ∷ behind)) (length (lines_so_far form d) + 2)
fault_behind_fit form d steps behind is small fits more =
    fault_behind_close form (lines_text form (lines_so_far form d) ++ (line_text form (line.Close steps) ++ 10 ∷ behind)) d behind (close_text form d steps behind fits) is (close_keeps form d steps is small fits) more

-- ---- in the parts

-- bytes that begin with no line are at fault behind a draft
pub fault_without_line : (form : Form) (bytes : List ℕ) (d : History) (rest : List ℕ) → bytes ≡ lines_text form (lines_so_far form d) ++ rest → IsDraft form d → length (lines_so_far form d) < 2 ^ 64 → BeginsWithLine form rest None → IsFirstFault bytes (length (lines_so_far form d) + 1)
fault_without_line form bytes d rest whole is small none =
    fault_in_draft form bytes d rest whole is (steps_small form d small) (λ l more behind also same. absurd (none l behind also same))

not_added : (d : History) (m : Line) → ((steps : ℕ) → m ≡ line.Close steps → ⊥) → added d m ≡ None → (more : List Line) → completed d (m ∷ more) ≡ None
unfolding completed
not_added d (line.Close steps) apart none more = absurd (apart steps refl)
not_added d m apart none more = ap (option_and_then (λ e. completed e more)) none

-- a line that isn't added is at fault behind a draft
pub fault_not_added : (form : Form) (bytes : List ℕ) (d : History) (m : Line) (rest behind : List ℕ) → bytes ≡ lines_text form (lines_so_far form d) ++ rest → IsDraft form d → length (lines_so_far form d) < 2 ^ 64 → IsLine form m → rest ≡ line_text form m ++ 10 ∷ behind → ((steps : ℕ) → m ≡ line.Close steps → ⊥) → added d m ≡ None → IsFirstFault bytes (length (lines_so_far form d) + 1)
fault_not_added form bytes d m rest behind whole is small is_line begins apart none =
    fault_in_draft form bytes d rest whole is (steps_small form d small) (unfit_line form d m rest behind is_line begins (not_added d m apart none))

-- ---- in the first lines

one_kinds : (form : Form) → AreKinds form 1
one_kinds form = ((lit≤ tt, lit≤ tt), λ untold. refl)

-- first lines begin a journal
start_begins : (form : Form) (kinds : ℕ) → AreKinds form kinds → BeginJournal form (start_lines form kinds 1)
start_begins form kinds are = begin_front form (start_lines form kinds 1) [] (draft_begins form (empty kinds 1) (empty_is_draft form kinds 1 are (lit≤ tt, lit≤ tt)) (lit< tt))

-- bytes that begin with no head
pub fault_without_head : (bytes : List ℕ) → BeginsWithHead bytes None → IsFirstFault bytes 1
fault_without_head bytes none = record {
  before = 0;
  counted = refl;
  fit = record { form = newest; fit = record { lines = []; behind = bytes; whole = refl; counted = refl; fit = begin_front newest [] (start_lines newest 1 1) (start_begins newest 1 (one_kinds newest)) } };
  fits_not = λ fit. let head = fit_head fit.form bytes 0 fit.fit in none fit.form head.behind head.is;
  no_journal = λ form j keeps text. let head = text_head form bytes j text in none form head.behind head.is;
}

-- which logic the kinds have stands behind the head, in a form that tells it
kinds_next : (form : Form) (m a : ℕ) (xs more : List Line) (l : Line) → tells_kinds form ≡ true → start_lines form m a ++ xs ≡ line.Head ∷ l ∷ more → line.Kinds m ≡ l
kinds_next forms.First m a xs more l tells e = absurd (true≢false (sym tells))
kinds_next forms.Second m a xs more l tells e = cc
kinds_next forms.Third m a xs more l tells e = cc

-- the age stands behind the head, or behind the logic
age_next : (form : Form) (m n a : ℕ) (xs more : List Line) (l : Line) → start_lines form m a ++ xs ≡ line.Head ∷ kinds_lines form n ++ l ∷ more → line.Age a ≡ l
age_next forms.First m n a xs more l e = cc
age_next forms.Second m n a xs more l e = cc
age_next forms.Third m n a xs more l e = cc

-- a journal has more lines than these
not_whole : (form : Form) (m n a : ℕ) (xs : List Line) → start_lines form m a ++ xs ≡ line.Head ∷ kinds_lines form n → ⊥
not_whole forms.First m n a xs e = absurd cc
not_whole forms.Second m n a xs e = absurd cc
not_whole forms.Third m n a xs e = absurd cc

head_alone : (form : Form) (m a : ℕ) (xs : List Line) → start_lines form m a ++ xs ≡ line.Head ∷ [] → ⊥
head_alone forms.First m a xs e = absurd cc
head_alone forms.Second m a xs e = absurd cc
head_alone forms.Third m a xs e = absurd cc

-- bytes that don't tell behind the head which logic the kinds have
pub fault_without_kinds : (form : Form) (bytes rest : List ℕ) → bytes ≡ line_text form line.Head ++ 10 ∷ rest → tells_kinds form ≡ true → BeginsWithKinds form rest None → IsFirstFault bytes 2
fault_without_kinds form bytes rest whole tells none =
    fault_behind form bytes (line.Head ∷ []) rest (record { behind = rest; is = whole }) (whole ∙ sym (lines_cons form line.Head [] rest))
    (begin_front form (line.Head ∷ []) (kinds_lines form 1 ++ line.Age 1 ∷ []) (start_begins form 1 (one_kinds form)))
    (λ j l more behind keeps is same lines.
    (let second : line.Kinds j.kinds ≡ l = kinds_next form j.kinds j.age _ more l tells (sym (start_first form j) ∙ lines) in
    none j.kinds behind keeps.kinds (same ∙ ap (λ k. line_text form k ++ 10 ∷ behind) (sym second))))
    (λ j keeps lines end. head_alone form j.kinds j.age _ (sym (start_first form j) ∙ lines))

-- bytes that don't tell an age behind that
pub fault_without_age : (form : Form) (kinds : ℕ) (bytes rest : List ℕ) → AreKinds form kinds → bytes ≡ lines_text form (line.Head ∷ kinds_lines form kinds) ++ rest → BeginsWithAge form rest None → IsFirstFault bytes (length (kinds_lines form kinds) + 2)
fault_without_age form kinds bytes rest are whole none =
    let number : length (line.Head ∷ kinds_lines form kinds) + 1 ≡ length (kinds_lines form kinds) + 2 = omega arith in
    subst (IsFirstFault bytes) number
    (fault_behind form bytes (line.Head ∷ kinds_lines form kinds) rest (has_head form bytes (kinds_lines form kinds) rest whole) whole
    (begin_front form (line.Head ∷ kinds_lines form kinds) (line.Age 1 ∷ []) (start_begins form kinds are))
    (λ j l more behind keeps is same lines.
    (let third : line.Age j.age ≡ l = age_next form j.kinds kinds j.age _ more l (sym (start_first form j) ∙ lines) in
    none j.age behind (subst (IsLine form) (sym third) is) (same ∙ ap (λ k. line_text form k ++ 10 ∷ behind) (sym third))))
    (λ j keeps lines end. not_whole form j.kinds kinds j.age _ (sym (start_first form j) ∙ lines)))

-- ---- one first fault

front_fits : (form : Form) (bytes : List ℕ) (less more : ℕ) → less ≤ more → LinesFit form bytes more → LinesFit form bytes less
front_fits form bytes less more below fit =
    let front = take less fit.lines in
    let back = drop less fit.lines in
    let parted : fit.lines ≡ front ++ back = sym (take-append-drop less fit.lines) in
    record {
      lines = front;
      behind = lines_text form back ++ fit.behind;
      whole = fit.whole ∙ ap (λ lines. lines_text form lines ++ fit.behind) parted ∙ ap (λ text. text ++ fit.behind) (lines_text-append form front back) ∙ append_assoc (lines_text form front) (lines_text form back) fit.behind;
      counted = omega (arith, length-take less fit.lines, fit.counted, below);
      fit = begin_front form front back (subst (BeginJournal form) parted fit.fit);
    }

not_later : (bytes : List ℕ) (m n : ℕ) → IsFirstFault bytes m → IsFirstFault bytes n → m < n → ⊥
not_later bytes m n one other later = one.fits_not (record { form = other.fit.form; fit = front_fits other.fit.form bytes m other.before (omega (arith, other.counted, later)) other.fit.fit })

same_by_order : (m n : ℕ) → n ≤ m → m ≤ n → m ≡ n
same_by_order m n a b = omega arith

pub one_fault : (bytes : List ℕ) (m n : ℕ) → IsFirstFault bytes m → IsFirstFault bytes n → m ≡ n
one_fault bytes m n one other =
    elim (cases_lt m n) [
      | inl below ↦ absurd (not_later bytes m n one other below)
      | inr above ↦
          (elim (cases_lt n m) [
            | inl below ↦ absurd (not_later bytes n m other one below)
            | inr equal ↦ same_by_order m n above equal
          ])
    ]
