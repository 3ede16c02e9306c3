-- Reading a journal line by line.
use Rattle.std.proofs.Common.{◌≡◌, ℕ, ◌+◌, ◌≤◌, true, false, if◌then◌else◌, List, [], ◌∷◌, ◌++◌, length, Some, Err, ap, sym, subst, ◌∙◌, arith}
use Rattle.journal_text.proofs.Common.{append_assoc, append-nil, length-append, Form, LineFault, Line, tells_kinds, History, line_text, lines_text, kinds_lines, start_lines, IsAge, IsLine, lines_so_far, IsDraft, added}
use Rattle.journal_text.specs.declared.form.Form.TheVariants as forms
use Rattle.journal_text.specs.declared.fault.LineFault.TheVariants as faults
use Rattle.journal_text.specs.declared.line.Line.TheVariants as line
use Rattle.journal_text.specs.inside.Answers.{AreKinds, ReadsLine}
use Rattle.journal_text.proofs.Lines.{lines_text-append}
use Rattle.journal_text.proofs.LinesCut.{lines_cons}
use Rattle.journal_text.proofs.Drafts.{empty}
use Rattle.journal_text.proofs.Added.{empty_is_draft, added_extends}

-- a fault that is no refusal of memory
pub no_form : (form : Form) (fault : LineFault) (text : List ℕ) → fault ≡ faults.NoForm → ReadsLine form text (Err fault) → (l : Line) → IsLine form l → text ≡ line_text form l → ⊥
no_form form fault text is reads = subst (λ f. ReadsLine form text (Err f)) is reads

-- How far the bytes behind the first lines are read.
pub record Read (form : Form) (kinds age : ℕ) (all : List ℕ) (draft : History) (rest : List ℕ) (number : ℕ) : Type 0 where
  pub is_draft : IsDraft form draft
  pub whole : lines_text form (start_lines form kinds age) ++ all ≡ lines_text form (lines_so_far form draft) ++ rest
  pub counted : number ≡ length (lines_so_far form draft) + 1
  pub room : number + length rest ≤ length all + 4

one_line_more : (form : Form) (kinds : ℕ) → length (kinds_lines form kinds) ≤ 1
one_line_more forms.First kinds = omega arith
one_line_more forms.Second kinds = omega arith
one_line_more forms.Third kinds = omega arith

pub nothing_read : (form : Form) (kinds age : ℕ) (all : List ℕ) (number : ℕ) → AreKinds form kinds → IsAge age → number ≡ length (kinds_lines form kinds) + 3 → Read form kinds age all (empty kinds age) all number
nothing_read form kinds age all number are is counted =
    let start : List Line = start_lines form kinds age in
    let same : start ≡ start ++ [] = sym (append-nil start) in
    let long : length start ≡ length (kinds_lines form kinds) + 2 = length-append (line.Head ∷ kinds_lines form kinds) (line.Age age ∷ []) ∙ omega arith in
    record {
      is_draft = empty_is_draft form kinds age are is;
      whole = ap (λ lines. lines_text form lines ++ all) same;
      counted = omega (arith, counted, long, ap length same);
      room = omega (arith, counted, one_line_more form kinds);
    }

pub line_shorter : (form : Form) (m : Line) (rest behind : List ℕ) → rest ≡ line_text form m ++ 10 ∷ behind → length behind + 1 ≤ length rest
line_shorter form m rest behind begins = omega (arith, ap length begins, length-append (line_text form m) (10 ∷ behind))

pub one_read : (form : Form) (kinds age : ℕ) (all : List ℕ) (d e : History) (m : Line) (rest behind : List ℕ) (number : ℕ) → Read form kinds age all d rest number → IsLine form m → rest ≡ line_text form m ++ 10 ∷ behind → added d m ≡ Some e → Read form kinds age all e behind (number + 1)
one_read form kinds age all d e m rest behind number read is begins taken =
    let more = added_extends form d e m read.is_draft is taken in
    let text : lines_text form (lines_so_far form e) ++ behind ≡ lines_text form (lines_so_far form d) ++ rest =
    ap (λ lines. lines_text form lines ++ behind) more.lines
    ∙ ap (λ t. t ++ behind) (lines_text-append form (lines_so_far form d) (m ∷ []))
    ∙ append_assoc (lines_text form (lines_so_far form d)) (lines_text form (m ∷ [])) behind
    ∙ ap (λ t. lines_text form (lines_so_far form d) ++ t) (lines_cons form m [] behind ∙ sym begins) in
    record {
      is_draft = more.is_draft;
      whole = read.whole ∙ sym text;
      counted = omega (arith, read.counted, ap length more.lines, length-append (lines_so_far form d) (m ∷ []));
      room = omega (arith, read.room, line_shorter form m rest behind begins);
    }

-- the line that a form has for the logic, and what stands behind it
pub kinds_taken : (form : Form) (kinds : ℕ) (bytes behind : List ℕ) → tells_kinds form ≡ true → bytes ≡ line_text form (line.Kinds kinds) ++ 10 ∷ behind → bytes ≡ lines_text form (kinds_lines form kinds) ++ behind
kinds_taken form kinds bytes behind tells same =
    same ∙ sym (ap (λ b. lines_text form (if b then line.Kinds kinds ∷ [] else []) ++ behind) tells ∙ lines_cons form (line.Kinds kinds) [] behind)

-- a form that has no such line
pub none_taken : (form : Form) (bytes : List ℕ) → tells_kinds form ≡ false → bytes ≡ lines_text form (kinds_lines form 1) ++ bytes
none_taken form bytes untold = sym (ap (λ b. lines_text form (if b then line.Kinds 1 ∷ [] else []) ++ bytes) untold)

-- the head and the line of the logic
pub head_taken : (form : Form) (kinds : ℕ) (bytes rest more : List ℕ) → bytes ≡ line_text form line.Head ++ 10 ∷ rest → rest ≡ lines_text form (kinds_lines form kinds) ++ more → bytes ≡ lines_text form (line.Head ∷ kinds_lines form kinds) ++ more
head_taken form kinds bytes rest more head told =
    head ∙ ap (λ t. line_text form line.Head ++ 10 ∷ t) told ∙ sym (lines_cons form line.Head (kinds_lines form kinds) more)

-- the head, the line of the logic, and the age, one after another
pub start_taken : (form : Form) (kinds age : ℕ) (bytes rest more behind : List ℕ) → bytes ≡ line_text form line.Head ++ 10 ∷ rest → rest ≡ lines_text form (kinds_lines form kinds) ++ more → more ≡ line_text form (line.Age age) ++ 10 ∷ behind → bytes ≡ lines_text form (start_lines form kinds age) ++ behind
start_taken form kinds age bytes rest more behind head told aged =
    head_taken form kinds bytes rest more head told
    ∙ ap (λ t. lines_text form (line.Head ∷ kinds_lines form kinds) ++ t) (aged ∙ sym (lines_cons form (line.Age age) [] behind))
    ∙ sym (append_assoc (lines_text form (line.Head ∷ kinds_lines form kinds)) (lines_text form (line.Age age ∷ [])) behind)
    ∙ ap (λ t. t ++ behind) (sym (lines_text-append form (line.Head ∷ kinds_lines form kinds) (line.Age age ∷ [])))
