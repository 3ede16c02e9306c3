-- The version of the logic that the second line of a journal names.
use Rattle.journal_text.proofs.Common.{◌≡◌, ◌∷◌, ◌++◌, ◌∙◌, ℕ, List, [], true, false, true≢false, ap, refl, sym, subst, length, Form, History, IsKinds, IsLine, KeepsRulesIn, Line, body, line_text, lines_text, tells_kinds, text_in}
use Rattle.std.proofs.Common.{Bool, None, arith, ◌≤◌, IsTrue}
use Rattle.journal_text.specs.declared.form.Form.TheVariants as forms
use Rattle.journal_text.specs.declared.line.Line.TheVariants as line
use Rattle.journal_text.specs.JournalAnswers.{IsJournalText, NamesKinds}
use Rattle.journal_text.specs.inside.Answers.{BeginsWithHead, BeginsWithKinds}
use Rattle.journal_text.proofs.Lines.{lines_text-append}
use Rattle.journal_text.proofs.LinesCut.{lines_cons, one_first}
use Rattle.journal_text.proofs.Faults.{HasHead, first_lines, same_form, text_head}

-- the head and the line that names the version
abbrev named : ℕ → List Line
named kinds = line.Head ∷ line.Kinds kinds ∷ []

named_cons : (form : Form) (kinds : ℕ) (behind : List ℕ) → lines_text form (named kinds) ++ behind ≡ line_text form line.Head ++ 10 ∷ (line_text form (line.Kinds kinds) ++ 10 ∷ behind)
named_cons form kinds behind =
    lines_cons form line.Head (line.Kinds kinds ∷ []) behind
    ∙ ap (λ t. line_text form line.Head ++ 10 ∷ t) (lines_cons form (line.Kinds kinds) [] behind)

pub names : (form : Form) (kinds : ℕ) (bytes rest behind : List ℕ) → IsTrue (tells_kinds form) → IsKinds kinds → bytes ≡ line_text form line.Head ++ 10 ∷ rest → rest ≡ line_text form (line.Kinds kinds) ++ 10 ∷ behind → NamesKinds bytes kinds
names form kinds bytes rest behind tells is head told = record {
  form = form;
  behind = behind;
  tells = tells;
  is = is;
  begins = head ∙ ap (λ t. line_text form line.Head ++ 10 ∷ t) told ∙ sym (named_cons form kinds behind);
}

begins_head : (bytes : List ℕ) (kinds : ℕ) (n : NamesKinds bytes kinds) → bytes ≡ line_text n.form line.Head ++ 10 ∷ (line_text n.form (line.Kinds kinds) ++ 10 ∷ n.behind)
begins_head bytes kinds n = n.begins ∙ named_cons n.form kinds n.behind

head_of : (bytes : List ℕ) (kinds : ℕ) (n : NamesKinds bytes kinds) → HasHead n.form bytes
head_of bytes kinds n = record { behind = line_text n.form (line.Kinds kinds) ++ 10 ∷ n.behind; is = begins_head bytes kinds n }

-- without a head no version is named
pub no_head_names : (bytes : List ℕ) → BeginsWithHead bytes None → (kinds : ℕ) → NamesKinds bytes kinds → ⊥
no_head_names bytes none kinds n = none n.form (line_text n.form (line.Kinds kinds) ++ 10 ∷ n.behind) (begins_head bytes kinds n)

-- the form whose head the bytes have is the one that names it
pub one_names : (form : Form) (bytes rest : List ℕ) → bytes ≡ line_text form line.Head ++ 10 ∷ rest → (kinds : ℕ) (n : NamesKinds bytes kinds) → n.form ≡ form
one_names form bytes rest head kinds n = same_form n.form form bytes (head_of bytes kinds n) (record { behind = rest; is = head })

-- What stands behind the head begins with the line that names the version.
line_names : (form : Form) (bytes rest : List ℕ) → bytes ≡ line_text form line.Head ++ 10 ∷ rest → (kinds : ℕ) (behind : List ℕ) → bytes ≡ lines_text form (named kinds) ++ behind → rest ≡ line_text form (line.Kinds kinds) ++ 10 ∷ behind
line_names form bytes rest head kinds behind begins =
    (one_first form line.Head line.Head rest (line_text form (line.Kinds kinds) ++ 10 ∷ behind) tt tt (sym head ∙ begins ∙ named_cons form kinds behind)).1

-- no other form names one, and neither does a form whose journals don't tell it
pub untold_names : (form : Form) (bytes rest : List ℕ) → bytes ≡ line_text form line.Head ++ 10 ∷ rest → tells_kinds form ≡ false → (kinds : ℕ) → NamesKinds bytes kinds → ⊥
untold_names form bytes rest head untold kinds n = true≢false (sym n.tells ∙ ap tells_kinds (one_names form bytes rest head kinds n) ∙ untold)

-- without its line no version is named
pub no_line_names : (form : Form) (bytes rest : List ℕ) → bytes ≡ line_text form line.Head ++ 10 ∷ rest → BeginsWithKinds form rest None → (kinds : ℕ) → NamesKinds bytes kinds → ⊥
no_line_names form bytes rest head none kinds n =
    none kinds n.behind n.is (line_names form bytes rest head kinds n.behind (subst (λ f. bytes ≡ lines_text f (named kinds) ++ n.behind) (one_names form bytes rest head kinds n) n.begins))

-- ---- of a journal's text

-- how the text of a journal of such a form begins
record Told (form : Form) (bytes : List ℕ) (kinds : ℕ) : Type 0 where
  pub behind : List ℕ
  pub begins : bytes ≡ lines_text form (named kinds) ++ behind

told_behind : (form : Form) (bytes : List ℕ) (kinds : ℕ) (lines : List Line) → bytes ≡ lines_text form (line.Head ∷ line.Kinds kinds ∷ lines) → Told form bytes kinds
told_behind form bytes kinds lines is = record { behind = lines_text form lines; begins = is ∙ lines_text-append form (named kinds) lines }

told : (form : Form) (bytes : List ℕ) (j : History) → tells_kinds form ≡ true → bytes ≡ text_in form j → Told form bytes j.kinds
told forms.First bytes j tells text = absurd (true≢false (sym tells))
told forms.Second bytes j tells text =
    told_behind forms.Second bytes j.kinds (line.Age j.age ∷ (body j ++ line.Close (length j.steps) ∷ [])) (text ∙ ap (lines_text forms.Second) (first_lines forms.Second j))
told forms.Third bytes j tells text =
    told_behind forms.Third bytes j.kinds (line.Age j.age ∷ (body j ++ line.Close (length j.steps) ∷ [])) (text ∙ ap (lines_text forms.Third) (first_lines forms.Third j))

same_kinds : (m n : ℕ) → line.Kinds m ≡ line.Kinds n → m ≡ n
same_kinds m n e = cc

one_told : (form : Form) (bytes : List ℕ) (m n : ℕ) → IsLine form (line.Kinds m) → IsLine form (line.Kinds n) → Told form bytes m → Told form bytes n → m ≡ n
one_told form bytes m n is also a b =
    let rest : List ℕ = line_text form (line.Kinds n) ++ 10 ∷ b.behind in
    let told_m : rest ≡ line_text form (line.Kinds m) ++ 10 ∷ a.behind = line_names form bytes rest (b.begins ∙ named_cons form n b.behind) m a.behind a.begins in
    same_kinds m n (one_first form (line.Kinds m) (line.Kinds n) a.behind b.behind is also (sym told_m)).0

-- A journal is of the version that its text names, and of the first if that names none.
pub names_own : (bytes : List ℕ) (j : History) → IsJournalText bytes j → (kinds : ℕ) → NamesKinds bytes kinds → kinds ≡ j.kinds
names_own bytes j is kinds n =
    let same : n.form ≡ is.form = same_form n.form is.form bytes (head_of bytes kinds n) (text_head is.form bytes j is.text) in
    let tells : tells_kinds is.form ≡ true = sym (ap tells_kinds same) ∙ n.tells in
    let own : Told is.form bytes kinds = subst (λ f. Told f bytes kinds) same (record { behind = n.behind; begins = n.begins }) in
    one_told is.form bytes kinds j.kinds (tells, n.is) (tells, is.keeps.kinds) own (told is.form bytes j tells is.text)

within : (form : Form) (bytes : List ℕ) (j : History) (most : ℕ) (tells : Bool) → tells_kinds form ≡ tells → KeepsRulesIn form j → bytes ≡ text_in form j → 1 ≤ most → ((kinds : ℕ) → NamesKinds bytes kinds → kinds ≤ most) → (1 ≤ j.kinds) × (j.kinds ≤ most)
within form bytes j most true tells keeps text some all =
    let own = told form bytes j tells text in
    (keeps.kinds.0, all j.kinds (record { form = form; behind = own.behind; tells = tells; is = keeps.kinds; begins = own.begins }))
within form bytes j most false untold keeps text some all = (keeps.kinds.0, omega (arith, (keeps.untold untold).0, some))

-- the version of a journal whose text names none above a number
pub version_within : (bytes : List ℕ) (j : History) (most : ℕ) → IsJournalText bytes j → 1 ≤ most → ((kinds : ℕ) → NamesKinds bytes kinds → kinds ≤ most) → (1 ≤ j.kinds) × (j.kinds ≤ most)
version_within bytes j most is = within is.form bytes j most (tells_kinds is.form) refl is.keeps is.text
