-- What no type keeps of a checkpoint's parts is so, if another checkpoint says the same.
use Rattle.std.proofs.Common.{◌≡◌, ◌&&◌, ℕ, Bool, true, false, cond, true≢false, Option, Some, List, [], ◌∷◌, ◌++◌, ap, refl, subst, sym, ◌∙◌}
use Rattle.std.specs.Prelude.{is_some}
use Rattle.std.specs.Cmp.{first_so, second_so}
use Rattle.std.specs.FinMap.{find, from_entries, get, get-from_entries}
use Rattle.std.specs.List.{list_all}
use Rattle.std.specs.Ordering.{eq_by_cmp}
use Rattle.std.proofs.lemmas.Bool.{and_from}
use Rattle.grain_id.specs.Names.{text_cmp}
use Rattle.grain_id.specs.Order.{eq_by_cmp-Decides, text_cmp_exact, text_cmp_total}
use Rattle.grain_id.specs.Words.{is_name_byte, is_word}
use Rattle.tenant_accounts.specs.Kept.{KeptAccount}
use Rattle.silo_model.specs.Opening.{Kept}
use Rattle.journal_text.specs.JournalAnswers.{IsJournalText}
use Rattle.journal_text.specs.RecordedFault.{is_text_byte}
use Rattle.journal_text.specs.Rules.{IsLine}
use Rattle.journal_text.specs.Text.{History, journal_lines, line_text}
use Rattle.journal_text.specs.declared.form.Form.{Form}
use Rattle.journal_text.specs.declared.line.Line.{Line}
use Rattle.journal_text.proofs.Cuts.{pass_weaker}
use Rattle.journal_text.proofs.LinesBack.{line_back}
use Rattle.checkpoint_text.specs.Rules.{has_word, is_ascii_byte, is_spelled}
use Rattle.checkpoint_text.specs.Text.{Checkpoint}
use Rattle.checkpoint_text.proofs.Ascii.{ascii_byte, both, each}
use Rattle.checkpoint_text.proofs.Standing.{words}
use Rattle.silo_checkpoint.specs.Saved.{HasText, Saved, kept_of}

abbrev Accounts : Type 0
Accounts = List (List ℕ × KeptAccount)

-- whether an account has the name
abbrev has : List ℕ → Accounts → Bool
has name accounts = is_some (find text_cmp name accounts)

-- ---- an account's name is one of the accounts

known_at : (name : List ℕ) (a : List ℕ × KeptAccount) (accounts : Accounts) (b : Bool) → eq_by_cmp text_cmp name a.0 ≡ b → (has name accounts ≡ true → is_word name ≡ true) → is_some (cond b (Some a.1) (find text_cmp name accounts)) ≡ true → has_word a ≡ true → is_word name ≡ true
known_at name a accounts true same rest some word = ap is_word ((eq_by_cmp-Decides text_cmp_total text_cmp_exact name a.0).0 same) ∙ word
known_at name a accounts false other rest some word = rest some

-- a name that an account has is a word, if all of them are
known : (name : List ℕ) (accounts : Accounts) → list_all has_word accounts ≡ true → has name accounts ≡ true → is_word name ≡ true
known name [] all some = absurd (true≢false (sym some))
known name (a ∷ accounts) all some =
    known_at name a accounts (eq_by_cmp text_cmp name a.0) refl (known name accounts (second_so (has_word a) (list_all has_word accounts) all)) some
    (first_so (has_word a) (list_all has_word accounts) all)

some_more : {X : Type 0} (b : Bool) (x : X) (found : Option X) → is_some found ≡ true → is_some (cond b (Some x) found) ≡ true
some_more true x found is = refl
some_more false x found is = is

-- each name of an account is had by one
each_word : (accounts : Accounts) → ((name : List ℕ) → has name accounts ≡ true → is_word name ≡ true) → list_all has_word accounts ≡ true
each_word [] holds = refl
each_word (a ∷ accounts) holds =
    and_from (has_word a) (list_all has_word accounts)
    (holds a.0 (ap (λ b. is_some (cond b (Some a.1) (find text_cmp a.0 accounts))) ((eq_by_cmp-Decides text_cmp_total text_cmp_exact a.0 a.0).1 refl)))
    (each_word accounts (λ name is. holds name (some_more (eq_by_cmp text_cmp name a.0) a.1 (find text_cmp name accounts) is)))

-- names that are those of another list are words, if those are
same_words : (accounts others : Accounts) → from_entries {R = text_cmp} accounts ≡ from_entries others → list_all has_word others ≡ true → list_all has_word accounts ≡ true
same_words accounts others same all =
    each_word accounts (λ name is.
    known name others all
    (ap is_some (sym (get-from_entries text_cmp_total others name) ∙ ap (λ m. get m name) (sym same) ∙ get-from_entries text_cmp_total accounts name) ∙ is))

-- ---- a journal is of ASCII

ascii_line : (form : Form) (l : Line) → IsLine form l → list_all is_ascii_byte (line_text form l ++ 10 ∷ []) ≡ true
ascii_line form l is = both (line_text form l) (10 ∷ []) (pass_weaker is_text_byte is_ascii_byte ascii_byte (line_text form l) (line_back form l is).plain) refl

pub ascii_journal : (bytes : List ℕ) (j : History) → IsJournalText bytes j → list_all is_ascii_byte bytes ≡ true
ascii_journal bytes j is =
    subst (λ (bs : List ℕ). list_all is_ascii_byte bs ≡ true) (sym is.text)
    (each (λ l. line_text is.form l ++ 10 ∷ []) (IsLine is.form) (ascii_line is.form) (journal_lines is.form j) is.keeps.lines)

-- ---- the whole

pub spelled : (bytes : List ℕ) (saved : Saved) → HasText bytes saved → (d : Checkpoint) → d.follows ≡ saved.follows → kept_of d ≡ saved.setup.kept → (j : History) → IsJournalText d.journal j → is_spelled d ≡ true
spelled bytes saved text d follows kept j is =
    and_from (list_all is_name_byte d.follows && list_all has_word d.accounts) (list_all is_ascii_byte d.journal)
    (and_from (list_all is_name_byte d.follows) (list_all has_word d.accounts)
    (subst (λ (bs : List ℕ). list_all is_name_byte bs ≡ true) (text.follows ∙ sym follows) text.is.follows)
    (same_words d.accounts text.checkpoint.accounts (ap (λ (k : Kept). k.accounts) (kept ∙ text.kept)) (words text.checkpoint.accounts text.is.accounts)))
    (ascii_journal d.journal j is)
