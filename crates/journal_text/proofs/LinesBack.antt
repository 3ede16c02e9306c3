-- Each line of a journal is read back as what it is the line of.
use Rattle.std.proofs.Common.{◌≡◌, ℕ, ◌<◌, ◌≤◌, ◌^◌, Bool, true, false, true≢false, ◌&&◌, ◌||◌, eqb, leb, ltb, List, [], ◌∷◌, ◌++◌, length, get_or, Some, Result, Ok, Err, refl, sym, ap, ◌∙◌, arith}
use Rattle.journal_text.proofs.Common.{IsTrue, decimal, codes, list_all, list_any, first_so, second_so, leb-true, le-leb, and_from, append_assoc, Tree, Grain, client_text, grain_text, same_text, is_grain, is_word, Limits, are_in_range, Row, Form, Line, IsAge, CodeAndText, is_recorded_fault, is_text_byte}
use Rattle.silo_event.specs.declared.reply.Party.{Party}
use Rattle.silo_event.specs.declared.reply.Party.TheVariants as party
use Rattle.journal_text.specs.declared.form.Form.TheVariants as forms
use Rattle.journal_text.specs.declared.line.Line.TheVariants as line
use Rattle.journal_text.specs.Form.{form_text, tells_kinds, is_code, common_codes}
use Rattle.journal_text.specs.inside.Candidates.{kinds_of, kind_of, tenant_of, recipient_of, recorded_fault_of, outcome_of, reply_of, row_of, head_of, candidate_of}
use Rattle.journal_text.specs.Text.{◌␣◌, state_text, recipient_text, outcome_text, content_text, line_text}
use Rattle.journal_text.specs.Rules.{IsKinds, IsParty, IsOutcome, IsRow, IsLine}
use Rattle.journal_text.proofs.Words.{differ}
use Rattle.journal_text.proofs.Numbers.{decimal_begins}
use Rattle.journal_text.proofs.Cuts.{IsField, cut-field}
use Rattle.journal_text.proofs.FieldsBack.{Back, plain_more, last, more, two, made, wide, number, age, version, word, client, grain, state, content}
use Rattle.journal_text.proofs.StepsBack.{line_of, step_back}

-- ---- replies

-- a number that is one of those below a limit is below it
below_here : (limit n first : ℕ) (others : List ℕ) (same : Bool) → eqb first n ≡ same → (same || list_any (λ code. eqb code n) others) ≡ true → ltb first limit ≡ true → (list_any (λ code. eqb code n) others ≡ true → n < limit) → n < limit
below_here limit n first others true same is below next = grind (arith, same, below)
below_here limit n first others false same is below next = next is

one_below : (limit n : ℕ) (numbers : List ℕ) → list_any (λ code. eqb code n) numbers ≡ true → list_all (λ code. ltb code limit) numbers ≡ true → n < limit
one_below limit n [] is below = absurd (true≢false (sym is))
one_below limit n (first ∷ others) is below =
    let rest : Bool = list_all (λ code. ltb code limit) others in
    below_here limit n first others (eqb first n) refl is (first_so (ltb first limit) rest below) (λ any. one_below limit n others any (second_so (ltb first limit) rest below))

code_small : (form : Form) (n : ℕ) → is_code form n ≡ true → n < 2 ^ 64
code_small forms.First n is = one_below (2 ^ 64) n (common_codes ++ []) is refl
code_small forms.Second n is = one_below (2 ^ 64) n (common_codes ++ []) is refl
code_small forms.Third n is = one_below (2 ^ 64) n (common_codes ++ 14 ∷ []) is refl

fault_back : (form : Form) (t : CodeAndText) → IsTrue (is_recorded_fault form t) → Back (recorded_fault_of form) (decimal t.code ␣ t.text) t
unfolding is_recorded_fault
fault_back form t is =
    let code = wide t.code (code_small form t.code (first_so (is_code form t.code) (leb 1 (length t.text)) (first_so (is_code form t.code && leb 1 (length t.text)) (list_all is_text_byte t.text) is))) in
    record {
      plain = plain_more (decimal t.code) t.text code.whole (second_so (is_code form t.code && leb 1 (length t.text)) (list_all is_text_byte t.text) is);
      is = rw (cut-field (decimal t.code) t.text code.whole, code.is, is) refl;
    }

outcome_back : (form : Form) (o : Result Tree CodeAndText) → IsOutcome form o → Back (outcome_of form) (outcome_text o) o
outcome_back form (Ok v) has =
    let b = last (state form v has) in
    record { plain = plain_more (codes "ok") (state_text v) refl b.plain; is = rw (cut-field (codes "ok") (state_text v) refl, b.is) refl }
outcome_back form (Err t) is =
    let b = fault_back form t is in
    record { plain = plain_more (codes "no") (decimal t.code ␣ t.text) refl b.plain; is = rw (cut-field (codes "no") (decimal t.code ␣ t.text) refl, b.is) refl }

reply_parts : (form : Form) (who number text : List ℕ) (p : Party) (o : Result Tree CodeAndText) → IsField who → IsField number → recipient_of who number ≡ Some p → Back (outcome_of form) text o → Back (reply_of form) ((who ␣ number) ␣ text) (record { recipient = p; outcome = o })
reply_parts form who number text p o a b for said = record {
  plain = ap (list_all is_text_byte) (append_assoc who (32 ∷ number) (32 ∷ text)) ∙ plain_more who (number ␣ text) a (plain_more number text b said.plain);
  is = ap (reply_of form) (append_assoc who (32 ∷ number) (32 ∷ text)) ∙ rw (cut-field who (number ␣ text) a, cut-field number text b, for, said.is) refl;
}

no_dash : (n : ℕ) → n < 2 ^ 63 → same_text (decimal n) (codes "-") ≡ false
no_dash n small = differ (decimal n) (codes "-") (λ e. omega (arith, decimal_begins n (omega (arith, small)), ap (λ t. get_or t 0 0) e))

reply_back : (form : Form) (p : Party) (o : Result Tree CodeAndText) → IsParty p → IsOutcome form o → Back (reply_of form) (recipient_text p ␣ outcome_text o) (record { recipient = p; outcome = o })
reply_back form (party.Client c n) o whose is = reply_parts form (client_text c) (decimal n) (outcome_text o) _ o (client c whose.0).whole (number n whose.1).whole (rw (no_dash n whose.1, (client c whose.0).is, (number n whose.1).is) refl) (outcome_back form o is)
reply_back form (party.Grain g) o whose is = reply_parts form (grain_text g) (codes "-") (outcome_text o) _ o (grain g whose).whole refl (rw (grain g whose).is refl) (outcome_back form o is)

-- ---- rows and tenants

row_back : (form : Form) (g : Grain) (row : Row) → IsTrue (is_grain g) → IsRow form row → Back (row_of form) (grain_text g ␣ decimal row.version ␣ content_text row.content) (g, row)
row_back form g row well is =
    let b = more (grain g well) (two (version row.version is.0 is.1) (content form row.content is.2)) in
    record { plain = b.plain; is = rw b.is refl }

within : (most n : ℕ) → leb 1 n && leb n most ≡ true → n ≤ most
within most n is = leb-true n most (second_so (leb 1 n) (leb n most) is)

tenant_back : (t : List ℕ) (l : Limits) → IsTrue (is_word t) → IsTrue (are_in_range l) → Back tenant_of (t ␣ decimal l.activations ␣ decimal l.mailbox) (t, l)
tenant_back t l well is =
    let most = within 10000 l.activations (first_so (leb 1 l.activations && leb l.activations 10000) (leb 1 l.mailbox && leb l.mailbox 1000) is) in
    let waiting = within 1000 l.mailbox (second_so (leb 1 l.activations && leb l.activations 10000) (leb 1 l.mailbox && leb l.mailbox 1000) is) in
    let b = more (word t well) (two (wide l.activations (omega (arith, most))) (wide l.mailbox (omega (arith, waiting)))) in
    record { plain = b.plain; is = rw (b.is, is) refl }

-- ---- the logic and the ages of kinds

kinds_back : (form : Form) (n : ℕ) → IsTrue (tells_kinds form) → IsKinds n → Back (kinds_of form) (decimal n) n
kinds_back form n tells are =
    let b = last (wide n (omega (arith, are))) in
    record { plain = b.plain; is = rw (b.is, tells, and_from (leb 1 n) (leb n 255) (le-leb 1 n are.0) (le-leb n 255 are.1)) refl }

kind_back : (form : Form) (k : List ℕ) (n : ℕ) → IsTrue (tells_kinds form) → IsTrue (is_word k) → IsAge n → Back (kind_of form) (k ␣ decimal n) (k, n)
kind_back form k n tells well is =
    let b = two (word k well) (age n is) in
    record { plain = b.plain; is = rw (b.is, tells) refl }

-- ---- lines

head_back : (form : Form) → Back (head_of form) (form_text form) line.Head
head_back forms.First = record { plain = refl; is = refl }
head_back forms.Second = record { plain = refl; is = refl }
head_back forms.Third = record { plain = refl; is = refl }

pub line_back : (form : Form) (l : Line) → IsLine form l → Back (candidate_of form) (line_text form l) l
line_back form line.Head is = line_of form (codes "silo-journal") _ _ refl refl (head_back form)
line_back form (line.Kinds n) is = line_of form (codes "kinds") _ _ refl refl (made (kinds_back form n is.0 is.1) line.Kinds)
line_back form (line.Age n) is = line_of form (codes "age") _ _ refl refl (made (last (age n is)) line.Age)
line_back form (line.Kind k n) is = line_of form (codes "kind") _ _ refl refl (made (kind_back form k n is.0 is.1 is.2) (λ entry. line.Kind entry.0 entry.1))
line_back form (line.Tenant t l) is = line_of form (codes "tenant") _ _ refl refl (made (tenant_back t l is.0 is.1) (λ entry. line.Tenant entry.0 entry.1))
line_back form (line.Step s) is = step_back form s is
line_back form (line.Reply reply) is = line_of form (codes "reply") _ _ refl refl (made (reply_back form reply.recipient reply.outcome is.0 is.1) line.Reply)
line_back form (line.Row g row) is = line_of form (codes "row") _ _ refl refl (made (row_back form g row is.0 is.1) (λ entry. line.Row entry.0 entry.1))
line_back form (line.Close n) is = line_of form (codes "close") _ _ refl refl (made (last (wide n is)) line.Close)
