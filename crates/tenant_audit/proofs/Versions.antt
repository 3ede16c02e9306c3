-- The versions of the logic that journals name, and those that there are.
use Rattle.std.proofs.Common.{◌≡◌, ◌∷◌, ◌++◌, ◌∙◌, ℕ, Err, List, Ok, Result, [], arith, inl, inr, subst, sym}
use Rattle.std.proofs.lemmas.Bool.{cases_lt}
use Rattle.std.proofs.lemmas.List.Elements.{All-cons, All-nil}
use Rattle.grain_kinds.specs.Versions.{IsVersion, newest}
use Rattle.journal_text.specs.declared.fault.JournalFault.{JournalFault}
use Rattle.journal_text.specs.declared.fault.JournalFault.TheVariants as faults
use Rattle.journal_text.specs.declared.form.Form.{Form}
use Rattle.journal_text.specs.declared.line.Line.{Line}
use Rattle.journal_text.specs.declared.line.Line.TheVariants as line
use Rattle.journal_text.specs.JournalAnswers.{NamesKinds, ReadsJournal}
use Rattle.journal_text.specs.Rules.{IsKinds, IsLine}
use Rattle.journal_text.specs.Text.{History, lines_text}
use Rattle.journal_text.proofs.LinesCut.{lines_cons, lines_cut}
use Rattle.journal_text.proofs.Named.{one_names, version_within}
use Rattle.tenant_audit.specs.Reading.{NamesNewer, ReadsKnown}

pub may_stand : (n : ℕ) → IsVersion n → IsKinds n
may_stand n is = (is.0, omega (arith, is.1))

abbrev named : ℕ → List Line
named kinds = line.Head ∷ line.Kinds kinds ∷ []

same_second : (m n : ℕ) (more : List Line) → named n ≡ named m ++ more → m ≡ n
same_second m n more e = cc

-- bytes that name a version name no other
pub one_named : (bytes : List ℕ) (m n : ℕ) → NamesKinds bytes m → NamesKinds bytes n → m ≡ n
one_named bytes m n a b =
    let head = a.begins ∙ lines_cons a.form line.Head (line.Kinds m ∷ []) a.behind in
    let same = one_names a.form bytes (lines_text a.form (line.Kinds m ∷ []) ++ a.behind) head n b in
    let begins : bytes ≡ lines_text a.form (named n) ++ b.behind = subst (λ (f : Form). bytes ≡ lines_text f (named n) ++ b.behind) same b.begins in
    let tells = subst (λ (f : Form). IsLine f (line.Kinds n)) same (b.tells, b.is) in
    let cut = lines_cut a.form (named m) (named n) a.behind b.behind
    (All-cons (IsLine a.form) line.Head (line.Kinds m ∷ []) tt (All-cons (IsLine a.form) (line.Kinds m) [] (a.tells, a.is) (All-nil (IsLine a.form))))
    (All-cons (IsLine a.form) line.Head (line.Kinds n ∷ []) tt (All-cons (IsLine a.form) (line.Kinds n) [] tells (All-nil (IsLine a.form))))
    (sym a.begins ∙ begins) (omega arith) in
    same_second m n cut.more cut.longer

-- what is read of bytes that don't name a newer version
pub known_read : (bytes : List ℕ) (read : Result History JournalFault) → (NamesNewer bytes → ⊥) → ReadsJournal bytes read → ReadsKnown bytes read
known_read bytes (Ok j) older reads = (
  reads,
  version_within bytes j newest reads (omega arith) (λ kinds names. elim (cases_lt newest kinds) [
    | inl newer ↦ absurd (older (record { kinds = kinds; names = names; newer = newer }))
    | inr within ↦ within
  ]),
)
known_read bytes (Err (faults.At number)) older reads = inr (older, reads)
known_read bytes (Err faults.Memory) older reads = tt
