-- The line of each step is read back as the step.
use Rattle.journal_text.proofs.Common.{◌≡◌, ℕ, false, List, Option, Some, refl, ◌∙◌, codes, same_text, Step, Form, Line, IsStep}
use Rattle.silo_event.specs.declared.step.Step.TheVariants as step
use Rattle.journal_text.specs.declared.line.Line.TheVariants as line
use Rattle.journal_text.specs.inside.Candidates.{◌>>=◌, step_line, named_of, candidate_of}
use Rattle.journal_text.specs.Text.{◌␣◌, step_text}
use Rattle.journal_text.proofs.Cuts.{IsField, cut-field}
use Rattle.journal_text.proofs.FieldsBack.{Back, plain_more, last, more, two, made, number, client, grain, mark, refusal, message, state}

by_word : (form : Form) (word fields : List ℕ) → IsField word → same_text (word ␣ fields) (codes "sweep") ≡ false → candidate_of form (word ␣ fields) ≡ named_of form word fields
unfolding candidate_of
by_word form word fields whole other = rw (other, cut-field word fields whole) refl

-- a line of a word and fields is read by its word
pub line_of : (form : Form) (word fields : List ℕ) (l : Line) → IsField word → same_text (word ␣ fields) (codes "sweep") ≡ false → Back (named_of form word) fields l → Back (candidate_of form) (word ␣ fields) l
line_of form word fields l whole other b = record { plain = plain_more word fields whole b.plain; is = by_word form word fields whole other ∙ b.is }

stepped : {A : Type 0} {read : List ℕ → Option A} {text : List ℕ} {x : A} → Back read text x → (make : A → Step) → Back (λ t. step_line (read t >>= λ y. Some (make y))) text (line.Step (make x))
stepped b make = made (made b make) line.Step

pub step_back : (form : Form) (s : Step) → IsStep form s → Back (candidate_of form) (step_text form s) (line.Step s)
unfolding candidate_of
step_back form (step.Refuse c n r) is = line_of form (codes "refuse") _ _ refl refl (stepped (more (client c is.0) (two (number n is.1) (refusal form r is.2))) (λ f. step.Refuse f.0 f.1.0 f.1.1))
step_back form (step.Call c n g m) is = line_of form (codes "call") _ _ refl refl (stepped (more (client c is.0) (more (number n is.1) (two (grain g is.2) (message form m is.3)))) (λ f. step.Call f.0 f.1.0 f.1.1.0 f.1.1.1))
step_back form (step.Poke failed c n g v) is = line_of form (codes "poke") _ _ refl refl (stepped (more (client c is.0) (more (number n is.1) (more (grain g is.2) (two (mark failed) (state form v is.3))))) (λ f. step.Poke f.1.1.1.0 f.0 f.1.0 f.1.1.0 f.1.1.1.1))
step_back form (step.Status c n) is = line_of form (codes "status") _ _ refl refl (stepped (two (client c is.0) (number n is.1)) (λ f. step.Status f.0 f.1))
step_back form (step.Deliver g) is = line_of form (codes "deliver") _ _ refl refl (stepped (last (grain g is)) step.Deliver)
step_back form (step.Activate g) is = line_of form (codes "activate") _ _ refl refl (stepped (last (grain g is)) step.Activate)
step_back form (step.Load g failed) is = line_of form (codes "load") _ _ refl refl (stepped (two (grain g is) (mark failed)) (λ f. step.Load f.0 f.1))
step_back form (step.Begin g) is = line_of form (codes "begin") _ _ refl refl (stepped (last (grain g is)) step.Begin)
step_back form (step.Store g n failed) is = line_of form (codes "store") _ _ refl refl (stepped (more (grain g is.0) (two (number n is.1) (mark failed))) (λ f. step.Store f.0 f.1.0 f.1.1))
step_back form (step.End g n) is = line_of form (codes "end") _ _ refl refl (stepped (two (grain g is.0) (number n is.1)) (λ f. step.End f.0 f.1))
step_back form (step.Abandon g n) is = line_of form (codes "abandon") _ _ refl refl (stepped (two (grain g is.0) (number n is.1)) (λ f. step.Abandon f.0 f.1))
step_back form (step.Tick n) is = line_of form (codes "tick") _ _ refl refl (stepped (last (number n is)) step.Tick)
step_back form step.Sweep is = record { plain = refl; is = refl }
