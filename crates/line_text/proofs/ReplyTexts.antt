-- The lines of replies, one after another.
use Rattle.std.proofs.Common.{◌≡◌, ℕ, List, [], ◌∷◌, ◌++◌, ◌+◌, ◌<◌, length, take, get_or, sym, ap, ◌∙◌, append_assoc, append-nil}
use Rattle.std.proofs.lemmas.List.{take_more}
use Rattle.silo_event.specs.declared.reply.Reply.{Reply}
use Rattle.line_text.specs.LineTexts.{ended, texts_of}
use Rattle.line_text.specs.Text.{line_of}

pub texts_of-more : (rs : List Reply) (r : Reply) → texts_of (rs ++ r ∷ []) ≡ texts_of rs ++ ended (line_of r)
texts_of-more [] r = append-nil (ended (line_of r))
texts_of-more (x ∷ rs) r = ap (λ l. ended (line_of x) ++ l) (texts_of-more rs r) ∙ sym (append_assoc (ended (line_of x)) (texts_of rs) (ended (line_of r)))

-- one reply more was added, with its LF
pub push_more : (start t u v : List ℕ) (rs : List Reply) (i : ℕ) (r : Reply) → i < length rs → r ≡ get_or rs i r → t ≡ start ++ texts_of (take i rs) → u ≡ t ++ line_of r → v ≡ u ++ 10 ∷ []
    → v ≡ start ++ texts_of (take (i + 1) rs)
push_more start t u v rs i r within is e f g =
    let texts = texts_of (take i rs) in
    let more : texts_of (take (i + 1) rs) ≡ texts ++ ended (line_of r) = ap texts_of (take_more rs i r within ∙ ap (λ x. take i rs ++ x ∷ []) (sym is)) ∙ texts_of-more (take i rs) r in
    g ∙ ap (λ l. l ++ 10 ∷ []) (f ∙ ap (λ l. l ++ line_of r) e)
    ∙ append_assoc (start ++ texts) (line_of r) (10 ∷ []) ∙ append_assoc start texts (ended (line_of r)) ∙ ap (λ l. start ++ l) (sym more)
