-- What was taken of an input, and the lines that it has.
use Rattle.std.proofs.Common.{◌≡◌, ℕ, ◌<◌, List, [], ◌∷◌, ◌++◌, length, Option, Some, None, refl, sym, ap, ◌∙◌, subst, inl, inr, arith, append_assoc, append-nil, length-append, ⊎_elim}
use Rattle.std.specs.Prelude.{◌⊎◌, ⊤}
use Rattle.std.proofs.lemmas.List.{nil_from_length}
use Rattle.std.specs.Io.KnownBytes.{Consumes, Keeps, IsAtEnd}
use Rattle.std.proofs.KnownBytes.{Consumes-nil, Consumes-kept}
use Rattle.line_text.specs.Lines.{lines_of, whole_lines}
use Rattle.line_text.specs.Reading.{Reading, IsFresh, left_of, LinesTaken, TakesLine, TakesPart, AreTaken, AreTakenButOne, HasNoBreak}
use Rattle.line_text.proofs.LinesOfBytes.{lines_of-break, whole_lines-break, whole_lines-none, LinesTaken-broken, LinesTaken-last, left_of-fresh}

-- ---- lines, each with its LF

abbrev pub ended_lines : List (List ℕ) → List ℕ
ended_lines [] = []
ended_lines (l ∷ lines) = l ++ 10 ∷ ended_lines lines

ended_lines-more : (lines : List (List ℕ)) (l : List ℕ) → ended_lines (lines ++ l ∷ []) ≡ ended_lines lines ++ (l ++ 10 ∷ [])
ended_lines-more [] l = refl
ended_lines-more (d ∷ lines) l = ap (λ (bytes : List ℕ). d ++ 10 ∷ bytes) (ended_lines-more lines l) ∙ sym (append_assoc d (10 ∷ ended_lines lines) (l ++ 10 ∷ []))

abbrev pub HaveNoBreaks : List (List ℕ) → Type 0
HaveNoBreaks [] = Unit {0}
HaveNoBreaks (l ∷ lines) = HasNoBreak l × HaveNoBreaks lines

HaveNoBreaks-more : (lines : List (List ℕ)) (l : List ℕ) → HaveNoBreaks lines → HasNoBreak l → HaveNoBreaks (lines ++ l ∷ [])
HaveNoBreaks-more [] l h g = (g, tt)
HaveNoBreaks-more (d ∷ lines) l h g = (h.0, HaveNoBreaks-more lines l h.1 g)

lines_of-ended : (lines : List (List ℕ)) (rest : List ℕ) → HaveNoBreaks lines → lines_of (ended_lines lines ++ rest) ≡ lines ++ lines_of rest
lines_of-ended [] rest h = refl
lines_of-ended (l ∷ lines) rest h =
    ap lines_of (append_assoc l (10 ∷ ended_lines lines) rest) ∙ lines_of-break l (ended_lines lines ++ rest) h.0 ∙ ap (λ (others : List (List ℕ)). l ∷ others) (lines_of-ended lines rest h.1)

whole_lines-ended : (lines : List (List ℕ)) (rest : List ℕ) → HaveNoBreaks lines → HasNoBreak rest → whole_lines (ended_lines lines ++ rest) ≡ lines
whole_lines-ended [] rest h g = whole_lines-none rest g
whole_lines-ended (l ∷ lines) rest h g =
    ap whole_lines (append_assoc l (10 ∷ ended_lines lines) rest) ∙ whole_lines-break l (ended_lines lines ++ rest) h.0 ∙ ap (λ (others : List (List ℕ)). l ∷ others) (whole_lines-ended lines rest h.1 g)

-- ---- what was taken so far

-- these lines, each with its LF; or they are all that the input has, and nothing is left
abbrev pub Took : Option (List ℕ) → Option (List ℕ) → List (List ℕ) → Type 0
Took None left done = ⊤
Took (Some input) None done = ⊥
Took (Some input) (Some bytes) done = (HaveNoBreaks done × (input ≡ ended_lines done ++ bytes)) ⊎ ((lines_of input ≡ done) × (bytes ≡ []))

pub Took-none : (a : Option (List ℕ)) → Took a a []
Took-none None = tt
Took-none (Some bytes) = inl (tt, refl)

pub Took-kept : (a b c : Option (List ℕ)) (done : List (List ℕ)) → Took a b done → Keeps b c → Took a c done
Took-kept None b c done p q = tt
Took-kept (Some x) None c done p q = absurd p
Took-kept (Some x) (Some y) None done p q = absurd q
Took-kept (Some x) (Some y) (Some z) done p q = subst (λ (bytes : List ℕ). Took (Some x) (Some bytes) done) (sym q) p

-- ---- one line more

pub TakesLine-lines : (a b : Option (List ℕ)) (l : List ℕ) → TakesLine a b l → LinesTaken a b (l ∷ [])
TakesLine-lines a b l h = ⊎_elim (λ whole. LinesTaken-broken a b l h.one whole) (λ last. LinesTaken-last a b l h.one last.0 last.1 last.2) h.taken

took_whole : (x y z : List ℕ) (done : List (List ℕ)) (l : List ℕ) → HasNoBreak l → HaveNoBreaks done × (x ≡ ended_lines done ++ y) → Consumes (Some y) (Some z) (l ++ 10 ∷ []) → Took (Some x) (Some z) (done ++ l ∷ [])
took_whole x y z done l one p whole = inl (
  HaveNoBreaks-more done l p.0 one,
  p.1 ∙ ap (λ (k : List ℕ). ended_lines done ++ k) whole ∙ sym (append_assoc (ended_lines done) (l ++ 10 ∷ []) z) ∙ ap (λ (k : List ℕ). k ++ z) (sym (ended_lines-more done l)),
)

took_last : (x y z : List ℕ) (done : List (List ℕ)) (l : List ℕ) → HasNoBreak l → HaveNoBreaks done × (x ≡ ended_lines done ++ y) → (0 < length l) × Consumes (Some y) (Some z) l × IsAtEnd (Some z) → Took (Some x) (Some z) (done ++ l ∷ [])
took_last x y z done l one p last = inr (
  ap lines_of p.1 ∙ lines_of-ended done y p.0
      ∙ ap (λ (lines : List (List ℕ)). done ++ lines) (LinesTaken-last (Some y) (Some z) l one last.0 last.1 last.2 ∙ ap (λ (k : List ℕ). l ∷ lines_of k) last.2),
  last.2,
)

-- behind the end there is none
none_behind : (y z l : List ℕ) → y ≡ [] → Consumes (Some y) (Some z) (l ++ 10 ∷ []) ⊎ ((0 < length l) × Consumes (Some y) (Some z) l × IsAtEnd (Some z)) → ⊥
none_behind y z l none took =
    ⊎_elim (λ whole. omega (arith, ap length none, ap length whole, length-append (l ++ 10 ∷ []) z, length-append l (10 ∷ [])))
    (λ last. omega (arith, ap length none, last.0, ap length last.1, length-append l z)) took

no_more : (y l : List ℕ) → Consumes (Some y) None (l ++ 10 ∷ []) ⊎ ((0 < length l) × Consumes (Some y) None l × IsAtEnd None) → ⊥
no_more y l took = ⊎_elim (λ whole. whole) (λ last. last.1) took

pub Took-more : (a b c : Option (List ℕ)) (done : List (List ℕ)) (l : List ℕ) → Took a b done → TakesLine b c l → Took a c (done ++ l ∷ [])
Took-more None b c done l p h = tt
Took-more (Some x) None c done l p h = absurd p
Took-more (Some x) (Some y) None done l p h = no_more y l h.taken
Took-more (Some x) (Some y) (Some z) done l p h =
    ⊎_elim (λ so_far. ⊎_elim (took_whole x y z done l h.one so_far) (took_last x y z done l h.one so_far) h.taken)
    (λ all. absurd (none_behind y z l all.1 h.taken)) p

-- ---- a part of a line more, and no LF

pub TakesPart-none : (a : Option (List ℕ)) → TakesPart a a
TakesPart-none a = record { front = []; one = λ k lt. absurd (omega (arith, lt)); taken = Consumes-nil a }

pub TakesPart-kept : (a b c : Option (List ℕ)) → TakesPart a b → Keeps b c → TakesPart a c
TakesPart-kept a b c h q = record { front = h.front; one = h.one; taken = Consumes-kept a b c h.front h.taken q }

some_taken : (input y z : List ℕ) (done : List (List ℕ)) (h : TakesPart (Some y) (Some z)) → HaveNoBreaks done × (input ≡ ended_lines done ++ y) → AreTaken input (Some z) done
some_taken input y z done h p = record {
  taken = ended_lines done ++ h.front;
  parts = p.1 ∙ ap (λ (k : List ℕ). ended_lines done ++ k) h.taken ∙ sym (append_assoc (ended_lines done) h.front z);
  all = inl (sym (whole_lines-ended done h.front p.0 h.one));
}

all_taken : (input y z : List ℕ) (done : List (List ℕ)) (h : TakesPart (Some y) (Some z)) → (lines_of input ≡ done) × (y ≡ []) → AreTaken input (Some z) done
all_taken input y z done h p =
    let none : z ≡ [] = nil_from_length z (omega (arith, ap length h.taken, ap length p.1, length-append h.front z)) in
    record { taken = input; parts = sym (append-nil input) ∙ ap (λ (k : List ℕ). input ++ k) (sym none); all = inr (sym p.0, none) }

pub are_taken : (input : List ℕ) (b c : Option (List ℕ)) (done : List (List ℕ)) → Took (Some input) b done → TakesPart b c → AreTaken input c done
are_taken input None c done p h = absurd p
are_taken input (Some y) None done p h = absurd h.taken
are_taken input (Some y) (Some z) done p h = ⊎_elim (some_taken input y z done h) (all_taken input y z done h) p

-- what was taken, if nothing is read ahead
pub taken_here : (input : List ℕ) (left : Option (List ℕ)) (done : List (List ℕ)) (reading : Reading) (rest : Option (List ℕ)) → IsFresh reading → Took (Some input) left done
    → TakesPart left (left_of reading rest) → AreTaken input rest done
taken_here input left done reading rest none took part =
    subst (λ (o : Option (List ℕ)). AreTaken input o done) (left_of-fresh reading rest none) (are_taken input left _ done took part)

-- the failing line isn't among them
pub none_beyond : (input : List ℕ) (b c : Option (List ℕ)) (done : List (List ℕ)) → Took (Some input) b done → TakesPart b c → AreTakenButOne input c done
none_beyond input b c done p h = record {
  last = [];
  at_most_one = omega arith;
  all = subst (AreTaken input c) (sym (append-nil done)) (are_taken input b c done p h);
}

-- the failing line was taken whole
pub one_beyond : (input : List ℕ) (b c : Option (List ℕ)) (done : List (List ℕ)) (l : List ℕ) → Took (Some input) b done → TakesLine b c l → AreTakenButOne input c done
one_beyond input b c done l p h = record {
  last = l ∷ [];
  at_most_one = omega arith;
  all = are_taken input c c (done ++ l ∷ []) (Took-more (Some input) b c done l p h) (TakesPart-none c);
}
