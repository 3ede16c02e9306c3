-- Lines that are written one after another, and where they break off.
use Rattle.std.proofs.Common.{◌≡◌, ℕ, List, [], ◌∷◌, ◌++◌, Option, refl, sym, ap, ◌∙◌, subst, append_assoc}
use Rattle.std.specs.Io.KnownBytes.{Appends}
use Rattle.std.proofs.KnownBytes.{Appends-trans, Appends-kept, Appends-nil}
use Rattle.std.proofs.lemmas.List.{append-nil}
use Rattle.line_text.specs.Writing.{WrittenInPart}
use Rattle.line_text.specs.LineTexts.{joined}
use Rattle.line_text.specs.declared.fault.LineFault.{LineFault}
use Rattle.line_text.specs.declared.fault.LineFault.TheVariants as fault
use Rattle.line_service.specs.ServedText.{StopsWriting}
use Rattle.line_service.specs.inside.Written.{LineStops}

joined-append : (lines others : List (List ℕ)) → joined (lines ++ others) ≡ joined lines ++ joined others
joined-append [] others = refl
joined-append (l ∷ lines) others = ap (λ text. l ++ text) (joined-append lines others) ∙ sym (append_assoc l (joined lines) (joined others))

joined-one : (l : List ℕ) → joined (l ∷ []) ≡ l
joined-one l = append-nil l

pub written_none : (at : Option (List ℕ)) → Appends at at (joined [])
written_none at = Appends-nil at

module _ (before mid after : Option (List ℕ)) (lines : List (List ℕ)) (written : Appends before mid (joined lines)) where
  -- these were written, and then those
  pub written_on : (others : List (List ℕ)) → Appends mid after (joined others) → Appends before after (joined (lines ++ others))
  written_on others more = subst (Appends before after) (sym (joined-append lines others)) (Appends-trans before mid after (joined lines) (joined others) written more)

  pub line_on : (l : List ℕ) → Appends mid after l → Appends before after (joined (lines ++ l ∷ []))
  line_on l more = written_on (l ∷ []) (subst (Appends mid after) (sym (joined-one l)) more)

  -- these were written, and those break off
  pub stops_behind : (why : LineFault) (others : List (List ℕ)) → StopsWriting why others mid after → StopsWriting why (lines ++ others) before after
  stops_behind fault.Memory others p = record {
    done = lines ++ p.done;
    rest = p.rest;
    parts = ap (λ ls. lines ++ ls) p.parts ∙ sym (append_assoc lines p.done p.rest);
    written = written_on p.done p.written;
  }
  stops_behind fault.Write others p = record {
    front = joined lines ++ p.front;
    back = p.back;
    parts = joined-append lines others ∙ ap (λ text. joined lines ++ text) p.parts ∙ sym (append_assoc (joined lines) p.front p.back);
    written = Appends-trans before mid after (joined lines) p.front written p.written;
  }
  stops_behind fault.Read others p = absurd p
  stops_behind fault.TooMuch others p = absurd p

-- what breaks off breaks off with others behind it
pub stops_before : (why : LineFault) (lines others : List (List ℕ)) (before after : Option (List ℕ)) → StopsWriting why lines before after → StopsWriting why (lines ++ others) before after
stops_before fault.Memory lines others before after p = record {
  done = p.done;
  rest = p.rest ++ others;
  parts = ap (λ ls. ls ++ others) p.parts ∙ append_assoc p.done p.rest others;
  written = p.written;
}
stops_before fault.Write lines others before after p = record {
  front = p.front;
  back = p.back ++ joined others;
  parts = joined-append lines others ∙ ap (λ text. text ++ joined others) p.parts ∙ append_assoc p.front p.back (joined others);
  written = p.written;
}
stops_before fault.Read lines others before after p = absurd p
stops_before fault.TooMuch lines others before after p = absurd p

-- nothing was written yet
pub stops_unbegun : (lines : List (List ℕ)) (at : Option (List ℕ)) → StopsWriting fault.Memory lines at at
stops_unbegun lines at = record { done = []; rest = lines; parts = refl; written = Appends-nil at }

-- one line breaks off
pub stops_line : (why : LineFault) (l : List ℕ) (before after : Option (List ℕ)) → LineStops why l before after → StopsWriting why (l ∷ []) before after
stops_line fault.Memory l before after kept = record { done = []; rest = l ∷ []; parts = refl; written = Appends-kept before before after [] (Appends-nil before) kept }
stops_line fault.Write l before after p = subst (WrittenInPart before after) (sym (joined-one l)) p
stops_line fault.Read l before after p = absurd p
stops_line fault.TooMuch l before after p = absurd p

-- ---- all lines, of which some were written

module _ (before mid after : Option (List ℕ)) (all done rest lines others : List (List ℕ)) (parts : all ≡ done ++ rest) (next : rest ≡ lines ++ others)
    (written : Appends before mid (joined done)) where
  parts_on : all ≡ (done ++ lines) ++ others
  parts_on = parts ∙ ap (λ ls. done ++ ls) next ∙ sym (append_assoc done lines others)

  -- the next were
  pub goes_on : Appends mid after (joined lines) → (x : List (List ℕ)) × (all ≡ x ++ others) × Appends before after (joined x)
  goes_on more = (done ++ lines, parts_on, written_on before mid after done written lines more)

  -- the next break off
  pub breaks_off : (why : LineFault) → StopsWriting why lines mid after → StopsWriting why all before after
  breaks_off why stops =
      subst (λ ls. StopsWriting why ls before after) (sym parts_on)
      (stops_before why (done ++ lines) others before after (stops_behind before mid after done written why lines stops))

-- none is left
pub all_written : (before after : Option (List ℕ)) (all done : List (List ℕ)) → all ≡ done ++ [] → Appends before after (joined done) → Appends before after (joined all)
all_written before after all done parts written = subst (λ ls. Appends before after (joined ls)) (sym (parts ∙ append-nil done)) written

-- of one line
pub one_line : (mid after : Option (List ℕ)) (l : List ℕ) → Appends mid after l → Appends mid after (joined (l ∷ []))
one_line mid after l more = subst (Appends mid after) (sym (joined-one l)) more
