-- Acts that are known, and are added to.
use Rattle.std.proofs.Common.{◌≡◌, ◌∙◌, List, [], ◌∷◌, ◌++◌, append_assoc, append-nil, arith, refl, sym, ap, subst, take_all, length, ℕ, Option, None, Some, Result, Ok, Err, OnErr, inl, inr}
use Rattle.std.specs.Prelude.{take, drop}
use Rattle.std.specs.Io.KnownBytes.{Appends, Keeps}
use Rattle.std.proofs.KnownBytes.{Appends-kept, Appends-nil}
use Rattle.std.proofs.lemmas.List.{take-append-drop}
use Rattle.line_text.specs.Writing.{WrittenInPart}
use Rattle.log_text.specs.Lines.{IsPrefixOf, ended}
use Rattle.log_text.specs.Sums.{own_sums, spelled}
use Rattle.log_text.specs.Batches.{mark_behind}
use Rattle.log_host.specs.Acts.{Act, Adds, AddsPart, Puts, TellsPart, synced, told, written_by, wrote}

pub known : (old new : Option (List Act)) (acts more : List Act) → old ≡ Some acts → Adds old new more → new ≡ Some (acts ++ more)
known old new acts more is adds = subst (λ o. Adds o new more) is adds

-- what three calls add, one after another
pub added_in_order : (old mid last new : Option (List Act)) (put whole made said : List ℕ) → Adds old mid (wrote put ∷ []) → put ≡ whole → whole ≡ made
    → Adds mid last (synced ∷ []) → Adds last new (told said ∷ []) → Adds old new (wrote made ∷ synced ∷ told said ∷ [])
added_in_order None mid last new put whole made said first is also second third = tt
added_in_order (Some old) mid last new put whole made said first is also second third =
    known last new ((old ++ wrote put ∷ []) ++ synced ∷ []) (told said ∷ []) (known mid last (old ++ wrote put ∷ []) (synced ∷ []) first second) third
    ∙ ap Some (append_assoc (old ++ wrote put ∷ []) (synced ∷ []) (told said ∷ []) ∙ append_assoc old (wrote put ∷ []) (synced ∷ told said ∷ []))
    ∙ ap (λ l. Some (old ++ wrote l ∷ synced ∷ told said ∷ [])) (is ∙ also)

-- acts behind others
pub added : (old mid new : Option (List Act)) (first then' : List Act) → Adds old mid first → Adds mid new then' → Adds old new (first ++ then')
added None mid new first then' p q = tt
added (Some acts) mid new first then' p q = known mid new (acts ++ first) then' p q ∙ ap Some (append_assoc acts first then')

-- ---- what they write

-- a batch with its mark, by the sum of what was told
pub all_there : (name batch : List ℕ) (sum all next : ℕ) → all ≡ next
    → batch ++ ended (mark_behind own_sums name sum batch (spelled all)) ≡ batch ++ ended (mark_behind own_sums name sum batch (spelled next))
all_there name batch sum all next is = ap (λ n. batch ++ ended (mark_behind own_sums name sum batch (spelled n))) is

pub puts_by : (old new : Option (List Act)) (acts : List Act) (bytes : List ℕ) → Adds old new acts → IsPrefixOf (written_by acts) bytes → Puts old new bytes
puts_by None new acts bytes adds is = tt
puts_by (Some old) new acts bytes adds is = (acts, adds, is)

pub puts_none : (old : Option (List Act)) (bytes : List ℕ) → Puts old old bytes
puts_none None bytes = tt
puts_none (Some acts) bytes = ([], ap Some (sym (append-nil acts)), (bytes, refl))

-- a part of it
pub puts_part : (old new : Option (List Act)) (put bytes : List ℕ) → put ≡ bytes → AddsPart old new wrote put → Puts old new bytes
puts_part old new put bytes same (inl none) = puts_by old new [] bytes none (bytes, refl)
puts_part old new put bytes same (inr part) =
    puts_by old new (wrote (take part.0 put) ∷ []) bytes part.1
    (drop part.0 put, ap (λ l. l ++ drop part.0 put) (append-nil (take part.0 put)) ∙ take-append-drop part.0 put ∙ same)

-- all of it, and nothing behind it
pub puts_whole : (old mid new : Option (List Act)) (put bytes : List ℕ) (more : List Act) → put ≡ bytes → Adds old mid (wrote put ∷ []) → Adds mid new more
    → written_by more ≡ [] → Puts old new bytes
puts_whole old mid new put bytes more same first then' none =
    puts_by old new (wrote put ∷ more) bytes (added old mid new (wrote put ∷ []) more first then')
    ([], append-nil (put ++ written_by more) ∙ ap (λ l. put ++ l) none ∙ append-nil put ∙ same)

-- all of it is on the disk, and a part was told
pub puts_telling : (old mid last new : Option (List Act)) (before after : Option (List ℕ)) (put bytes said : List ℕ) → put ≡ bytes → Adds old mid (wrote put ∷ [])
    → Adds mid last (synced ∷ []) → TellsPart last new before after said → Puts old new bytes
puts_telling old mid last new before after put bytes said same first second (inl none) =
    puts_whole old mid new put bytes (synced ∷ []) same first (added mid last new (synced ∷ []) [] second none.0) refl
puts_telling old mid last new before after put bytes said same first second (inr part) =
    puts_whole old mid new put bytes (synced ∷ told (take part.0 said) ∷ []) same first
    (added mid last new (synced ∷ []) (told (take part.0 said) ∷ []) second part.1) refl

-- ---- from acts on that are known

pub known_part : (old new : Option (List Act)) (acts : List Act) (act : List ℕ → Act) (bytes : List ℕ) → old ≡ Some acts → AddsPart old new act bytes → AddsPart (Some acts) new act bytes
known_part old new acts act bytes is adds = subst (λ o. AddsPart o new act bytes) is adds

pub known_telling : (old new : Option (List Act)) (acts : List Act) (before after : Option (List ℕ)) (bytes : List ℕ) → old ≡ Some acts
    → TellsPart old new before after bytes → TellsPart (Some acts) new before after bytes
known_telling old new acts before after bytes is adds = subst (λ o. TellsPart o new before after bytes) is adds

-- nothing was written, which is a part
pub none_written : (before after : Option (List ℕ)) (bytes : List ℕ) → Keeps before after → WrittenInPart before after bytes
none_written before after bytes kept = record {
  front = [];
  back = bytes;
  parts = refl;
  written = Appends-kept before before after [] (Appends-nil before) kept;
}

-- a part of a part is a part
part_of_part : (before after : Option (List ℕ)) (k : ℕ) (bytes : List ℕ) → WrittenInPart before after (take k bytes) → WrittenInPart before after bytes
part_of_part before after k bytes part = record {
  front = part.front;
  back = part.back ++ drop k bytes;
  parts = sym (take-append-drop k bytes) ∙ ap (λ l. l ++ drop k bytes) part.parts ∙ append_assoc part.front part.back (drop k bytes);
  written = part.written;
}

-- what was told in part was written in part
pub told_part : (old new : Option (List Act)) (before after : Option (List ℕ)) (bytes : List ℕ) → TellsPart old new before after bytes → WrittenInPart before after bytes
told_part old new before after bytes (inl none) = none_written before after bytes none.1
told_part old new before after bytes (inr part) = part_of_part before after part.0 bytes part.2

-- all of it was written, and then what was written went out or not
pub all_written : (before during after : Option (List ℕ)) (bytes : List ℕ) → Appends before during bytes → Keeps during after → WrittenInPart before after bytes
all_written before during after bytes put kept = record {
  front = bytes;
  back = [];
  parts = sym (append-nil bytes);
  written = Appends-kept before during after bytes put kept;
}

-- all of it was to be told, and a part was written
pub tells_whole : (old new : List Act) (before after : Option (List ℕ)) (bytes : List ℕ) → new ≡ old ++ told bytes ∷ []
    → WrittenInPart before after bytes → TellsPart (Some old) (Some new) before after bytes
tells_whole old new before after bytes is part =
    let all : take (length bytes) bytes ≡ bytes = take_all (length bytes) bytes (omega arith) in
    inr (
      length bytes,
      ap Some is ∙ ap (λ l. Some (old ++ told l ∷ [])) (sym all),
      subst (λ l. WrittenInPart before after l) (sym all) part,
    )

-- what holds anyway holds at an error
pub on_err : {T E : Type 0} (r : Result T E) (P : Type 0) → P → OnErr r P
on_err (Ok x) P p = tt
on_err (Err e) P p = p
