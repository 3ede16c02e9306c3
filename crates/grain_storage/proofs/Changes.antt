-- Changes of a row by the cases of what was found.
use Rattle.std.proofs.Common.{◌≡◌, ℕ, true, false, not, Option, Some, None, is_some, Result, Ok, Err, refl, ap, sym, subst, ◌∙◌, if◌then◌else◌, ◌+◌}
use Rattle.std.specs.FinMap as map
use Rattle.std.specs.FinMap.{get}
use Rattle.std.proofs.lemmas.Bool.Decides.{Decides-eqb}
use Rattle.grain_id.specs.Names.{Grain}
use Rattle.grain_id.proofs.ByGrain.{insert-again}
use Rattle.request_codec.specs.Tree.{Tree}
use Rattle.grain_storage.specs.declared.row.Row.{Row}
use Rattle.grain_storage.specs.declared.fault.StoreFault.{StoreFault}
use Rattle.grain_storage.specs.declared.fault.StoreFault.TheVariants.{Failed, Stale, Spent, Memory}
use Rattle.grain_storage.specs.Rows.{Rows, RowFault, stale, spent, version_of, is_stale, is_spent, changed, next_version, put, emptied, cleared, poked, written}
use Rattle.grain_storage.specs.Answers.{ChangeAnswers}
use Rattle.grain_storage.specs.Memory.{PutAnswers, RowAnswers}

module _ {A : Type 0} (expected : Option ℕ) (found : Option Row) (change : A) where
  changed_stale : is_stale expected found ≡ true → changed expected found change ≡ Err (stale (version_of found))
  changed_stale s = ap (λ b. if b then Err (stale (version_of found)) else if is_spent found then Err spent else Ok change) s

  changed_fresh : is_stale expected found ≡ false → changed expected found change ≡ (if is_spent found then Err spent else Ok change)
  changed_fresh s = ap (λ b. if b then Err (stale (version_of found)) else if is_spent found then Err spent else Ok change) s

  changed_spent : is_stale expected found ≡ false → is_spent found ≡ true → changed expected found change ≡ Err spent
  changed_spent s e = changed_fresh s ∙ ap (λ b. if b then Err spent else Ok change) e

  changed_ok : is_stale expected found ≡ false → is_spent found ≡ false → changed expected found change ≡ Ok change
  changed_ok s e = changed_fresh s ∙ ap (λ b. if b then Err spent else Ok change) e

-- the version that is there is not stale
stale_itself : (found : Option Row) → is_stale (version_of found) found ≡ false
stale_itself None = refl
stale_itself (Some row) = ap not ((Decides-eqb row.version row.version).1 refl)

-- where there is no row, a version is stale, and none isn't
stale_absent : (expected : Option ℕ) → is_some expected ≡ true → is_stale expected None ≡ true
stale_absent None some = absurd cc
stale_absent (Some version) some = refl

fresh_absent : (expected : Option ℕ) → is_some expected ≡ false → is_stale expected None ≡ false
fresh_absent None none = refl
fresh_absent (Some version) none = absurd cc

-- A grain's row is changed, and stands in the place of the one that was found.
module _ (rows : Rows) (grain : Grain) (row new : Row) (after : Rows) (found : get rows grain ≡ Some row) (is : after ≡ map.insert rows grain new) (expected : Option ℕ) (content : Option Tree) where
  abbrev planned : Result (Option ℕ × Rows) RowFault
  planned = changed expected (get rows grain) (put rows grain content)

  same : new ≡ row → after ≡ rows
  same e = is ∙ ap (map.insert rows grain) e ∙ insert-again rows grain row found

  changed_done : (version : ℕ) → RowAnswers expected row content (Ok version) new → planned ≡ Ok (Some version, after)
  changed_done version p =
      let next : put rows grain content ≡ (Some (row.version + 1), map.insert rows grain (record { version = row.version + 1; content = content })) =
      ap (λ f. (Some (next_version f), map.insert rows grain (record { version = next_version f; content = content }))) found in
      changed_ok expected (get rows grain) (put rows grain content) (ap (is_stale expected) found ∙ p.0) (ap is_spent found ∙ p.1)
      ∙ ap Ok next ∙ (λ i. Ok (Some (sym p.2 i), sym (is ∙ ap (map.insert rows grain) p.3) i))

  changed_refused : {A : Type 0} (answer : A → Option ℕ) (fault : StoreFault) → RowAnswers expected row content (Err fault) new → ChangeAnswers answer planned rows 0 (Err fault) after 0
  changed_refused answer Failed p = absurd p
  changed_refused answer (Stale seen) p =
      (changed_stale expected (get rows grain) (put rows grain content) (ap (is_stale expected) found ∙ p.0) ∙ ap (λ v. Err (stale v)) (ap version_of found ∙ sym p.1), same p.2, refl)
  changed_refused answer Spent p = (changed_spent expected (get rows grain) (put rows grain content) (ap (is_stale expected) found ∙ p.0) (ap is_spent found ∙ p.1), same p.2, refl)
  changed_refused answer Memory p = absurd p

  changed_answers : (result : Result ℕ StoreFault) → RowAnswers expected row content result new → ChangeAnswers (λ version. Some version) planned rows 0 result after 0
  changed_answers (Ok version) p = (changed_done version p, refl)
  changed_answers (Err fault) p = changed_refused (λ version. Some version) fault p

  cleared_there : content ≡ None → cleared rows grain expected ≡ planned
  unfolding cleared
  cleared_there none = ap (λ f. changed expected (get rows grain) (emptied rows grain f)) found ∙ ap (λ c. changed expected (get rows grain) (put rows grain c)) (sym none)

-- The same of what the calls answer.
module _ (rows : Rows) (grain : Grain) (row new : Row) (after : Rows) (found : get rows grain ≡ Some row) (is : after ≡ map.insert rows grain new) where
  pub written_there : (expected : Option ℕ) (content : Tree) (result : Result ℕ StoreFault) → RowAnswers expected row (Some content) result new
      → ChangeAnswers (λ version. Some version) (written rows grain expected content) rows 0 result after 0
  unfolding written
  written_there expected content result p = changed_answers rows grain row new after found is expected (Some content) result p

  pub poked_there : (content : Tree) (result : Result ℕ StoreFault) → RowAnswers (Some row.version) row (Some content) result new
      → ChangeAnswers (λ version. Some version) (poked rows grain content) rows 0 result after 0
  unfolding poked written
  poked_there content result p =
      subst (λ expected. ChangeAnswers (λ version. Some version) (changed expected (get rows grain) (put rows grain (Some content))) rows 0 result after 0) (sym (ap version_of found))
      (changed_answers rows grain row new after found is (Some row.version) (Some content) result p)

  pub cleared_done : (expected : Option ℕ) (version : ℕ) → RowAnswers expected row None (Ok version) new → cleared rows grain expected ≡ Ok (Some version, after)
  cleared_done expected version p = cleared_there rows grain row new after found is expected None refl ∙ changed_done rows grain row new after found is expected None version p

  pub cleared_refused : (expected : Option ℕ) (fault : StoreFault) → RowAnswers expected row None (Err fault) new → ChangeAnswers (λ (version : Option ℕ). version) (cleared rows grain expected) rows 0 (Err fault) after 0
  cleared_refused expected fault p =
      subst (λ planned. ChangeAnswers (λ (version : Option ℕ). version) planned rows 0 (Err fault) after 0) (sym (cleared_there rows grain row new after found is expected None refl))
      (changed_refused rows grain row new after found is expected None (λ (version : Option ℕ). version) fault p)

-- Where a grain has no row.
module _ (rows : Rows) (grain : Grain) (absent : get rows grain ≡ None) where
  changed_absent : {A : Type 0} (expected : Option ℕ) (change : A) → is_some expected ≡ true → changed expected (get rows grain) change ≡ Err (stale None)
  changed_absent expected change some = changed_stale expected (get rows grain) change (ap (is_stale expected) absent ∙ stale_absent expected some) ∙ ap (λ f. Err (stale (version_of f))) absent

  pub written_absent : (expected : Option ℕ) (content : Tree) → is_some expected ≡ true → written rows grain expected content ≡ Err (stale None)
  unfolding written
  written_absent expected content some = changed_absent expected (put rows grain (Some content)) some

  pub cleared_absent : (expected : Option ℕ) → is_some expected ≡ true → cleared rows grain expected ≡ Err (stale None)
  unfolding cleared
  cleared_absent expected some = changed_absent expected (emptied rows grain (get rows grain)) some

  pub cleared_none : (expected : Option ℕ) → is_some expected ≡ false → cleared rows grain expected ≡ Ok (None, rows)
  unfolding cleared
  cleared_none expected none = ap (λ f. changed expected f (emptied rows grain f)) absent ∙ changed_ok expected None (None, rows) (fresh_absent expected none) refl

  -- The first row of a grain has version 1.
  pub first_put : (content : Option Tree) (after : Rows) → after ≡ map.insert rows grain (record { version = 1; content = content })
      → (is_spent (get rows grain) ≡ false) × (put rows grain content ≡ (Some 1, after))
  first_put content after is =
      (ap is_spent absent, λ i. (Some (next_version (absent i)), (ap (λ found. map.insert rows grain (record { version = next_version found; content = content })) absent ∙ sym is) i))

  module _ (expected : Option ℕ) (content : Tree) (after : Rows) where
    first_answers : is_stale expected (get rows grain) ≡ false → (result : Result ℕ StoreFault) → PutAnswers rows grain (Some content) result after
        → ChangeAnswers (λ version. Some version) (changed expected (get rows grain) (put rows grain (Some content))) rows 0 result after 0
    first_answers fresh (Ok version) p = (changed_ok expected (get rows grain) (put rows grain (Some content)) fresh p.0 ∙ ap Ok p.1, refl)
    first_answers fresh (Err Failed) p = absurd p
    first_answers fresh (Err (Stale found)) p = absurd p
    first_answers fresh (Err Spent) p = (changed_spent expected (get rows grain) (put rows grain (Some content)) fresh p.0, p.1, refl)
    first_answers fresh (Err Memory) p = (p, refl)

    pub written_first : is_some expected ≡ false → (result : Result ℕ StoreFault) → PutAnswers rows grain (Some content) result after
        → ChangeAnswers (λ version. Some version) (written rows grain expected content) rows 0 result after 0
    unfolding written
    written_first none result p = first_answers (ap (is_stale expected) absent ∙ fresh_absent expected none) result p

  pub poked_first : (content : Tree) (after : Rows) (result : Result ℕ StoreFault) → PutAnswers rows grain (Some content) result after
      → ChangeAnswers (λ version. Some version) (poked rows grain content) rows 0 result after 0
  unfolding poked written
  poked_first content after result p = first_answers (version_of (get rows grain)) content after (stale_itself (get rows grain)) result p
