-- What the words ask for, from what clap found.
use Rattle.std.proofs.Common.{◌≡◌, ◌≢◌, ◌≤◌, ◌⊎◌, ◌∙◌, ℕ, List, [], true, IfOk, IfErr, Option, Some, None, Result, Ok, Err, inl, inr, refl, sym, ap, subst, arith}
use Rattle.std.specs.Prelude.{option_map, unwrap_or}
use Rattle.std.specs.Str.Parse.{ParsesUnsigned, ExplainsUnsignedError, HasUnsignedDigitsIfOk}
use Rattle.std.specs.declared.num.ParseIntError.{ParseIntError}
use Rattle.clap.specs.Matches.{TriesOne, one_text}
use Rattle.clap.proofs.OnLiterals.{clap_on_literals}
use Rattle.clap.proofs.WalkLemmas.{one_text-rows}
use Rattle.clap.specs.declared.parser.matches.Found.{Found}
use Rattle.clap.specs.Words.{FailsBy, HasKind, HasMatchesOf, IsAmong, Kinds, Text, fault_of, is_simple, is_simple_and_free, one_of, rows_of, subcommand_rows_of}
use Rattle.clap.specs.declared.error.Error.{Error}
use Rattle.clap.specs.declared.parser.matches.ArgMatches.{ArgMatches}
use Rattle.clap.specs.declared.error.kind.ErrorKind.{ErrorKind}
use Rattle.clap.specs.declared.error.kind.ErrorKind.TheVariants.{DisplayHelp, DisplayVersion, OutOfMemory}
use Rattle.silo_words.specs.declared.fault.WordsFault.{WordsFault}
use Rattle.silo_words.specs.declared.fault.WordsFault.TheVariants as fault
use Rattle.silo_words.specs.Words.{IsFaultBy, IsNumber, IsWhy, found_in, silo_app}

-- ---- a number

-- what clap reads of a text
abbrev pub Gives : Text → Result ℕ ParseIntError → Type 0
Gives text x = ParsesUnsigned 64 10 text x × ExplainsUnsignedError 10 text x × HasUnsignedDigitsIfOk text x

module _ (read : Result (Option ℕ) ParseIntError) where
  -- what it reads of an option's text, if there is one
  abbrev pub Reads : Option Text → Type 0
  Reads one = (one ≡ None → read ≡ Ok None) × ((text : Text) → one ≡ Some text → TriesOne Gives text read)

  tried : (t : Text) (x : Result (Option ℕ) ParseIntError) → Reads (Some t) → read ≡ x → TriesOne Gives t x
  tried t x reads is = subst (TriesOne Gives t) is (reads.1 t refl)

  -- by the rows that were found
  pub reads_rows : (found : Found) (id : Text) → Reads (one_text found id) → Reads (one_of id (rows_of found))
  reads_rows found id reads = subst Reads (one_text-rows found id) reads

  module _ (usual least most : ℕ) where
    -- a number that is read within its range
    pub IsNumber-read : (one : Option Text) → Reads one → (n : ℕ) → read ≡ Ok (Some n) → least ≤ n → n ≤ most → IsNumber usual least most one n
    IsNumber-read None reads n is low high =
        let no = reads.0 refl in
        absurd cc
    IsNumber-read (Some t) reads n is low high =
        let number = (tried t _ reads is).0 in
        ((number.0.0, sym number.1), low, high)

    -- no number was given
    pub IsNumber-left_out : (one : Option Text) → Reads one → read ≡ Ok None → IsNumber usual least most one usual
    IsNumber-left_out None reads is = refl
    IsNumber-left_out (Some t) reads is = absurd (tried t _ reads is)

    -- a number out of the range
    pub not_number-outside : (one : Option Text) → Reads one → (n number : ℕ) → read ≡ Ok (Some n) → ((least ≤ n) → (n ≤ most) → ⊥)
        → IsNumber usual least most one number → ⊥
    not_number-outside None reads n number is outside wanted =
        let no = reads.0 refl in
        absurd cc
    not_number-outside (Some t) reads n number is outside wanted =
        let same = (tried t _ reads is).0.1 ∙ wanted.0.1 in
        outside (omega (arith, same, wanted.1)) (omega (arith, same, wanted.2))

    -- a text that is no number
    pub not_number-text : (one : Option Text) → Reads one → most ≤ 18446744073709551615 → (fault : ParseIntError) (number : ℕ) → read ≡ Err fault
        → IsNumber usual least most one number → ⊥
    not_number-text None reads fits fault number is wanted =
        let no = reads.0 refl in
        absurd cc
    not_number-text (Some t) reads fits fault number is wanted =
        (tried t _ reads is).0 (wanted.0.0, omega (arith, fits, wanted.0.1, wanted.2))

-- ---- what was found

-- what is behind an option that was found
pub found_behind : {A B : Type 0} (f : A → List B) (found : Option A) (x : A) (all : Option (List B)) → option_map f found ≡ all → found ≡ Some x → f x ≡ unwrap_or all []
found_behind f found x all behind is = sym (ap (λ o. unwrap_or (option_map f o) []) is) ∙ ap (λ o. unwrap_or o []) behind

pub nothing_behind : {A B : Type 0} (f : A → List B) (found : Option A) (all : Option (List B)) → option_map f found ≡ all → found ≡ None → [] ≡ unwrap_or all []
nothing_behind f found all behind is = sym (ap (λ o. unwrap_or (option_map f o) []) is) ∙ ap (λ o. unwrap_or o []) behind

-- ---- what clap takes

-- clap's accounts of its words are exact for this command line
pub silo_app-free : is_simple_and_free silo_app ≡ true
unfolding clap_on_literals
silo_app-free = refl

silo_app-simple : is_simple silo_app ≡ true
unfolding clap_on_literals
silo_app-simple = refl

-- an `Ok` comes only where no fault does, with what is found of the subcommand
pub taken-passes : {T : Type 0} (r : Result T Error) (kinds : Kinds) → FailsBy kinds r → IfOk r (λ _. kinds ≡ [])
taken-passes (Ok x) kinds h = h
taken-passes (Err e) kinds h = tt

pub found-matches : (words : List Text) (r : Result ArgMatches Error) → IfOk r (HasMatchesOf silo_app words) → IfOk r (λ m. subcommand_rows_of m ≡ found_in words)
found-matches words (Ok m) h = (h silo_app-simple).1
found-matches words (Err e) h = tt

-- an `Err` has the kind of a fault
pub refused-fails : {T : Type 0} (r : Result T Error) (kinds : Kinds) → FailsBy kinds r → IfErr r (HasKind kinds)
refused-fails (Ok x) kinds h = tt
refused-fails (Err e) kinds h = h

-- ---- what clap says instead

among : (words : List Text) (kind : ErrorKind) → (kind ≡ OutOfMemory) ⊎ IsAmong kind (fault_of silo_app words) → kind ≢ OutOfMemory → IsAmong kind (fault_of silo_app words)
among words kind (inl e) other = absurd (other e)
among words kind (inr h) other = h

no_help : DisplayHelp ≢ OutOfMemory
no_help e = absurd cc

no_version : DisplayVersion ≢ OutOfMemory
no_version e = absurd cc

pub IsWhy-fails : (words : List Text) (kind : ErrorKind) (why : WordsFault) → (kind ≡ OutOfMemory) ⊎ IsAmong kind (fault_of silo_app words) → IsFaultBy words kind why → IsWhy words why
IsWhy-fails words kind fault.Memory has by = tt
IsWhy-fails words kind (fault.Help text) has by =
    (subst (λ k. IsAmong k (fault_of silo_app words)) by.0 (among words kind has (λ e. no_help (sym by.0 ∙ e))), by.1)
IsWhy-fails words kind fault.Version has by = subst (λ k. IsAmong k (fault_of silo_app words)) by (among words kind has (λ e. no_version (sym by ∙ e)))
IsWhy-fails words kind (fault.Wrong text) has by = inl (kind, by.1, by.2, among words kind has by.0)
