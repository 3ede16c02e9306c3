-- The ages of kinds, as the program's option names them.
use Rattle.std.specs.Prelude.{◌≡◌, ◌==◌, ℕ, List, [], ◌∷◌, ◌++◌, Option, Some, None, IsTrue, decimal}
use Rattle.std.specs.List.{slice_split}
use Rattle.grain_id.specs.Words.{is_word}
use Rattle.idle_collector.specs.Ages.{Ages, IsInOrder, ages_fault}
use Rattle.silo_words.specs.Parts.{IsWithin}
use Rattle.silo_words.specs.declared.ages.AgesFault.{AgesFault}
use Rattle.silo_words.specs.declared.ages.AgesFault.TheVariants.{Memory, Refused}

-- `KIND=MS`, the milliseconds in decimal digits, with no sign and no leading zero
abbrev pub age_text : List ℕ → ℕ → List ℕ
age_text kind age = kind ++ 61 ∷ decimal age

-- The text writes a well formed kind and its age, a millisecond to a day.
abbrev pub IsAgeText : List ℕ → List ℕ → ℕ → Type 0
IsAgeText text kind age = IsTrue (is_word kind) × IsWithin 86400000 age × (text ≡ age_text kind age)

-- the text writes no kind with its age
abbrev pub IsNoAgeText : List ℕ → Type 0
IsNoAgeText text = (kind : List ℕ) (age : ℕ) → ¬ IsAgeText text kind age

-- The texts write the kinds with their ages, in order.
abbrev pub WriteAges : List (List ℕ) → Ages → Type 0
WriteAges [] [] = Unit {0}
WriteAges [] (entry ∷ ages) = ⊥
WriteAges (text ∷ texts) [] = ⊥
WriteAges (text ∷ texts) (entry ∷ ages) = IsAgeText text entry.0 entry.1 × WriteAges texts ages

-- what stands between the commas of a text: one part more than it has commas, so one of the empty text
abbrev pub parts_of : List ℕ → List (List ℕ)
parts_of text = slice_split (λ b. b == 44) text

-- The text writes the list of kinds with their ages, with a comma between two.
abbrev pub WritesAges : List ℕ → Ages → Type 0
WritesAges text ages = WriteAges (parts_of text) ages

-- The option names the table: the empty one if it's left out, and otherwise the one of the list that its text writes.
abbrev pub NamesAges : Option (List ℕ) → Ages → Type 0
NamesAges None table = table ≡ []
NamesAges (Some text) table = (list : Ages) × WritesAges text list × (ages_fault list ≡ None) × IsInOrder list table

-- The fault is why the option names no table, unless memory was refused.
abbrev pub IsWhyNoAges : Option (List ℕ) → AgesFault → Type 0
IsWhyNoAges given Memory = Unit {0}
IsWhyNoAges given Refused = (table : Ages) → ¬ NamesAges given table
