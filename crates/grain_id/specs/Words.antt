-- Which bytes make the parts of a name.
use Rattle.std.specs.Prelude.{ℕ, Bool, false, ◌&&◌, ◌||◌, ◌==◌, List, [], ◌∷◌, length, nat_le}
use Rattle.std.specs.List.{list_all}

abbrev pub is_letter : ℕ → Bool
is_letter b = nat_le 97 b && nat_le b 122

-- a lower case letter, a digit or a dash
abbrev pub is_word_byte : ℕ → Bool
is_word_byte b = is_letter b || (nat_le 48 b && nat_le b 57) || (b == 45)

abbrev pub begins_with_letter : List ℕ → Bool
begins_with_letter [] = false
begins_with_letter (b ∷ bytes) = is_letter b

-- Kinds, tenants and clients are words: 1 to 32 bytes of a-z, 0-9 and -, the first a letter.
unfoldable pub is_word : List ℕ → Bool
is_word bytes = begins_with_letter bytes && nat_le (length bytes) 32 && list_all is_word_byte bytes

-- visible ASCII
abbrev pub is_name_byte : ℕ → Bool
is_name_byte b = nat_le 33 b && nat_le b 126

-- The name of a grain within its kind and tenant: 1 to 128 bytes of visible ASCII.
unfoldable pub is_name : List ℕ → Bool
is_name bytes = nat_le 1 (length bytes) && nat_le (length bytes) 128 && list_all is_name_byte bytes
