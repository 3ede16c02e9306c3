-- What is added to a text for the value that bytes begin with, and for its members.
use Rattle.std.specs.Prelude.{◌≡◌, ℕ, List, ◌++◌, Option, Some, None}
use Rattle.request_codec.specs.Tree.{Tree, list, map, Members, Fields}
use Rattle.request_codec.specs.declared.fault.CodecFault.{CodecFault}
use Rattle.request_codec.specs.declared.fault.CodecFault.TheVariants as faults
use Rattle.line_text.specs.Text.{text_of}

-- A value was found, `rest` follows it, and its text was added.
pub record AddsValue (found : Option (Tree × List ℕ)) (rest before after : List ℕ) : Type 0 where
  pub v : Tree
  pub read : found ≡ Some (v, rest)
  pub added : after ≡ before ++ text_of v

-- The same of a list's members: the list's text was added.
pub record AddsMembers (found : Option (Members × List ℕ)) (rest before after : List ℕ) : Type 0 where
  pub vs : Members
  pub read : found ≡ Some (vs, rest)
  pub added : after ≡ before ++ text_of (list vs)

-- The same of a map's fields.
pub record AddsFields (found : Option (Fields × List ℕ)) (rest before after : List ℕ) : Type 0 where
  pub fs : Fields
  pub read : found ≡ Some (fs, rest)
  pub added : after ≡ before ++ text_of (map fs)

-- why nothing was added: nothing is there, or memory was refused
abbrev pub AddsNone : {A : Type 0} → CodecFault → Option A → Type 0
AddsNone faults.NotAMessage found = found ≡ None
AddsNone faults.TooDeep found = ⊥
AddsNone faults.TooLong found = ⊥
AddsNone faults.NotWhole found = ⊥
AddsNone faults.NotHex found = ⊥
AddsNone faults.Memory found = Unit {0}
