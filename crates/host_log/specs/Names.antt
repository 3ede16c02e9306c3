-- The paths that belong to a folder of data.
use Rattle.std.specs.Prelude.{◌≡◌, ℕ, List, ◌++◌, codes, string_bytes}
use Rattle.host_log.specs.declared.names.Names.{Names}
use Rattle.host_log.specs.declared.names.Place.{Place}

-- The file has this path, and a new one is made at the other.
pub record IsPlace (place : Place) (path other : List ℕ) : Type 0 where
  pub file : string_bytes place.file ≡ path
  pub beside : string_bytes place.beside ≡ other

-- The folder is the one at the path; the others are its names with these ends.
pub record Named (names : Names) (path : List ℕ) : Type 0 where
  pub folder : string_bytes names.folder ≡ path
  pub above : string_bytes names.above ≡ path ++ codes "/.."
  pub lock : string_bytes names.lock ≡ path ++ codes "/lock"
  pub log : IsPlace names.log (path ++ codes "/log") (path ++ codes "/log.new")
  pub checkpoint : IsPlace names.checkpoint (path ++ codes "/checkpoint") (path ++ codes "/checkpoint.new")
