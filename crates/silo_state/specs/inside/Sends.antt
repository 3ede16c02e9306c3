-- How what a turn sends comes to an account.
use Rattle.std.specs.Prelude.{List, [], ◌∷◌, ◌++◌, Option, Some, None}
use Rattle.silo_model.specs.Machine.{Account, Send}
use Rattle.silo_model.specs.Effect.{Change, keep, put}

-- what becomes of an account to which these are sent
abbrev pub with_more : Option Account → List Send → Change Account
with_more account [] = keep
with_more None (s ∷ sends) = keep
with_more (Some a) (s ∷ sends) = put (record a { sends = a.sends ++ s ∷ sends })
