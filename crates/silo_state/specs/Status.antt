-- What a client is told of its tenant.
use Rattle.std.specs.Prelude.{ℕ, pos, codes}
use Rattle.request_codec.specs.Tree as tree
use Rattle.request_codec.specs.Tree.{Tree, integer, field, no_fields}

-- how many entries there are, the clock, and how many requests were accepted
abbrev pub status_value : ℕ → ℕ → ℕ → Tree
status_value active clock requests = tree.map (field (codes "activations") (integer (pos active))
    (field (codes "clock") (integer (pos clock)) (field (codes "requests") (integer (pos requests)) no_fields)))
