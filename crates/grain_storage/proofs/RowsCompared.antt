-- Rows of one version are the same exactly where their contents are.
use Rattle.std.proofs.Common.{◌≡◌, Bool, Some, IsTrue, ap, sym, ◌∙◌}
use Rattle.std.specs.Prelude.{◌↔◌}
use Rattle.std.proofs.lemmas.Option.{same_Some}
use Rattle.request_codec.specs.Tree.{Tree}
use Rattle.grain_storage.specs.declared.row.Row.{Row}

pub same_contents : (row other : Row) (content others : Tree) (b : Bool) → row.version ≡ other.version → row.content ≡ Some content → other.content ≡ Some others → IsTrue b ↔ (content ≡ others) → IsTrue b ↔ (row ≡ other)
same_contents row other content others b same is has iff = (
  λ t. λ j. record { version = same j; content = (is ∙ ap Some (iff.0 t) ∙ sym has) j },
  λ e. iff.1 (same_Some content others (sym is ∙ ap (λ (r : Row). r.content) e ∙ has)),
)
