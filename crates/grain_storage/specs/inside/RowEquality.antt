-- When two rows are the same.
use Rattle.std.specs.Prelude.{Bool, ◌&&◌, nat_eq, bytes_eq}
use Rattle.std.specs.Option.{option_eq}
use Rattle.std.specs.Cmp.{IsEquivalence, on_equiv, and_equiv, nat_eq_equiv}
use Rattle.std.specs.Cmp.Lexicographic.{nat_list_eq_equiv, options_equiv}
use Rattle.request_codec.specs.Tree.{Tree}
use Rattle.request_codec.specs.Written.{spelling}
use Rattle.grain_storage.specs.declared.row.Row.{Row}

-- they have the same spelling
abbrev pub same_content : Tree → Tree → Bool
same_content content other = bytes_eq (spelling content) (spelling other)

-- they have the same version, and the same content or both none
abbrev pub same_row : Row → Row → Bool
same_row row other = nat_eq row.version other.version && option_eq same_content row.content other.content

pub same_row_equiv : IsEquivalence same_row
same_row_equiv =
    and_equiv (on_equiv (λ (r : Row). r.version) nat_eq_equiv)
    (on_equiv (λ (r : Row). r.content) (options_equiv (on_equiv spelling nat_list_eq_equiv)))
