use Rattle.std.proofs.Common.{ℕ, List, ◌∷◌, ◌++◌, slice_index_or, slice_set, ◌+◌, sym, ap, ◌∙◌}
use Rattle.line_parser.proofs.Counts.{set_four}
use Rattle.line_parser.proofs.argument.set_count.Goals as goal

pub returns-clause-bytes : goal.returns-clause-bytes
returns-clause-bytes c front rest len is =
    let i = c.args.at in
    let bytes = c.to_be_bytes-bytes.result in
    ap (λ (l : List ℕ). slice_set (slice_set (slice_set (slice_set l i (slice_index_or bytes 0 0)) (i + 1) (slice_index_or bytes 1 0)) (i + 2) (slice_index_or bytes 2 0)) (i + 3) (slice_index_or bytes 3 0)) is
    ∙ set_four front rest i (slice_index_or bytes 0 0) (slice_index_or bytes 1 0) (slice_index_or bytes 2 0) (slice_index_or bytes 3 0) (sym len)
    ∙ ap (λ (l : List ℕ). front ++ (slice_index_or l 0 0 ∷ slice_index_or l 1 0 ∷ slice_index_or l 2 0 ∷ slice_index_or l 3 0 ∷ rest)) c.to_be_bytes-bytes.ensures
