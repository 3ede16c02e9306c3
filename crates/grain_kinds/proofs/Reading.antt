-- None of the methods of every kind only reads.
use Rattle.std.proofs.Common.{◌≡◌, ℕ, false, List, [], ◌∷◌, Option, Some, refl, sym}
use Rattle.std.specs.List.{AllByRecursion}
use Rattle.grain_id.specs.Names.{same_text}
use Rattle.grain_logic.specs.LawsOfForms.{if_holds}
use Rattle.grain_logic.specs.Tables.{Method, method_in, reads_by}
use Rattle.grain_kinds.specs.Kinds.EveryKind.{every_kind}

none_reads : (ms : List Method) (word : List ℕ) → AllByRecursion (λ m. m.only_reads ≡ false) ms → reads_by (method_in ms word) ≡ false
none_reads [] word all = refl
none_reads (m ∷ ms) word all =
    if_holds (λ (o : Option Method). reads_by o ≡ false) (same_text word m.word) (Some m) (method_in ms word)
    (λ is. all.0) (λ e. none_reads ms word all.1)

pub every_kind_reads_none : (method : List ℕ) → false ≡ reads_by (method_in every_kind method)
unfolding every_kind
every_kind_reads_none method = sym (none_reads every_kind method (
  refl,
  (
    refl,
    (
      refl,
      (
        refl,
        (
          refl,
          tt,
        ),
      ),
    ),
  ),
))
