use mir.Val.{to_z, of_z}
use mir.Syntax.{w64}
use Rattle.std.specs.Prelude.{FitsSigned, ℤ, IsUtf8}
use Rattle.std.proofs.lemmas.Int.{to_z-of_z}
use Rattle.std.proofs.Common.{◌≡◌, ℕ, true, false, List, length, refl, subst, sym, ap, arith, rules}
use Rattle.request_codec.specs.Tree as tree
use Rattle.request_codec.specs.Tree.{Tree, members_of, fields_of}
use Rattle.request_codec.specs.inside.Build.{Named}
use Rattle.request_codec.specs.Formed.{TestsDepth, TestDepths, TestFieldDepths}
use Rattle.request_codec.specs.inside.Level.{AreKept}
use Rattle.request_codec.specs.Hex.{bytes_of_digits}
use Rattle.request_codec.specs.Lenient.{bytes_or_null}
use Rattle.request_codec.proofs.Digits.{digits_deep, digits_formed}
use Rattle.request_codec.proofs.Depths.{passed-next, passed-fails, passed-all, fields_passed-next, fields_passed-fails, fields_passed-all, list_tested, map_tested, leaf_tested, deeper_than_none}
use Rattle.request_codec.proofs.depth.+depth.Goals as goal

-- ---- one value

pub is_within-returns-then-limit-eq0 : goal.is_within-returns-then-limit-eq0
is_within-returns-then-limit-eq0 g t c = deeper_than_none c.args.limit (g.V.Shown.value c.args.value) (omega arith)

pub is_within-returns-in-Int : goal.is_within-returns-in-Int
is_within-returns-in-Int g t c =
    let same : to_z w64 (of_z w64 c.in-Int.number) ≡ c.in-Int.number = grind (arith, to_z-of_z) in
    let fits : FitsSigned w64 c.in-Int.number = subst (λ (z : ℤ). FitsSigned w64 z) same c.is_number.ensures.formed in
    leaf_tested c.is_number.result c.args.limit (g.V.Shown.value c.args.value) (tree.integer c.in-Int.number) c.if-limit-eq0.false c.is_number.ensures.always c.in-Int.ensures.value refl fits

pub is_within-returns-in-Text : goal.is_within-returns-in-Text
is_within-returns-in-Text g t c =
    leaf_tested c.is_text.result c.args.limit (g.V.Shown.value c.args.value) (tree.text c.in-Text.text.now) c.if-limit-eq0.false c.is_text.ensures.always c.in-Text.ensures.value refl c.is_text.ensures.formed

pub is_within-returns-in-Bytes : goal.is_within-returns-in-Bytes
is_within-returns-in-Bytes g t c =
    leaf_tested c.is_bytes.result c.args.limit (g.V.Shown.value c.args.value) (tree.bytes c.in-Bytes.bytes.now) c.if-limit-eq0.false c.is_bytes.ensures.always c.in-Bytes.ensures.value refl c.is_bytes.ensures.formed

pub is_within-returns-in-Hex : goal.is_within-returns-in-Hex
is_within-returns-in-Hex g t c =
    let digits = c.in-Hex.field-0.now in
    leaf_tested true c.args.limit (g.V.Shown.value c.args.value) (bytes_or_null (bytes_of_digits digits)) c.if-limit-eq0.false refl c.in-Hex.ensures.value (digits_deep (bytes_of_digits digits)) (digits_formed digits)

pub is_within-are_within-requires : goal.is_within-are_within-requires
is_within-are_within-requires g t c κs within =
    let inside = c.in-List.ensures.order c.requires in
    search rules

pub is_within-returns-in-List : goal.is_within-returns-in-List
is_within-returns-in-List g t c =
    let vs = g.V.Shown.listed c.in-List.items in
    let is : g.V.Shown.value c.args.value ≡ tree.list (members_of vs) = c.in-List.ensures.value in
    rw is (list_tested c.are_within.result c.args.limit (members_of vs) c.if-limit-eq0.false c.are_within.ensures)

pub is_within-fields_within-requires : goal.is_within-fields_within-requires
is_within-fields_within-requires g t c κs within =
    let inside = c.in-Map.ensures.order c.requires in
    search rules

pub is_within-returns-in-Map : goal.is_within-returns-in-Map
is_within-returns-in-Map g t c =
    let fs = g.V.Shown.named c.in-Map.fields in
    let is : g.V.Shown.value c.args.value ≡ tree.map (fields_of fs) = c.in-Map.ensures.value in
    rw is (map_tested c.fields_within.result c.args.limit (fields_of fs) c.if-limit-eq0.false c.fields_within.ensures)

-- ---- members

pub are_within-is_within-requires : goal.are_within-is_within-requires
are_within-is_within-requires g t c κs within =
    let kept = (subst (AreKept g.V.Shown.kept) c.in-Some.ensures c.items.invariant.kept).0 in
    search rules

pub are_within-items-smaller : goal.are_within-items-smaller
are_within-items-smaller g t c = omega (arith, ap (λ (vs : List Tree). length vs) c.in-Some.ensures)

pub are_within-items-preserved : goal.are_within-items-preserved
are_within-items-preserved g t c =
    record {
      kept = (subst (AreKept g.V.Shown.kept) c.in-Some.ensures c.items.invariant.kept).1;
      so_far = passed-next c.args.limit (g.V.Shown.listed c.items.items) (g.V.Shown.value c.in-Some.item) (g.V.Shown.listed c.next_item.new.items) (λ b. TestDepths b c.args.limit (members_of (g.V.Shown.listed c.args.items))) c.in-Some.ensures c.if-not-is_within.ensures c.items.invariant.so_far;
    }

pub are_within-returns-then-not-is_within : goal.are_within-returns-then-not-is_within
are_within-returns-then-not-is_within g t c =
    passed-fails c.args.limit (g.V.Shown.listed c.items.items) (g.V.Shown.value c.in-Some.item) (g.V.Shown.listed c.next_item.new.items) (λ b. TestDepths b c.args.limit (members_of (g.V.Shown.listed c.args.items))) c.in-Some.ensures c.if-not-is_within.ensures c.items.invariant.so_far

pub are_within-returns : goal.are_within-returns
are_within-returns g t c = passed-all c.args.limit (g.V.Shown.listed c.items.items) (λ b. TestDepths b c.args.limit (members_of (g.V.Shown.listed c.args.items))) c.in_default.ensures c.items.invariant.so_far

pub fields_within-is_within-requires : goal.fields_within-is_within-requires
fields_within-is_within-requires g t c κs within =
    let order = c.in-Some.ensures.order c.fields.invariant.ascending in
    let kept = subst g.V.Shown.kept (sym c.parts-value.ensures.value) order.0 in
    search rules

pub fields_within-fields-smaller : goal.fields_within-fields-smaller
fields_within-fields-smaller g t c = omega (arith, ap (λ (fs : List Named). length fs) c.in-Some.ensures.next)

pub fields_within-fields-preserved : goal.fields_within-fields-preserved
fields_within-fields-preserved g t c =
    let l = c.fields in
    let order = c.in-Some.ensures.order l.invariant.ascending in
    let valid = subst (λ (s : List ℕ). IsUtf8 s) c.parts-value.ensures.name c.is_text-formed.ensures.formed in
    let tested = subst (λ (v : Tree). TestsDepth true c.args.limit v) c.parts-value.ensures.value c.if-not-is_within.ensures in
    record {
      ascending = order.2;
      so_far = fields_passed-next c.args.limit (g.V.Shown.named l.fields) (g.V.Shown.parted c.in-Some.field) (g.V.Shown.named c.next_field.new.fields) (λ b. TestFieldDepths b c.args.limit (fields_of (g.V.Shown.named c.args.fields))) c.in-Some.ensures.next valid order.1 tested l.invariant.so_far;
    }

pub fields_within-returns-then-not-is_within : goal.fields_within-returns-then-not-is_within
fields_within-returns-then-not-is_within g t c =
    let tested = subst (λ (v : Tree). TestsDepth false c.args.limit v) c.parts-value.ensures.value c.if-not-is_within.ensures in
    fields_passed-fails c.args.limit (g.V.Shown.named c.fields.fields) (g.V.Shown.parted c.in-Some.field) (g.V.Shown.named c.next_field.new.fields) (λ b. TestFieldDepths b c.args.limit (fields_of (g.V.Shown.named c.args.fields))) c.in-Some.ensures.next tested c.fields.invariant.so_far

pub fields_within-returns : goal.fields_within-returns
fields_within-returns g t c = fields_passed-all c.args.limit (g.V.Shown.named c.fields.fields) (λ b. TestFieldDepths b c.args.limit (fields_of (g.V.Shown.named c.args.fields))) c.in_default.ensures.next c.fields.invariant.so_far
