-- The plans of relays keep the laws.
use Rattle.std.proofs.Common.{◌≡◌, ℕ, suc, ◌*◌, ◌≤◌, Bool, true, false, ◌&&◌, List, [], ◌∷◌, ◌++◌, length, map, Option, Some, None}
use Rattle.std.proofs.Common.{Result, Ok, Err, leb, ltb-true, ltb-false, refl, ap, sym, ◌∙◌, subst, arith}
use Rattle.std.specs.Prelude.{pos, IsTrue, IsUtf8, FitsSigned, nat_lt, if◌then◌else◌, codes, option_map, option_and_then}
use Rattle.std.specs.Cmp.{first_so, second_so}
use Rattle.std.specs.Int.{w64}
use Rattle.std.specs.List.{AllByRecursion}
use Rattle.std.specs.Option.{unwrap_or}
use Rattle.std.proofs.lemmas.Bool.{leb-true}
use Rattle.std.proofs.lemmas.List.{length-append}
use Rattle.std.proofs.lemmas.Option.{same_Some}
use Rattle.grain_id.specs.Names.{Grain, is_grain, grain_text, same_text}
use Rattle.grain_id.specs.Reading.{◌>>=◌, cut_at, part, or_fault, grain_read}
use Rattle.grain_id.specs.Words.{is_word, is_name}
use Rattle.grain_id.specs.declared.fault.IdFault.{IdFault}
use Rattle.grain_id.specs.declared.fault.IdFault.TheVariants as faults
use Rattle.grain_id.proofs.Reading.{cut_at-joined, word_length, grain_parts}
use Rattle.request_codec.specs.Answers.{members_length}
use Rattle.request_codec.specs.Call.{Call, asks}
use Rattle.request_codec.specs.Formed.{IsFormed, AreFormed}
use Rattle.request_codec.specs.Tree as tree
use Rattle.request_codec.specs.Tree.{Tree, truth, integer, members_depth, Members, no_members, member, members_count, members_of}
use Rattle.grain_logic.proofs.KeepSame.{IsSilent, shape_silent}
use Rattle.grain_logic.specs.declared.fault.MethodFault.{MethodFault}
use Rattle.grain_logic.specs.declared.fault.MethodFault.TheVariants.{OutOfRange}
use Rattle.grain_kinds.specs.inside.Held.{HoldsTwo, two_fields, two_fit, text_second, text_formed}
use Rattle.grain_logic.specs.Laws.{FitsState, FitsMessage, FitsSend}
use Rattle.grain_logic.specs.LawsOfForms.{ObeysLaws, truth_fits, whole_fits, if_holds, keeps_obeys, fault_obeys, becomes_obeys}
use Rattle.grain_logic.specs.LawsOfForms.{for_shape_obeys}
use Rattle.grain_kinds.specs.Kinds.Relay.{grain_found, grain_named, grain_value, grains_in, names_one, are_distinct, member_limit}
use Rattle.grain_kinds.specs.Kinds.Relay.{members_in, text_of, relay_of, without, joined_plan, join_plan, leave_plan, sends_to}
use Rattle.grain_kinds.specs.Kinds.Relay.{send_plan, send_argument, relay_methods, relay}
use Rattle.grain_logic.specs.LawsOfTables.{IsLawfulKind, changes_lawful}
use Rattle.grain_kinds.specs.Kinds.EveryKind.{every_kind}
use Rattle.grain_kinds.specs.Kinds.EveryKind.Laws.{every_kind_lawful, every_silent}
use Rattle.grain_kinds.specs.Rows.{IsRow, IsSilentMethod, had, had_silent}
use Rattle.grain_logic.specs.Shared.{only_fields, text_value, text_field}

-- ---- what is read is the text of a grain

step_back : {A B : Type 0} (r : Result A IdFault) (f : A → Result B IdFault) (y : B) → (r >>= f) ≡ Ok y
    → (x : A) × (r ≡ Ok x) × (f x ≡ Ok y)
step_back (Ok x) f y e = (x, refl, e)
step_back (Err fault) f y e = absurd cc

passed : (b : Bool) (fault : IdFault) (bytes found : List ℕ)
    → ◌≡◌ {A = Result (List ℕ) IdFault} (if b then Ok bytes else Err fault) (Ok found) → (b ≡ true) × (bytes ≡ found)
passed true fault bytes found e = (refl, cc)
passed false fault bytes found e = absurd cc

cut_back : {A : Type 0} (fault : IdFault) (o : Option A) (x : A) → or_fault fault o ≡ Ok x → o ≡ Some x
cut_back fault None x e = absurd cc
cut_back fault (Some y) x e = let same : y ≡ x = cc in ap Some same

-- a grain, with the text that it was read from
record IsNamed (s : List ℕ) (g : Grain) : Type 0 where
  is_well_formed : IsTrue (is_grain g)
  is_text : s ≡ grain_text g

all_three : (a b c : Bool) → a ≡ true → b ≡ true → c ≡ true → (a && b && c) ≡ true
all_three a b c e f h = rw (e, f, h)

made : (kind tenant name : List ℕ) (g : Grain)
    → ◌≡◌ {A = Result Grain IdFault} (Ok (record { kind = kind; tenant = tenant; name = name })) (Ok g)
    → ◌≡◌ {A = Grain} (record { kind = kind; tenant = tenant; name = name }) g
made kind tenant name g e = cc

-- the steps of reading a grain, each with what was read before it
abbrev with_name : List ℕ → List ℕ → List ℕ → Result Grain IdFault
with_name kind tenant name = Ok (record { kind = kind; tenant = tenant; name = name })

abbrev with_tenant : List ℕ → List ℕ → List ℕ → Result Grain IdFault
with_tenant kind rest tenant = part is_name faults.Name rest >>= with_name kind tenant

abbrev with_rest : List ℕ → List ℕ × List ℕ → Result Grain IdFault
with_rest kind cut = part is_word faults.Tenant cut.0 >>= with_tenant kind cut.1

abbrev with_kind : List ℕ → List ℕ → Result Grain IdFault
with_kind rest kind = or_fault faults.Tenant (cut_at 58 rest) >>= with_rest kind

abbrev with_cut : List ℕ × List ℕ → Result Grain IdFault
with_cut cut = part is_word faults.Kind cut.0 >>= with_kind cut.1

built : (s front rest middle end kind tenant name : List ℕ) (g : Grain) → cut_at 47 s ≡ Some (front, rest)
    → cut_at 58 rest ≡ Some (middle, end)
    → (is_word front ≡ true) × (front ≡ kind) → (is_word middle ≡ true) × (middle ≡ tenant) → (is_name end ≡ true) × (end ≡ name)
    → ◌≡◌ {A = Grain} (record { kind = kind; tenant = tenant; name = name }) g → IsNamed s g
built s front rest middle end kind tenant name g first second k t n is =
    let inner : rest ≡ tenant ++ 58 ∷ name = cut_at-joined 58 rest middle end second ∙ (λ i. t.1 i ++ 58 ∷ n.1 i) in
    let outer : s ≡ kind ++ 47 ∷ (tenant ++ 58 ∷ name) = cut_at-joined 47 s front rest first ∙ (λ i. k.1 i ++ 47 ∷ inner i) in
    let here : IsNamed s (record { kind = kind; tenant = tenant; name = name }) = record {
      is_well_formed =
          all_three (is_word kind) (is_word tenant) (is_name name) (ap is_word (sym k.1) ∙ k.0) (ap is_word (sym t.1) ∙ t.0)
          (ap is_name (sym n.1) ∙ n.0);
      is_text = outer;
    } in
    subst (IsNamed s) is here

read_back : (s : List ℕ) (g : Grain) → grain_read s ≡ Ok g → IsNamed s g
unfolding grain_read
read_back s g e =
    let (first, first_cut, after_first) = step_back (or_fault faults.Kind (cut_at 47 s)) with_cut g e in
    let (kind, kind_passed, after_kind) = step_back (part is_word faults.Kind first.0) (with_kind first.1) g after_first in
    let (second, second_cut, after_second) = step_back (or_fault faults.Tenant (cut_at 58 first.1)) (with_rest kind) g after_kind in
    let (tenant, tenant_passed, after_tenant) = step_back (part is_word faults.Tenant second.0)
    (with_tenant kind second.1) g after_second in
    let (name, name_passed, is) = step_back (part is_name faults.Name second.1) (with_name kind tenant) g after_tenant in
    let k = passed (is_word first.0) faults.Kind first.0 kind kind_passed in
    let t = passed (is_word second.0) faults.Tenant second.0 tenant tenant_passed in
    let n = passed (is_name second.1) faults.Name second.1 name name_passed in
    built s first.0 first.1 second.0 second.1 kind tenant name g (cut_back faults.Kind (cut_at 47 s) first first_cut)
    (cut_back faults.Tenant (cut_at 58 first.1) second second_cut)
    (passed (is_word first.0) faults.Kind first.0 kind kind_passed) (passed (is_word second.0) faults.Tenant second.0 tenant tenant_passed)
    (passed (is_name second.1) faults.Name second.1 name name_passed)
    (made kind tenant name g is)

found_back : (r : Result Grain IdFault) (g : Grain) → grain_found r ≡ Some g → r ≡ Ok g
found_back (Ok h) g e = ap Ok (same_Some h g e)
found_back (Err fault) g e = absurd cc

named : (s : List ℕ) (g : Grain) → grain_named s ≡ Some g → IsNamed s g
named s g e = read_back s g (found_back (grain_read s) g e)

-- ---- a member keeps its limits

pub record MemberFits (g : Grain) : Type 0 where
  pub well_formed : IsTrue (is_grain g)
  pub utf8 : IsUtf8 (grain_text g)

member_named : (s : List ℕ) (g : Grain) → grain_named s ≡ Some g → IsUtf8 s → MemberFits g
member_named s g e utf8 = let is = named s g e in record { well_formed = is.is_well_formed; utf8 = subst IsUtf8 is.is_text utf8 }

member_value : (v : Tree) (g : Grain) → grain_value v ≡ Some g → IsFormed v → MemberFits g
member_value (tree.text s) g e formed = member_named s g e formed
member_value tree.null g e formed = absurd cc
member_value (tree.truth b) g e formed = absurd cc
member_value (tree.integer i) g e formed = absurd cc
member_value (tree.list vs) g e formed = absurd cc
member_value (tree.map fs) g e formed = absurd cc
member_value (tree.bytes b) g e formed = absurd cc

name_length : (name : List ℕ) → is_name name ≡ true → length name ≤ 128
unfolding is_name
name_length name is = leb-true (length name) 128 (second_so _ (leb (length name) 128) (first_so _ _ is))

text_length : (g : Grain) → IsTrue (is_grain g) → length (grain_text g) ≤ 194
text_length g ok =
    let parts = grain_parts g ok in
    omega (
      arith,
      length-append g.kind (47 ∷ (g.tenant ++ 58 ∷ g.name)),
      length-append g.tenant (58 ∷ g.name),
      word_length g.kind parts.0,
      word_length g.tenant parts.1,
      name_length g.name parts.2,
    )

-- ---- the members of a state

pushed : (o : Option Grain) (found : Option (List Grain)) (gs : List Grain)
    → option_and_then (λ g. option_map (λ (hs : List Grain). g ∷ hs) found) o ≡ Some gs
    → (g : Grain) × (hs : List Grain) × (o ≡ Some g) × (found ≡ Some hs) × (g ∷ hs ≡ gs)
pushed None found gs e = absurd cc
pushed (Some g) None gs e = absurd cc
pushed (Some g) (Some hs) gs e = (g, hs, refl, refl, same_Some (g ∷ hs) gs e)

pub grains_count : (vs : Members) (gs : List Grain) → grains_in vs ≡ Some gs → length gs ≡ members_count vs
grains_count no_members gs e = ap length (sym (same_Some [] gs e))
grains_count (member v vs) gs e =
    let parts = pushed (grain_value v) (grains_in vs) gs e in
    ap length (sym parts.4) ∙ ap suc (grains_count vs parts.1 parts.3)

grains_fit : (vs : Members) (gs : List Grain) → grains_in vs ≡ Some gs → AreFormed vs → AllByRecursion MemberFits gs
grains_fit no_members gs e formed = subst (AllByRecursion MemberFits) (same_Some [] gs e) tt
grains_fit (member v vs) gs e formed =
    let parts = pushed (grain_value v) (grains_in vs) gs e in
    subst (AllByRecursion MemberFits) parts.4 (member_value v parts.0 parts.2 formed.0, grains_fit vs parts.1 parts.3 formed.1)

-- grains that may be members
record MembersFit (gs : List Grain) : Type 0 where
  each_fits : AllByRecursion MemberFits gs
  few : length gs ≤ 4

none_fit : MembersFit []
none_fit = record { each_fits = tt; few = omega arith }

found_fit : (vs : Members) (o : Option (List Grain)) → grains_in vs ≡ o → AreFormed vs → members_count vs ≤ 4 → MembersFit (unwrap_or o [])
found_fit vs None is formed few = none_fit
found_fit vs (Some gs) is formed few = record { each_fits = grains_fit vs gs is formed; few = omega (arith, grains_count vs gs is) }

list_fit : (vs : Members) → AreFormed vs → MembersFit (members_in (tree.list vs))
list_fit vs formed =
    if_holds MembersFit (nat_lt member_limit (members_count vs)) [] _ (λ many. none_fit)
    (λ few. if_holds MembersFit (are_distinct (unwrap_or (grains_in vs) [])) _ []
    (λ distinct. found_fit vs (grains_in vs) refl formed (ltb-false member_limit (members_count vs) few)) (λ twice. none_fit))

members_fit : (state : Tree) → IsFormed state → MembersFit (members_in state)
members_fit (tree.list vs) formed = list_fit vs formed
members_fit tree.null formed = none_fit
members_fit (tree.truth b) formed = none_fit
members_fit (tree.integer i) formed = none_fit
members_fit (tree.text s) formed = none_fit
members_fit (tree.map fs) formed = none_fit
members_fit (tree.bytes b) formed = none_fit

-- ---- the state of members

texts_formed : (gs : List Grain) → AllByRecursion MemberFits gs → AreFormed (members_of (map text_of gs))
texts_formed [] each = tt
texts_formed (g ∷ gs) each = (each.0.utf8, texts_formed gs each.1)

texts_depth : (gs : List Grain) → members_depth (members_of (map text_of gs)) ≤ 1
texts_depth [] = omega arith
texts_depth (g ∷ gs) = omega (arith, texts_depth gs)

texts_length : (gs : List Grain) → AllByRecursion MemberFits gs → members_length (members_of (map text_of gs)) ≤ 199 * length gs
texts_length [] each = omega arith
texts_length (g ∷ gs) each = omega (arith, texts_length gs each.1, text_length g each.0.well_formed)

relay_fits : (gs : List Grain) → MembersFit gs → FitsState (relay_of gs)
relay_fits gs fit = record {
  formed = texts_formed gs fit.each_fits;
  depth_within = omega (arith, texts_depth gs);
  length_within = omega (arith, texts_length gs fit.each_fits, fit.few);
}

-- ---- join

all_added : (gs : List Grain) (g : Grain) → AllByRecursion MemberFits gs → MemberFits g → AllByRecursion MemberFits (gs ++ g ∷ [])
all_added [] g each fits = (fits, tt)
all_added (h ∷ gs) g each fits = (each.0, all_added gs g each.1 fits)

join_obeys : (state argument : Tree) (method s : List ℕ) → text_field (codes "grain") argument ≡ Some s
    → ObeysLaws state (asks method argument) (join_plan state s)
join_obeys state argument method s held =
    let call = asks method argument in
    let members = members_in state in
    for_shape_obeys state call (grain_named s) (joined_plan state members) (λ g found.
    if_holds (ObeysLaws state call) (names_one (grain_text g) members) _ _
    (λ there. keeps_obeys state call (Ok (truth false)) (λ st m. truth_fits false))
    (λ new. if_holds (ObeysLaws state call) (nat_lt (length members) member_limit) _ _
    (λ room. becomes_obeys state call (relay_of (members ++ g ∷ [])) (truth true) (λ st m.
    let fit = members_fit state st.formed in
    let added = member_named s g found (text_formed (codes "grain") argument s held m.argument_formed) in (
      relay_fits (members ++ g ∷ [])
          (record {
            each_fits = all_added members g fit.each_fits added;
            few = omega (arith, length-append members (g ∷ []), ltb-true (length members) member_limit room);
          }),
      truth_fits true,
    )))
    (λ full. fault_obeys state call OutOfRange)))

-- ---- leave

without_fits : (s : List ℕ) (gs : List Grain) → AllByRecursion MemberFits gs → AllByRecursion MemberFits (without s gs)
without_fits s [] each = tt
without_fits s (g ∷ gs) each =
    if_holds (AllByRecursion MemberFits) (same_text (grain_text g) s) (without s gs) (g ∷ without s gs) (λ left. without_fits s gs each.1)
    (λ stays. (each.0, without_fits s gs each.1))

without_few : (s : List ℕ) (gs : List Grain) → length (without s gs) ≤ length gs
without_few s [] = omega arith
without_few s (g ∷ gs) =
    let fewer = without_few s gs in
    if_holds (λ (hs : List Grain). length hs ≤ suc (length gs)) (same_text (grain_text g) s) (without s gs) (g ∷ without s gs)
    (λ left. omega arith) (λ stays. omega arith)

leave_obeys : (state : Tree) (call : Call) (s : List ℕ) → ObeysLaws state call (leave_plan state s)
leave_obeys state call s = becomes_obeys state call _ _ (λ st m.
    let fit = members_fit state st.formed in (
      relay_fits (without s (members_in state))
          (record {
            each_fits = without_fits s (members_in state) fit.each_fits;
            few = omega (arith, without_few s (members_in state), fit.few);
          }),
      truth_fits _,
    ))

-- ---- send

small_fits : (n : ℕ) → n ≤ 4 → FitsSigned w64 (pos n)
small_fits n few = record { sfits = omega arith }

sends_fit : (gs : List Grain) (method : List ℕ) (v : Tree) → AllByRecursion MemberFits gs → FitsMessage (asks method v)
    → AllByRecursion FitsSend (sends_to gs method v)
sends_fit [] method v each fits = tt
sends_fit (g ∷ gs) method v each fits = (record { target_formed = each.0.well_formed; call_fits = fits }, sends_fit gs method v each.1 fits)

sends_count : (gs : List Grain) (method : List ℕ) (v : Tree) → length (sends_to gs method v) ≡ length gs
sends_count [] method v = refl
sends_count (g ∷ gs) method v = ap suc (sends_count gs method v)

send_if : (argument : Tree) (o : Option (Tree × Tree)) (v : Tree) (s : List ℕ) → only_fields (codes "args") (codes "method") argument ≡ o
    → option_and_then {U = Tree × List ℕ} (λ values. option_map (λ method. (values.0, method)) (text_value values.1)) o ≡ Some (v, s)
    → HoldsTwo v (tree.text s) argument
send_if argument None v s is e = absurd cc
send_if argument (Some p) v s is e =
    let parts = text_second p.0 p.1 s v e in
    subst (λ (x : Tree). HoldsTwo x (tree.text s) argument) parts.0
    (subst (λ (y : Tree). HoldsTwo p.0 y argument) parts.1 (two_fields (codes "args") (codes "method") argument p.0 p.1 is))

no_fault : (value : Tree) (fault : MethodFault) → ◌≡◌ {A = Result Tree MethodFault} (Ok value) (Err fault) → ⊥
no_fault value fault e = cc

send_obeys : (state argument : Tree) (method : List ℕ) (v : Tree) (s : List ℕ) → send_argument argument ≡ Some (v, s)
    → ObeysLaws state (asks method argument) (send_plan state (v, s))
send_obeys state argument method v s held =
    let members = members_in state in
    record {
      faults_change_nothing = λ fault e. absurd (no_fault (integer (pos (length members))) fault e);
      askers_leave_all = λ asked. absurd (asked refl);
      keeps_limits = λ st m.
          let fit = members_fit state st.formed in
          let fits = two_fit method v (tree.text s) argument (send_if argument _ v s refl held) m in
          let sent : FitsMessage (asks s v) = record {
            method_formed = fits.second_formed;
            argument_formed = fits.first_formed;
            depth_within = omega (arith, fits.first_depth);
            length_within = omega (arith, fits.length_within);
          } in
          record {
            state_fits = st;
            outcome_fits = whole_fits (pos (length members)) (small_fits (length members) fit.few);
            sends_fit = sends_fit members s v fit.each_fits sent;
            sends_few = omega (arith, sends_count members s v, fit.few);
          };
      stays_in_range = tt;
    }

-- ---- all methods

relay_lawful : IsLawfulKind relay
unfolding relay_methods
relay_lawful = record {
  empty_fits = record { formed = tt; depth_within = omega arith; length_within = omega arith };
  methods_lawful = (
    changes_lawful (codes "join") 1 _ (λ state argument.
        for_shape_obeys state (asks (codes "join") argument) (text_field (codes "grain") argument) (join_plan state)
        (λ s held. join_obeys state argument (codes "join") s held)),
    (
      changes_lawful (codes "leave") 1 _ (λ state argument.
          for_shape_obeys state (asks (codes "leave") argument) (text_field (codes "grain") argument) (leave_plan state)
          (λ s held. leave_obeys state _ s)),
      (
        changes_lawful (codes "send") 1 _ (λ state argument.
            for_shape_obeys state (asks (codes "send") argument) (send_argument argument) (send_plan state)
            (λ send held. send_obeys state argument (codes "send") send.0 send.1 held)),
        every_kind_lawful,
      ),
    ),
  );
}

relay_silent : AllByRecursion IsSilentMethod (had 1 relay_methods)
unfolding relay_methods
relay_silent = (
  λ state argument. shape_silent state (text_field (codes "grain") argument) (join_plan state)
      (λ s. shape_silent state (grain_named s) (joined_plan state (members_in state))
      (λ g. if_holds IsSilent (names_one (grain_text g) (members_in state)) _ _ (λ e. record { is_same = refl })
      (λ e. if_holds IsSilent (nat_lt (length (members_in state)) member_limit) _ _ (λ e. record { is_same = refl })
      (λ e. record { is_same = refl })))),
  (
    λ state argument. shape_silent state (text_field (codes "grain") argument) (leave_plan state) (λ s. record { is_same = refl }),
    (
      λ state argument. shape_silent state (send_argument argument) (send_plan state) (λ send. record { is_same = refl }),
      every_silent,
    ),
  ),
)

pub relay_row : IsRow relay
unfolding relay_methods every_kind
relay_row = record { lawful = relay_lawful; stands = refl; silent = had_silent 1 relay_methods relay_silent }
