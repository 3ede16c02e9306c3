-- A journal has a report.
use Rattle.silo_model.proofs.Common.{◌++◌, ◌+◌, ◌||◌, ◌∙◌, ◌∷◌, ◌≡◌, ◌≢◌, All-from_recursion, AllByRecursion, Bool, Decides, Equal-is}
use Rattle.silo_model.proofs.Common.{Grain, Less, List, Logic, Machine, None, Option, Ordering, Row, Rows, Some, Step, [], all_weaker, ap}
use Rattle.silo_model.proofs.Common.{arith, eq_by_cmp, false, grain_cmp, grain_cmp_exact, grain_cmp_total, is_some, length, list_any}
use Rattle.silo_model.proofs.Common.{list_any-append, machine_all_done, machine_step, map_list, none-some, option_and_then, or_right, refl}
use Rattle.silo_model.proofs.Common.{same_Some, start_of, subst, sym, tied_itself, true, true≢false, ℕ}
use Rattle.std.specs.Coded.{codes}
use Rattle.std.specs.declared.cmp.Ordering.TheVariants.{Equal}
use Rattle.std.specs.FinMap as map
use Rattle.std.proofs.lemmas.Bool.{or_left}
use base.Stored.{Coded}
use Rattle.grain_id.proofs.ByGrain.{alike}
use Rattle.request_codec.specs.Code.{coded_tree}
use Rattle.grain_storage.specs.Memory.{rows_of}
use Rattle.silo_model.proofs.SameCodes.{same_by_code, same_by_code_decides}
use Rattle.journal_text.specs.RecordedFault.{coded_code_and_text}
use Rattle.journal_text.specs.Text.{History}
use Rattle.journal_text.specs.declared.recorded.RecordedReply.{RecordedReply}
use Rattle.audit_model.specs.Parts.{all_recorded, replies_for, rows_for, setup_of, steps_for, tenants_in}
use Rattle.audit_model.specs.Difference.{AtEnd, DifferAt, Difference, IsDifference, RowsDifferAt, at_reply, at_row, at_step, first_of}
use Rattle.audit_model.specs.Report.{EachReport, IsTenantReport, TenantReport}
use Rattle.silo_model.proofs.Tests.{either_way, on_found, on_test}

coded_reply : Coded RecordedReply
coded_reply = Prim.hlevel (codes, coded_tree, coded_code_and_text)

coded_found : Coded (Option Row)
coded_found = Prim.hlevel (codes, coded_tree)

apart_by : {P : Type 0} (b : Bool) → Decides b P → b ≡ false → P → ⊥
apart_by b decides is p = true≢false (sym (decides.1 p) ∙ is)

-- ---- two lists

abbrev IsPlace : {A : Type 0} → List A → List A → Option ℕ → Type 0
IsPlace xs ys None = xs ≡ ys
IsPlace xs ys (Some n) = DifferAt xs ys n

place_later : {A : Type 0} (x y : A) (xs ys : List A) → x ≡ y → (o : Option ℕ) × IsPlace xs ys o → (o : Option ℕ) × IsPlace (x ∷ xs) (y ∷ ys) o
place_later x y xs ys same (None, e) = (None, λ i. same i ∷ e i)
place_later x y xs ys same (Some n, d) = (
  Some (n + 1),
  record {
    common = x ∷ d.common;
    left = d.left;
    right = d.right;
    left_parts = ap (λ rest. x ∷ rest) d.left_parts;
    right_parts = λ i. sym same i ∷ d.right_parts i;
    place = omega (arith, d.place);
    apart = d.apart;
  },
)

place_here : {A : Type 0} (xs ys : List A) → first_of xs ≢ first_of ys → (o : Option ℕ) × IsPlace xs ys o
place_here xs ys apart = (Some 1, record { common = []; left = xs; right = ys; left_parts = refl; right_parts = refl; place = omega arith; apart = apart })

module _ {A : Type 0} (c : Coded A) where
  place_of : (xs ys : List A) → (o : Option ℕ) × IsPlace xs ys o
  place_of [] [] = (None, refl)
  place_of [] (y ∷ ys) = place_here [] (y ∷ ys) (λ e. none-some y e)
  place_of (x ∷ xs) [] = place_here (x ∷ xs) [] (λ e. none-some x (sym e))
  place_of (x ∷ xs) (y ∷ ys) =
      either_way (same_by_code c x y) (λ is. place_later x y xs ys ((same_by_code_decides c x y).0 is) (place_of xs ys))
      (λ is. place_here (x ∷ xs) (y ∷ ys) (λ e. apart_by (same_by_code c x y) (same_by_code_decides c x y) is (same_Some x y e)))

-- ---- the rows

module _ (rows others : Rows) where
  abbrev Alike : Grain → Type 0
  Alike g = map.get rows g ≡ map.get others g

  -- of some grains, the least that has another row
  abbrev IsLeast : List Grain → Option Grain → Type 0
  IsLeast grains None = AllByRecursion Alike grains
  IsLeast grains (Some g) = (Alike g → ⊥) × AllByRecursion (λ h. grain_cmp h g ≡ Less → Alike h) grains

  not_below : (g : Grain) → grain_cmp g g ≡ Less → Alike g
  not_below g below = absurd (let e : Less ≡ Equal = sym below ∙ tied_itself grain_cmp_total g in cc)

  -- the rows below a grain are alike
  abbrev AlikeBelow : Grain → Grain → Type 0
  AlikeBelow g h = grain_cmp h g ≡ Less → Alike h

  least_alike : (k : Grain) (grains : List Grain) → Alike k → (o : Option Grain) × IsLeast grains o → (o : Option Grain) × IsLeast (k ∷ grains) o
  least_alike k grains same (None, all) = (None, (same, all))
  least_alike k grains same (Some g, least) = (Some g, (least.0, (λ below. same, least.1)))

  least_apart : (k : Grain) (grains : List Grain) → (Alike k → ⊥) → (o : Option Grain) × IsLeast grains o → (o : Option Grain) × IsLeast (k ∷ grains) o
  least_apart k grains apart (None, all) =
      (Some k, (apart, (not_below k, all_weaker Alike (AlikeBelow k) grains (λ h same below. same) all)))
  least_apart k grains apart (Some g, least) = by_order (grain_cmp k g) refl
    where
      by_order : (r : Ordering) → grain_cmp k g ≡ r → (o : Option Grain) × IsLeast (k ∷ grains) o
      by_order Less is =
          let lower = all_weaker (AlikeBelow g) (AlikeBelow k) grains (λ h same under. same (grain_cmp_total.trans h k g under is)) least.1 in
          (Some k, (apart, (not_below k, lower)))
      by_order _ is = (Some g, (least.0, (λ below. absurd (let e = sym below ∙ is in cc), least.1)))

  least_of : (grains : List Grain) → (o : Option Grain) × IsLeast grains o
  least_of [] = (None, tt)
  least_of (k ∷ grains) =
      let decides = same_by_code_decides coded_found (map.get rows k) (map.get others k) in
      either_way (same_by_code coded_found (map.get rows k) (map.get others k))
      (λ is. least_alike k grains (decides.0 is) (least_of grains)) (λ is. least_apart k grains (apart_by _ decides is) (least_of grains))

  abbrev all_grains : List Grain
  all_grains = map.keys rows ++ map.keys others

  listed_of : (P : Grain → Type 0) (g : Grain) (grains : List Grain) → list_any (eq_by_cmp grain_cmp g) grains ≡ true → AllByRecursion P grains → P g
  listed_of P g [] listed all = absurd (true≢false (sym listed))
  listed_of P g (h ∷ grains) listed all =
      on_test (λ b. (b || list_any (eq_by_cmp grain_cmp g) grains) ≡ true → P g) (eq_by_cmp grain_cmp g h)
      (λ tied l. subst P (sym (grain_cmp_exact g h ((Equal-is (grain_cmp g h)).0 tied))) all.0)
      (λ _ l. listed_of P g grains l all.1) listed

  in_all : (g : Grain) → list_any (eq_by_cmp grain_cmp g) all_grains ≡ (is_some (map.get rows g) || is_some (map.get others g))
  in_all g = list_any-append (eq_by_cmp grain_cmp g) (map.keys rows) (map.keys others) ∙ (λ i. sym (map.contains_key-keys rows g) i || sym (map.contains_key-keys others g) i)

  -- what holds of each grain that has a row in one of them, holds of all, if it holds of grains that have the same rows
  at_all : (P : Grain → Type 0) → ((g : Grain) → Alike g → P g) → AllByRecursion P all_grains → (g : Grain) → P g
  at_all P same all g =
      on_found (λ _. P g) (map.get rows g)
      (λ is.
      on_found (λ _. P g) (map.get others g) (λ is_too. same g (is ∙ sym is_too))
      (λ row is_too. listed_of P g all_grains (in_all g ∙ or_right _ _ (ap is_some is_too)) all))
      (λ row is. listed_of P g all_grains (in_all g ∙ or_left _ _ (ap is_some is)) all)

  abbrev IsFirstRow : Option Grain → Type 0
  IsFirstRow None = rows ≡ others
  IsFirstRow (Some g) = RowsDifferAt rows others g

  row_by : (o : Option Grain) × IsLeast all_grains o → (o : Option Grain) × IsFirstRow o
  row_by (None, all) = (None, alike rows others (at_all Alike (λ g same. same) all))
  row_by (Some g, least) = (Some g, record { apart = least.0; least = at_all (λ h. grain_cmp h g ≡ Less → Alike h) (λ h same below. same) least.1 })

-- ---- the first difference

module _ (logic : Logic) (replies : List RecordedReply) (rows : Rows) where
  abbrev Differs : Machine → List Step → Type 0
  Differs m steps = (d : Option Difference) × IsDifference logic m steps replies rows d

  at_rows : (m : Machine) → replies ≡ all_recorded m.replies → (o : Option Grain) × IsFirstRow rows m.rows o → Differs m []
  at_rows m same (None, alike_rows) = (None, (m, refl, (same, alike_rows)))
  at_rows m same (Some g, row) = (Some (at_row g), (m, refl, (same, row)))

  at_replies : (m : Machine) → (o : Option ℕ) × IsPlace replies (all_recorded m.replies) o → Differs m []
  at_replies m (None, same) = at_rows m same (row_by rows m.rows (least_of rows m.rows (all_grains rows m.rows)))
  at_replies m (Some n, place) = (Some (at_reply n), (m, refl, place))

  end_later : (m next : Machine) (s : Step) (steps : List Step) (holds : Machine → Type 0) → machine_step logic m s ≡ Some next → AtEnd logic next steps holds → AtEnd logic m (s ∷ steps) holds
  end_later m next s steps holds step end = (end.0, ap (option_and_then (λ x. machine_all_done logic x steps)) step ∙ end.1, end.2)

  later : (m next : Machine) (s : Step) (steps : List Step) → machine_step logic m s ≡ Some next → Differs next steps → Differs m (s ∷ steps)
  later m next s steps step (None, end) = (None, end_later m next s steps _ step end)
  later m next s steps step (Some (at_step n), at) = (
    Some (at_step (n + 1)),
    record {
      before = s ∷ at.before;
      step = at.step;
      after = at.after;
      reached = at.reached;
      parts = ap (λ rest. s ∷ rest) at.parts;
      place = omega (arith, at.place);
      done = ap (option_and_then (λ x. machine_all_done logic x at.before)) step ∙ at.done;
      stops = at.stops;
    },
  )
  later m next s steps step (Some (at_reply n), end) = (Some (at_reply n), end_later m next s steps _ step end)
  later m next s steps step (Some (at_row g), end) = (Some (at_row g), end_later m next s steps _ step end)

  first_difference : (m : Machine) (steps : List Step) → Differs m steps
  first_difference m [] = at_replies m (place_of coded_reply replies (all_recorded m.replies))
  first_difference m (s ∷ steps) =
      on_found (λ _. Differs m (s ∷ steps)) (machine_step logic m s)
      (λ none. (
        Some (at_step 1),
        record { before = []; step = s; after = steps; reached = m; parts = refl; place = omega arith; done = refl; stops = none },
      ))
      (λ next is. later m next s steps is (first_difference next steps))

-- ---- the report

module _ (logic : Logic) (journal : History) where
  report_of : (tenant : List ℕ) → (report : TenantReport) × (report.tenant ≡ tenant) × IsTenantReport logic journal report
  report_of tenant =
      let found = first_difference logic (replies_for tenant journal) (rows_of (rows_for tenant journal)) (start_of (setup_of journal) tenant) (steps_for tenant journal) in (
        record { tenant = tenant; steps = length (steps_for tenant journal); replies = length (replies_for tenant journal); rows = length (rows_for tenant journal); difference = found.0 },
        refl,
        record { steps = refl; replies = refl; rows = refl; difference = found.1 },
      )

  reports_of : (tenants : List (List ℕ)) → (reports : List TenantReport) × (map_list (λ (r : TenantReport). r.tenant) reports ≡ tenants) × AllByRecursion (IsTenantReport logic journal) reports
  reports_of [] = ([], refl, tt)
  reports_of (tenant ∷ tenants) =
      let first = report_of tenant in
      let rest = reports_of tenants in
      (first.0 ∷ rest.0, (λ i. first.1 i ∷ rest.1 i), (first.2, rest.2))

pub each_report : EachReport
each_report logic journal =
    let found = reports_of logic journal (tenants_in journal) in
    (found.0, record { tenants = found.1; each = All-from_recursion (IsTenantReport logic journal) found.0 found.2 })
