-- Parts of the reports, from which one report after another is taken.
use Rattle.std.proofs.Common.{◌≡◌, ℕ, ◌+◌, ◌<◌, ◌%◌, Bool, true, false, List, [], ◌∷◌, ◌++◌, length, drop, get_or, refl, ap, sym, ◌∙◌, subst, arith, rules}
use Rattle.std.specs.Prelude.{◌==◌, if◌then◌else◌, slice_index_or}
use Rattle.std.specs.declared.alloc.Global.{Global}
use Rattle.std.specs.declared.collections.VecDeque.{VecDeque}
use Rattle.std.proofs.lemmas.List.Elements.{All-head, All-tail}
use Rattle.journal_text.specs.Text.{History}
use Rattle.grain_kinds.specs.Kinds.{logic_of}
use Rattle.audit_model.specs.Report.{IsTenantReport}
use Rattle.tenant_audit.specs.ReportView.{tenant_report_of}
use Rattle.tenant_audit.specs.declared.report.TenantReport.{TenantReport}
use Rattle.tenant_audit.specs.inside.Parts.{strided, reported, AreReports, IsPart, AreParts, TakesFirst}
use Rattle.tenant_audit.proofs.Strided.{strided_here, strided_elsewhere}

module _ (journal : History) (tenants : List (List ℕ)) (w k i : ℕ) (d : List ℕ) (within : i < length tenants) where
  -- the part that has the place has a report of its tenant first
  pub first_there : (old : List TenantReport) → (i % w == k) ≡ true → IsPart journal (drop i tenants) w k i old → 0 < length old
  first_there [] here part = absurd (let e = part.named ∙ strided_here w k tenants i d within here in cc)
  first_there (r ∷ rest) here part = omega arith

  module _ (r : TenantReport) (old new : List TenantReport) (part : IsPart journal (drop i tenants) w k i old) where
    module _ (here : (i % w == k) ≡ true) (taken : old ≡ r ∷ new) where
      both : r.tenant ∷ reported new ≡ get_or tenants i d ∷ strided w k (i + 1) (drop (i + 1) tenants)
      both = sym (ap reported taken) ∙ part.named ∙ strided_here w k tenants i d within here

      pub taken_tenant : r.tenant ≡ get_or tenants i d
      taken_tenant = let e = both in cc

      pub taken_report : IsTenantReport (logic_of journal.kinds) journal (tenant_report_of r)
      taken_report = All-head (λ s. IsTenantReport (logic_of journal.kinds) journal (tenant_report_of s)) r new (subst (AreReports journal) taken part.each)

      taken_rest : IsPart journal (drop (i + 1) tenants) w k (i + 1) new
      taken_rest = record {
        named = let e = both in cc;
        each = All-tail (λ s. IsTenantReport (logic_of journal.kinds) journal (tenant_report_of s)) r new (subst (AreReports journal) taken part.each);
      }

    pub part_moves : (b : Bool) → (i % w == k) ≡ b → old ≡ (if b then r ∷ [] else []) ++ new → IsPart journal (drop (i + 1) tenants) w k (i + 1) new
    part_moves true here taken = taken_rest here taken
    part_moves false elsewhere same = record {
      named = ap reported (sym same) ∙ part.named ∙ strided_elsewhere w k tenants i d within elsewhere;
      each = subst (AreReports journal) same part.each;
    }

same_place : (n : ℕ) → (n == n) ≡ true
same_place n = search rules

some_of : {X : Type 0} (xs : List X) → 0 < length xs → X
some_of [] some = absurd (omega (arith, some))
some_of (x ∷ xs) some = x

module _ (journal : History) (tenants : List (List ℕ)) (i : ℕ) (within : i < length tenants) (old : List (VecDeque TenantReport Global)) (some : 0 < length old) (parts : AreParts journal tenants i old) where
  abbrev place : ℕ
  place = i % length old

  its_part : (d : VecDeque TenantReport Global) → IsPart journal (drop i tenants) (length old) place i (slice_index_or old place d).items
  its_part d = parts place d (omega (arith, some))

  pub has_first : (d : VecDeque TenantReport Global) → 0 < length (slice_index_or old place d).items
  has_first d = first_there journal tenants (length old) place i [] within (slice_index_or old place d).items (same_place place) (its_part d)

  module _ (r : TenantReport) (new : List (VecDeque TenantReport Global)) (taken : TakesFirst old place r new) where
    abbrev d : VecDeque TenantReport Global
    d = some_of old some

    taken_here : (slice_index_or old place d).items ≡ r ∷ (slice_index_or new place d).items
    taken_here = taken place d (omega (arith, some)) ∙ ap (λ b. (if b then r ∷ [] else []) ++ (slice_index_or new place d).items) (same_place place)

    pub next_tenant : r.tenant ≡ get_or tenants i []
    next_tenant = taken_tenant journal tenants (length old) place i [] within r (slice_index_or old place d).items (slice_index_or new place d).items (its_part d) (same_place place) taken_here

    pub next_report : IsTenantReport (logic_of journal.kinds) journal (tenant_report_of r)
    next_report = taken_report journal tenants (length old) place i [] within r (slice_index_or old place d).items (slice_index_or new place d).items (its_part d) (same_place place) taken_here

  pub parts_left : (r : TenantReport) (new : List (VecDeque TenantReport Global)) → TakesFirst old place r new → length new ≡ length old → AreParts journal tenants (i + 1) new
  parts_left r new taken len k d below =
      let there : k < length old = omega (arith, below, len) in
      subst (λ w. IsPart journal (drop (i + 1) tenants) w k (i + 1) (slice_index_or new k d).items) (sym len)
      (part_moves journal tenants (length old) k i [] within r (slice_index_or old k d).items (slice_index_or new k d).items (parts k d there) (place == k) refl (taken k d there))
