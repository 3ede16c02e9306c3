-- What threads gave that kept their promises: the parts of the reports.
use Rattle.std.proofs.Common.{◌≡◌, ℕ, ◌<◌, Bool, true, List, length, map, get_or, ap, sym, ◌∙◌, subst, arith}
use Rattle.std.specs.Prelude.{Result, Ok, IfOk}
use Rattle.std.specs.declared.alloc.AllocError.{AllocError}
use Rattle.std.specs.declared.alloc.Global.{Global}
use Rattle.std.specs.declared.collections.VecDeque.{VecDeque}
use Rattle.std.specs.declared.thread.PromisedHandle.{PromisedHandle}
use Rattle.std.proofs.lemmas.List.{get_or-map, length-map}
use Rattle.std.proofs.lemmas.Result.{IfOk-at_ok}
use Rattle.journal_text.specs.Text.{History}
use Rattle.tenant_audit.specs.inside.Parts.{AreParts, IsPart, IsShareOf}
use Rattle.tenant_audit.specs.declared.report.TenantReport.{TenantReport}
use Rattle.tenant_audit.specs.declared.parts.AuditShare.{AuditShare}

abbrev pub Reports : Type 0
Reports = VecDeque TenantReport Global

abbrev pub Given : Type 0
Given = Result Reports AllocError

-- The result keeps what the work promises.
abbrev pub Keeps : AuditShare → Given → Type 0
Keeps work given = IfOk given (λ reports. IsPart work.journal.now work.tenants.now work.share.stride work.share.place 0 reports.items)

module _ (journal : History) (tenants : List (List ℕ)) (k w : ℕ) where
  pub part_of_work : (work : AuditShare) (reports : List TenantReport) → IsShareOf journal tenants k w work → IsPart work.journal.now work.tenants.now work.share.stride work.share.place 0 reports → IsPart journal tenants w k 0 reports
  part_of_work work reports on part =
      let a = subst (λ j. IsPart j work.tenants.now work.share.stride work.share.place 0 reports) on.0 part in
      let b = subst (λ t. IsPart journal t work.share.stride work.share.place 0 reports) on.1 a in
      let c = subst (λ p. IsPart journal tenants work.share.stride p 0 reports) on.2 b in
      subst (λ s. IsPart journal tenants s k 0 reports) on.3 c

module _ (journal : History) (tenants : List (List ℕ)) (w : ℕ) (handles : List (PromisedHandle Given AuditShare)) (results : List Given) where
  pub parts_given : ((k : ℕ) (d : PromisedHandle Given AuditShare) → k < w → IsShareOf journal tenants k w (get_or handles k d).promise)
      → ((k : ℕ) (d : Given) → k < w → (h : PromisedHandle Given AuditShare) × (h ≡ get_or handles k h) × Keeps h.promise (get_or results k d))
      → (parts : List Reports) → map (λ (part : Reports). Ok part) parts ≡ results → length parts ≡ w → AreParts journal tenants 0 parts
  parts_given started kept parts given len k d below =
      let there : k < w = omega (arith, below, len) in
      let at : get_or results k (Ok d) ≡ Ok (get_or parts k d) = ap (λ (rs : List Given). get_or rs k (Ok d)) (sym given) ∙ get_or-map (λ (part : Reports). Ok part) parts k d (Ok d) below in
      let keeper = kept k (Ok d) there in
      let on : IsShareOf journal tenants k w keeper.0.promise = subst (λ (h : PromisedHandle Given AuditShare). IsShareOf journal tenants k w h.promise) (sym keeper.1) (started k keeper.0 there) in
      let work = keeper.0.promise in
      let part = IfOk-at_ok (λ (reports : Reports). IsPart work.journal.now work.tenants.now work.share.stride work.share.place 0 reports.items) at keeper.2 in
      subst (λ n. IsPart journal tenants n k 0 (get_or parts k d).items) (sym len) (part_of_work journal tenants k w work (get_or parts k d).items on part)

-- there are as many parts as threads were wanted, if all were started
pub as_many : (w : ℕ) (handles : List (PromisedHandle Given AuditShare)) (results : List Given) (parts : List Reports) (all : Bool)
    → (all ≡ true → length handles ≡ w) → length results ≡ length handles → (all ≡ true) × (map (λ (part : Reports). Ok part) parts ≡ results) → length parts ≡ w
as_many w handles results parts all started joined given = sym (length-map parts (λ (part : Reports). Ok part)) ∙ ap length given.1 ∙ joined ∙ started given.0
