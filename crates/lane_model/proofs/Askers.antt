-- What a client asked, what it was told, and what of it still waits or is open.
use Rattle.silo_model.proofs.Common.{◌++◌, ◌+◌, ◌∙◌, ◌∷◌, ◌≡◌, ◌≤◌, Bool, Call, Client, List, Machine, Party, Poke, Refuse, Reply, Request}
use Rattle.silo_model.proofs.Common.{Some, Status, Step, Sweep, [], all_pending, ap, arith, client_eq, client_eq_decides, concerns}
use Rattle.silo_model.proofs.Common.{concerns_by, cond, eq-eqb, eqb-true, false, false_from_ne_true, has_pending, is_of_client, length}
use Rattle.silo_model.proofs.Common.{list_any, nat_eq, none-some, not, or_parts, owner_of, refl, same_Some, same_text, same_text_decides}
use Rattle.silo_model.proofs.Common.{sum_by, sum_by-cons, sum_flat, sym, true, true≢false, ℕ}
use Rattle.silo_event.specs.declared.reply.Party.TheVariants as party
use Rattle.silo_model.proofs.Fair.{one_if, pend}
use Rattle.silo_model.proofs.Moves.{Quiet, asked_by, replied, sent}
use Rattle.silo_model.proofs.FairRuns.{pending_weight}
use Rattle.silo_model.proofs.Tests.{on_found}
use Rattle.lane_model.specs.Asking.{asking_of, id_asked, id_of, ids_told}

-- ---- the weight of a client's numbers

abbrev pub weigh : Client → (ℕ → ℕ) → Party → ℕ
weigh client f p = sum_by f (id_of client p)

pub weigh_quiet : (client : Client) (f : ℕ → ℕ) → Quiet (weigh client f)
weigh_quiet client f g = refl

pub asked_weight : (client : Client) (f : ℕ → ℕ) (s : Step) → asked_by (weigh client f) s ≡ sum_by f (id_asked client (asking_of s))
asked_weight client f Sweep = refl
asked_weight client f _ = refl

pub told_weight : (client : Client) (f : ℕ → ℕ) (replies : List Reply) → replied (weigh client f) replies ≡ sum_by f (ids_told client replies)
told_weight client f replies = sym (sum_flat f (λ (r : Reply). id_of client r.recipient) replies)

-- ---- nothing of a client waits or is open

pub apart_party : (client : Client) (p : Party) → is_of_client client p ≡ false → id_of client p ≡ []
apart_party client (party.Client caller id) apart = ap (λ b. cond b (id ∷ []) []) apart
apart_party client (party.Grain grain) apart = refl

pub one_told : (client : Client) (p : Party) → is_of_client client p ≡ true → length (id_of client p) ≡ 1
one_told client (party.Client caller id) own = ap (λ b. length (cond b (id ∷ []) [])) own
one_told client (party.Grain grain) own = absurd (true≢false (sym own))

light : (client : Client) (f : ℕ → ℕ) (queue : List Request) → list_any (λ q. is_of_client client q.sender) queue ≡ false → sum_by (sent (weigh client f)) queue ≡ 0
light client f [] none = refl
light client f (q ∷ queue) none =
    let parts = or_parts (is_of_client client q.sender) _ none in
    omega (arith, sum_by-cons (sent (weigh client f)) q queue, ap (sum_by f) (apart_party client q.sender parts.0), light client f queue parts.1)

pub none_pending : (client : Client) (f : ℕ → ℕ) (m : Machine) → has_pending client m ≡ false → pend (sent (weigh client f)) m.entries ≡ 0
none_pending client f m none = sym (pending_weight (sent (weigh client f)) m) ∙ light client f (all_pending m) none

-- ---- lists of at most one number

weighs_one : (n : ℕ) (xs : List ℕ) → sum_by (λ x. 1) (n ∷ xs) ≡ 1 + sum_by (λ x. 1) xs
weighs_one n xs = sum_by-cons (λ x. 1) n xs

pub no_number : (xs : List ℕ) → sum_by (λ x. 1) xs ≡ 0 → xs ≡ []
no_number [] e = refl
no_number (x ∷ xs) e = absurd (omega (arith, e, weighs_one x xs))

-- what weighs no more than a list of at most one number is its front
pub is_front : (owed added : List ℕ) → sum_by (λ x. 1) owed ≤ 1 → ((f : ℕ → ℕ) → sum_by f added ≤ sum_by f owed) → (rest : List ℕ) × (owed ≡ added ++ rest)
is_front [] added short less = ([], sym (ap (λ xs. xs ++ []) (no_number added (omega (arith, less (λ x. 1))))))
is_front (n ∷ ns) [] short less = (n ∷ ns, refl)
is_front (n ∷ []) (k ∷ []) short less = ([], ap (λ x. x ∷ []) (sym (same (nat_eq k n) refl)))
  where
    another : ℕ → ℕ
    another x = one_if (not (nat_eq x n))

    same : (b : Bool) → nat_eq k n ≡ b → k ≡ n
    same true is = eqb-true k n is
    same false is = absurd (omega (arith, less another, sum_by-cons another k [], sum_by-cons another n [], ap (λ b. one_if (not b)) is, ap (λ b. one_if (not b)) (eq-eqb n n refl)))
is_front (n ∷ []) (k ∷ j ∷ js) short less = absurd (omega (arith, less (λ x. 1), weighs_one k (j ∷ js), weighs_one j js, weighs_one n []))
is_front (n ∷ o ∷ ns) (k ∷ ks) short less = absurd (omega (arith, short, weighs_one n (o ∷ ns), weighs_one o ns))

-- ---- who asks

asks_own : (s : Step) (caller : Client) (id : ℕ) → asking_of s ≡ Some (caller, id) → owner_of s ≡ Some caller.tenant
asks_own (Refuse c n code) caller id is = ap (λ (a : Client × ℕ). Some a.0.tenant) (same_Some _ _ is)
asks_own (Call c n grain message) caller id is = ap (λ (a : Client × ℕ). Some a.0.tenant) (same_Some _ _ is)
asks_own (Poke failed c n grain state) caller id is = ap (λ (a : Client × ℕ). Some a.0.tenant) (same_Some _ _ is)
asks_own (Status c n) caller id is = ap (λ (a : Client × ℕ). Some a.0.tenant) (same_Some _ _ is)
asks_own _ caller id is = absurd (none-some (caller, id) is)

-- a client of another tenant is another
pub clients_apart : (caller client : Client) → same_text caller.tenant client.tenant ≡ false → client_eq caller client ≡ false
clients_apart caller client apart =
    false_from_ne_true (client_eq caller client) (λ same.
    let own : caller.tenant ≡ client.tenant = ap (λ (c : Client). c.tenant) ((client_eq_decides caller client).0 same) in
    true≢false (sym ((same_text_decides caller.tenant client.tenant).1 own) ∙ apart))

-- a step that doesn't concern its tenant isn't the client's
pub apart_asks_nothing : (client : Client) (s : Step) → concerns client.tenant s ≡ false → id_asked client (asking_of s) ≡ []
apart_asks_nothing client s apart =
    on_found (λ o. id_asked client o ≡ []) (asking_of s) (λ _. refl) (λ asking is.
    ap (λ b. cond b (asking.1 ∷ []) [])
    (clients_apart asking.0 client (ap (concerns_by client.tenant) (sym (asks_own s asking.0 asking.1 is)) ∙ apart)))
