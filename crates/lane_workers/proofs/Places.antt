-- Where the map of what clients are owed has another number for one.
use Rattle.std.proofs.Common.{◌≡◌, ◌+◌, ◌-◌, Bool, true, false, cond, List, [], Option, Some, None, refl, ap, sym, ◌∙◌, arith}
use Rattle.std.specs.Map.{lookup}
use Rattle.indexmap.specs.IndexMap.{IndexMap, get}
use Rattle.grain_id.specs.Names.{Client, client_eq}
use Rattle.grain_id.proofs.Order.{client_eq_decides}
use Rattle.lane_workers.specs.declared.owed.Owed.{Owed}
use Rattle.lane_workers.specs.Owing.{count_in, owing_to}

shown : (b : Bool) (owed : Owed) (found : Option Owed) → count_in (cond b (Some owed) found) ≡ cond b owed.count (count_in found)
shown true owed found = refl
shown false owed found = refl

module _ {S : Type 0} (old new : IndexMap Client Owed S) (caller : Client) (owed : Owed) (put : (q : Client) → get client_eq new q ≡ cond (client_eq caller q) (Some owed) (get client_eq old q)) where
  -- that client is owed this, and every other what it was owed
  owing_put : (client : Client) → owing_to new client ≡ cond (client_eq caller client) owed.count (owing_to old client)
  owing_put client = ap count_in (put client) ∙ shown (client_eq caller client) owed (get client_eq old client)

  pub one_more : owed.count ≡ owing_to old caller + 1 → (client : Client) → owing_to new client ≡ owing_to old client + cond (client_eq caller client) 1 0
  one_more is client = owing_put client ∙ by_test (client_eq caller client) refl
    where
      by_test : (b : Bool) → client_eq caller client ≡ b → cond b owed.count (owing_to old client) ≡ owing_to old client + cond b 1 0
      by_test true same = is ∙ ap (λ (c : Client). owing_to old c + 1) ((client_eq_decides caller client).0 same)
      by_test false apart = omega arith

  pub one_less : owed.count ≡ owing_to old caller - 1 → (client : Client) → owing_to new client ≡ owing_to old client - cond (client_eq caller client) 1 0
  one_less is client = owing_put client ∙ by_test (client_eq caller client) refl
    where
      by_test : (b : Bool) → client_eq caller client ≡ b → cond b owed.count (owing_to old client) ≡ owing_to old client - cond b 1 0
      by_test true same = is ∙ ap (λ (c : Client). owing_to old c - 1) ((client_eq_decides caller client).0 same)
      by_test false apart = omega arith

  -- a client that is owed nothing, beside others that are owed nothing
  pub none_more : owed.count ≡ 0 → ((client : Client) → owing_to old client ≡ 0) → (client : Client) → owing_to new client ≡ 0
  none_more is none client = owing_put client ∙ by_test (client_eq caller client)
    where
      by_test : (b : Bool) → cond b owed.count (owing_to old client) ≡ 0
      by_test true = is
      by_test false = none client

-- where nobody is there, nobody is owed anything
pub nobody_owed : {S : Type 0} (owing : IndexMap Client Owed S) → owing.entries ≡ [] → (client : Client) → owing_to owing client ≡ 0
nobody_owed owing nobody client = ap (λ (es : List (Client × Owed)). count_in (lookup (client_eq client) es)) nobody

-- a client that isn't there is owed none
pub none_less : {S : Type 0} (old : IndexMap Client Owed S) (caller : Client) → get client_eq old caller ≡ None → (client : Client) → owing_to old client ≡ owing_to old client - cond (client_eq caller client) 1 0
none_less old caller none client = by_test (client_eq caller client) refl
  where
    by_test : (b : Bool) → client_eq caller client ≡ b → owing_to old client ≡ owing_to old client - cond b 1 0
    by_test true same =
        let zero : owing_to old client ≡ 0 = ap (owing_to old) (sym ((client_eq_decides caller client).0 same)) ∙ ap count_in none in
        omega (arith, zero)
    by_test false apart = omega arith
