-- The identity of a grain and of a caller. A text is the list of its bytes.
use Rattle.std.specs.Prelude.{◌≡◌, ℕ, Bool, ◌&&◌, List, ◌∷◌, ◌++◌, IsTrue, refl}
use Rattle.std.specs.Coded.{Coded, code_by, coded×, coded_list, coded_ℕ}
use Rattle.std.specs.declared.cmp.Ordering.{Ordering}
use Rattle.std.specs.Cmp.Lexicographic.{slice_cmp, pointwise}
use Rattle.std.specs.Ordering.{nat_cmp, then_cmp, on}
use Rattle.std.specs.Prelude.{nat_eq}
use Rattle.grain_id.specs.Words.{is_word, is_name}

-- A grain: its kind, its tenant and its name.
pub record Grain : Type 0 where
  pub kind : List ℕ
  pub tenant : List ℕ
  pub name : List ℕ

-- A client of a tenant.
pub record Client : Type 0 where
  pub tenant : List ℕ
  pub client : List ℕ

abbrev pub is_grain : Grain → Bool
is_grain g = is_word g.kind && is_word g.tenant && is_name g.name

abbrev pub is_client : Client → Bool
is_client c = is_word c.tenant && is_word c.client

-- `kind/tenant:name`
abbrev pub grain_text : Grain → List ℕ
grain_text g = g.kind ++ 47 ∷ (g.tenant ++ 58 ∷ g.name)

-- `tenant/client`
abbrev pub client_text : Client → List ℕ
client_text c = c.tenant ++ 47 ∷ c.client

-- A text reads as a grain exactly where it is the text of one.
abbrev pub IsTextOfGrain : List ℕ → Grain → Type 0
IsTextOfGrain text g = IsTrue (is_grain g) × (text ≡ grain_text g)

-- A text reads as a caller exactly where it is the text of one.
abbrev pub IsTextOfClient : List ℕ → Client → Type 0
IsTextOfClient text c = IsTrue (is_client c) × (text ≡ client_text c)

-- It is the text of no grain.
abbrev pub IsTextOfNoGrain : List ℕ → Type 0
IsTextOfNoGrain text = (g : Grain) → IsTextOfGrain text g → ⊥

-- It is the text of no caller.
abbrev pub IsTextOfNoClient : List ℕ → Type 0
IsTextOfNoClient text = (c : Client) → IsTextOfClient text c → ⊥

-- texts by their bytes
abbrev pub text_cmp : List ℕ → List ℕ → Ordering
text_cmp = slice_cmp nat_cmp

abbrev pub same_text : List ℕ → List ℕ → Bool
same_text = pointwise nat_eq

-- one grain: the same kind, tenant and name
abbrev pub grain_eq : Grain → Grain → Bool
grain_eq g h = same_text g.kind h.kind && same_text g.tenant h.tenant && same_text g.name h.name

-- one caller: the same tenant and client
abbrev pub client_eq : Client → Client → Bool
client_eq c d = same_text c.tenant d.tenant && same_text c.client d.client

-- grains by kind, then tenant, then name
abbrev pub grain_cmp : Grain → Grain → Ordering
grain_cmp = then_cmp (on (λ g. g.kind) text_cmp) (then_cmp (on (λ g. g.tenant) text_cmp) (on (λ g. g.name) text_cmp))

-- callers by tenant, then client
abbrev pub client_cmp : Client → Client → Ordering
client_cmp = then_cmp (on (λ c. c.tenant) text_cmp) (on (λ c. c.client) text_cmp)

-- a grain is stored as its parts
abbrev pub coded_grain : Coded Grain
coded_grain =
    code_by (List ℕ × (List ℕ × List ℕ)) (coded× (coded_list coded_ℕ) (coded× (coded_list coded_ℕ) (coded_list coded_ℕ)))
    (λ g. (g.kind, (g.tenant, g.name))) (λ p. record { kind = p.0; tenant = p.1.0; name = p.1.1 }) (λ _. refl)
