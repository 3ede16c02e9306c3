-- Which requests are marked as ones that only read.
use Rattle.std.specs.Prelude.{◌≡◌, ℕ, true, Some}
use Rattle.std.specs.List.{AllByRecursion}
use Rattle.std.specs.FinMap as map
use Rattle.std.specs.FinMap.{FinMap}
use Rattle.grain_id.specs.Names.{Grain, grain_cmp}
use Rattle.grain_logic.specs.Logic.{Logic}
use Rattle.turn_mailbox.specs.declared.request.Request.{Request}
use Rattle.turn_mailbox.specs.Contents.{Contents}
use Rattle.activation_directory.specs.declared.activation.Activation.{Activation}

-- the mark is what the logic says of the request's method
abbrev pub IsMarked : Logic → Grain → Request → Type 0
IsMarked logic grain request = request.reading ≡ logic.is_read grain.kind request.message.method

-- The grain's kind is known, each request of its mailbox is marked so, and each open turn stands under its own number.
pub record AreMarked (logic : Logic) (grain : Grain) (mail : Contents) : Type 0 where
  pub known : logic.knows grain.kind ≡ true
  pub waiting : AllByRecursion (IsMarked logic grain) mail.waiting
  pub opened : (number : ℕ) (turn : Request) → map.get mail.opened number ≡ Some turn → IsMarked logic grain turn
  pub numbered : (number : ℕ) (turn : Request) → map.get mail.opened number ≡ Some turn → turn.number ≡ number

-- Each request of each grain is.
abbrev pub AllMarked : Logic → FinMap grain_cmp Activation → Type 0
AllMarked logic activations = (grain : Grain) (a : Activation) → map.get activations grain ≡ Some a → AreMarked logic grain a.mailbox
