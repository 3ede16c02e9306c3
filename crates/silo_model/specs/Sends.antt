-- How what a grain sent is delivered.
use Rattle.std.specs.Prelude.{List, Option, Some, option_map, option_and_then}
use Rattle.grain_id.specs.Names.{Grain}
use Rattle.silo_event.specs.declared.reply.Party.TheVariants as party
use Rattle.grain_logic.specs.Logic.{Logic}
pub use Rattle.tenant_accounts.specs.Sends.{first_from}
use Rattle.silo_model.specs.Machine.{Account, Send}
use Rattle.silo_model.specs.Effect.{Context, Effect, Change, keep, put, drop}
use Rattle.silo_model.specs.Calls.{called}

-- the target of the first that the grain sent
abbrev pub first_target : Option Account → Grain → Option Grain
first_target account grain = option_map (λ found. found.0.message.target) (option_and_then (λ a. first_from grain a.sends) account)

-- what the change puts, or else this
abbrev pub put_or : {X : Type 0} → X → Change X → Change X
put_or x keep = put x
put_or x (put y) = put y
put_or x drop = drop

-- the effect, on an account that is this one already
abbrev pub on_account : Account → Effect → Effect
on_account account e = record e { account = put_or account e.account }

-- it is taken out of what was sent, and asked of its target as any call is: in the name of the grain, which is told if it is refused
abbrev pub delivered_to : Logic → Context → Grain → Account → Send × List Send → Effect
delivered_to logic s grain account found =
    let rest = record account { sends = found.1 } in
    on_account rest (called logic (record s { account = Some rest }) (party.Grain grain) found.0.message.target found.0.message.call)

abbrev pub delivered : Logic → Context → Grain → Account → Option Effect
delivered logic s grain account = option_map (delivered_to logic s grain account) (first_from grain account.sends)
