-- What `clap` is told of a command and of its options, piece by piece.
use Rattle.std.specs.Prelude.{◌≡◌, false, Some, codes}
use Rattle.clap.specs.Words.{App, Rule, Text, app_of, new_app, new_rule}
use Rattle.clap.specs.declared.builder.action.ArgAction.TheVariants.{SetTrue}
use Rattle.clap.specs.declared.builder.command.Command.{Command}
use Rattle.clap.specs.declared.builder.command.Command.TheViews.{out-Command}
use Rattle.silo_words.specs.Words.{silo_shape}

-- an option by the name behind its hyphens: one that takes a text, and one that takes none
abbrev pub text_rule : Text → Rule
text_rule name = record (new_rule name) { long = Some name; value_names = 1 }

abbrev pub flag_rule : Text → Rule
flag_rule name = record (new_rule name) { long = Some name; action = Some SetTrue }

-- `silo` with no subcommand yet
abbrev pub bare_app : App
bare_app = record (new_app (codes "silo")) { top = silo_shape }

-- the command is this one, and none of its options is one of its subcommands too
pub record IsApp (app : App) (command : Command) : Type 0 where
  pub same : app_of command ≡ app
  pub local : (out-Command command).has_globals ≡ false
