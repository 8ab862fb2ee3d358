-- The laws of reading, over the definitions alone.
use Rattle.std.specs.Prelude.{◌≡◌, ◌↔◌, List, Some, IsUtf8}
use Rattle.djq_model.specs.Data.{Bytes}
use Rattle.djq_value.specs.Token.{Token}
use Rattle.djq_value.specs.Spelling.{IsSpelling}
use Rattle.djq_protocol.specs.declared.command.Command.{Command}
use Rattle.djq_protocol.specs.Grammar.{command_in, command_of}
use Rattle.djq_parser.specs.Saying.{SaysCommand}

-- a line of UTF-8 that spells a command
pub record Spells (c : Command) (line : Bytes) : Type 0 where
  pub utf8 : IsUtf8 line
  pub tokens : List Token
  pub says : SaysCommand c tokens
  pub spelled : IsSpelling tokens line

-- Tokens are read as a command if and only if they are tokens of it.
abbrev pub CommandsAreSaid : Type 0
CommandsAreSaid = (ts : List Token) (c : Command) → (command_in ts ≡ Some c) ↔ SaysCommand c ts

-- A line is read as a command if and only if it spells it.
abbrev pub CommandsAreSpelled : Type 0
CommandsAreSpelled = (line : Bytes) (c : Command) → (command_of line ≡ Some c) ↔ Spells c line
