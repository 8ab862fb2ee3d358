-- That a line is read as a command exactly where it says it is a law of its own, in Sayings.
use Rattle.djq_parser.proofs.CommandTokens.{commands_are_said}
use Rattle.djq_parser.proofs.laws.commands_are_said.Goals as goal

pub returns : goal.returns
returns c = commands_are_said
