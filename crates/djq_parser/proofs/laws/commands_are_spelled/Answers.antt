-- That a line is read as a command exactly where it spells it is a law of its own, in Spelled.
use Rattle.djq_parser.proofs.CommandLines.{commands_are_spelled}
use Rattle.djq_parser.proofs.laws.commands_are_spelled.Goals as goal

pub returns : goal.returns
returns c = commands_are_spelled
