-- A reply is printed of names, numbers and values within their limits, and none of these has an LF inside.
use Rattle.djq_mirror_laws.proofs.PrintedLines.{printed_are_lines}
use Rattle.djq_mirror_laws.proofs.printed_are_lines.Goals as goal

pub returns : goal.returns
returns c = printed_are_lines
