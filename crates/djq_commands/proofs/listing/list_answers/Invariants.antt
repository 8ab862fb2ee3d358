use Rattle.djq_commands.proofs.Printing.{SoFar}
use Rattle.djq_commands.proofs.listing.list_answers.Given as goal

abbrev pub invariant-loop-read : goal.invariant-loop-read
invariant-loop-read g l = SoFar l.fn.engine l.id l.fn.session l.read l.engine l.session l.fn.listing l.listing
