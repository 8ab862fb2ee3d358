use Rattle.djq_model.specs.Listed.{listed_of}
use Rattle.djq_commands.proofs.CutReplies.{PutsSoFar}
use Rattle.djq_commands.proofs.commands.put_members.Given as goal

abbrev pub invariant-loop-nth : goal.invariant-loop-nth
invariant-loop-nth l = PutsSoFar (listed_of (l.fn.engine).store.queries l.fn.union) l.nth l.fn.text.items l.text.items
