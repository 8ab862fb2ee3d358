-- A line with no row's word says no command on a row, and what else it says the machine has in a batch too.
use Rattle.std.proofs.Common.{sym, subst, Some}
use Rattle.djq_protocol.specs.Grammar.{reading_of}
use Rattle.djq_protocol.specs.declared.answer.Refusal.{Refusal}
use Rattle.djq_store_spec.specs.Held.{nothing_held}
use Rattle.djq_commands.specs.Batching.{ReadsInBatch, RefusedBy}
use Rattle.djq_commands.specs.declared.reading.BatchLine.{BatchLine}
use Rattle.djq_commands.proofs.ReadLines.{refused_other, said_in_batch}
use Rattle.djq_commands.proofs.reading.read_other.Goals as goal

pub returns-in-Ok : goal.returns-in-Ok
returns-in-Ok c row =
    subst (λ (b : BatchLine). ReadsInBatch c.args.line.now b row) (sym c.line_of.ensures)
    (said_in_batch c.args.line.now c.in-Ok.command c.in-Ok.ensures c.requires row)

pub returns-in-Err : goal.returns-in-Err
returns-in-Err c row =
    subst (λ (r : Refusal). RefusedBy (Some nothing_held) (reading_of c.args.line.now) r) (sym c.misplaced_of.ensures)
    (refused_other c.args.line.now c.in-Err.refusal c.requires c.in-Err.ensures)
