-- A line that gives a row says an `add` or a `del` with a name of 32 bytes at most, and a refused one is refused so.
use Rattle.std.proofs.Common.{Some, sym, subst}
use Rattle.djq_protocol.specs.Grammar.{reading_of}
use Rattle.djq_protocol.specs.declared.answer.Refusal.{Refusal}
use Rattle.djq_protocol.specs.declared.command.Command.TheVariants.{Add, Del}
use Rattle.djq_store_spec.specs.Held.{nothing_held}
use Rattle.djq_commands.specs.Batching.{RefusedBy}
use Rattle.djq_commands.proofs.ReadLines.{reads_as, refused_row, short_to_add, short_to_delete}
use Rattle.djq_commands.proofs.reading.read_in_batch.Goals as goal

pub returns-in-Add : goal.returns-in-Add
returns-in-Add c =
    let name = c.in-Add.name.now in
    let row = c.read_row.new.row.items in
    (reads_as c.args.line.now (Add name row) c.in-Add.ensures, short_to_add c.args.line.now name row c.in-Add.ensures)

pub returns-in-Del : goal.returns-in-Del
returns-in-Del c =
    let name = c.in-Del.name.now in
    let row = c.read_row.new.row.items in (
      reads_as c.args.line.now (Del name row) c.in-Del.ensures,
      short_to_delete c.args.line.now name row c.in-Del.ensures,
    )

pub returns-in-Refused : goal.returns-in-Refused
returns-in-Refused c =
    subst (λ (r : Refusal). RefusedBy (Some nothing_held) (reading_of c.args.line.now) r) (sym c.refusal_of.ensures)
    (refused_row c.args.line.now c.in-Refused._verb c.in-Refused.refusal c.in-Refused.ensures.0 c.in-Refused.ensures.1)
