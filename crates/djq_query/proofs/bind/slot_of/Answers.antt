-- Which term stands at the column tells the slot: a variable's place among the members, or a constant's cell.
use Rattle.djq_query.proofs.Atoms.{slot_found, slot_fixed}
use Rattle.djq_query.proofs.bind.slot_of.Goals as goal

pub returns-in-Variable : goal.returns-in-Variable
returns-in-Variable c = slot_found c.args.members.now c.args.term.now c.in-Variable.number c.args.cell
    c.unwrap_or.result c.find.result c.in-Variable.is c.unwrap_or.ensures c.find.ensures

pub returns-in-Constant : goal.returns-in-Constant
returns-in-Constant c = slot_fixed c.args.members.now c.args.term.now c.args.cell c.in-Constant.field-0 c.in-Constant.is
