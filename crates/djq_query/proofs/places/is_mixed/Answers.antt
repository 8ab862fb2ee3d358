-- Only a named variable can stand at further columns; a hole and a constant are of no second type.
use Rattle.std.proofs.Common.{sym, ◌∙◌}
use Rattle.djq_query.proofs.Atoms.{variable_mixes, hole_mixes, constant_mixes}
use Rattle.djq_query.proofs.places.is_mixed.Goals as goal

pub returns-in-Variable : goal.returns-in-Variable
returns-in-Variable g c = c.clashes.ensures
    ∙ sym (variable_mixes (g.R.Relations.relations c.args.relations.now) c.args.atoms.now c.args.term.now
    c.in-Variable.name c.args.column c.in-Variable.is)

pub returns-in-Hole : goal.returns-in-Hole
returns-in-Hole g c = sym
    (hole_mixes (g.R.Relations.relations c.args.relations.now) c.args.atoms.now c.args.term.now c.args.column
    c.in-Hole.is)

pub returns-in-Constant : goal.returns-in-Constant
returns-in-Constant g c = sym
    (constant_mixes (g.R.Relations.relations c.args.relations.now) c.args.atoms.now c.args.term.now c.in-Constant._value
    c.args.column c.in-Constant.is)
