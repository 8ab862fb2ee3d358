-- A hole comes behind the known variables without a name, and a constant adds no variable.
use Rattle.std.proofs.Common.{sym, ◌∙◌}
use Rattle.djq_query.proofs.Numbers.{with_hole, with_constant}
use Rattle.djq_query.proofs.numbering.number_term.Goals as goal

pub returns-in_ok-push-in-Hole-clause-known : goal.returns-in_ok-push-in-Hole-clause-known
returns-in_ok-push-in-Hole-clause-known c = c.in_ok-push-in-Hole.ensures.ok
    ∙ sym (with_hole c.args.known.now c.args.term.now c.args.column c.in-Hole.is)

pub returns-in_ok-copy_value-in-Constant-clause-known : goal.returns-in_ok-copy_value-in-Constant-clause-known
returns-in_ok-copy_value-in-Constant-clause-known c = sym
    (with_constant c.args.known.now c.args.term.now c.in-Constant.value c.args.column c.in-Constant.is)
