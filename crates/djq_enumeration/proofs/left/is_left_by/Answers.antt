-- Where a listing may be entered no menu is empty, so at the start there is a first answer.
use Rattle.djq_enumeration.proofs.NextAnswers.{start_left}
use Rattle.djq_enumeration.proofs.left.is_left_by.Goals as goal

pub returns-in-Start-clause-next : goal.returns-in-Start-clause-next
returns-in-Start-clause-next g c =
    let r = c.args.reducts.now in
    start_left r (g.C.Choices.menu c.args.choices.now r) (g.C.Choices.entered c.args.choices.now r)
    c.enter.result c.args.cursor.now.state c.args.cursor.now.places c.in-Start.is c.requires.clear
    c.enter.ensures.entered
