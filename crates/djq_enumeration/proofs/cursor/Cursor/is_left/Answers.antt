-- In reducts no group on the way is empty, and the walk lists each answer once, so what is ahead is an answer.
use Rattle.djq_enumeration.proofs.ListedAnswers.{whole_clear, fits_by, cursor_answers}
use Rattle.djq_enumeration.proofs.NextAnswers.{cursor_left, cursor_done}
use Rattle.djq_enumeration.proofs.cursor.Cursor.is_left.Goals as goal

pub is_left_by-requires-clause-clear : goal.is_left_by-requires-clause-clear
is_left_by-requires-clause-clear g c = whole_clear c.args.reducts.now c.laws.ensures.sound

pub is_left_by-requires-clause-fits : goal.is_left_by-requires-clause-fits
is_left_by-requires-clause-fits g c = fits_by c.args.reducts.now c.args.self.now c.requires

pub returns-clause-answers : goal.returns-clause-answers
returns-clause-answers g c = cursor_answers c.args.reducts.now c.args.self.now c.laws.ensures.sound
    c.requires

pub returns-clause-left : goal.returns-clause-left
returns-clause-left g c = cursor_left c.args.reducts.now c.args.self.now c.is_left_by.result
    c.laws.ensures.sound c.is_left_by.ensures.next

pub returns-clause-end : goal.returns-clause-end
returns-clause-end g c = cursor_done c.args.reducts.now c.args.self.now c.is_left_by.result
    c.laws.ensures.sound c.is_left_by.ensures.next c.is_left_by.ensures.all
