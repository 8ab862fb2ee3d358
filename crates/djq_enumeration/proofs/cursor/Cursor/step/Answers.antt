-- In reducts the walk through whole groups gives all answers and no others, each once, as Listed shows.
use Rattle.djq_enumeration.proofs.ListedAnswers.{whole_clear, fits_by, by_fits, cursor_answers, cursor_one, cursor_same}
use Rattle.djq_enumeration.proofs.ListedAnswers.{cursor_end}
use Rattle.djq_enumeration.proofs.cursor.Cursor.step.Goals as goal

pub advance_by-requires-clause-clear : goal.advance_by-requires-clause-clear
advance_by-requires-clause-clear g c = whole_clear c.args.reducts.now c.laws.ensures.sound

pub advance_by-requires-clause-fits : goal.advance_by-requires-clause-fits
advance_by-requires-clause-fits g c = fits_by c.args.reducts.now c.args.self.now c.requires

pub returns-clause-fits : goal.returns-clause-fits
returns-clause-fits g c = by_fits c.args.reducts.now c.advance_by.new.cursor
    c.advance_by.ensures.fits

pub returns-clause-one : goal.returns-clause-one
returns-clause-one g c = cursor_one c.args.reducts.now c.args.self.now c.advance_by.new.cursor
    c.advance_by.new.cursor.answer c.advance_by.result c.advance_by.ensures.one

pub returns-clause-same : goal.returns-clause-same
returns-clause-same g c = cursor_same c.args.reducts.now c.args.self.now c.advance_by.new.cursor
    c.advance_by.result c.advance_by.ensures.all c.advance_by.ensures.same

pub returns-clause-answers : goal.returns-clause-answers
returns-clause-answers g c = cursor_answers c.args.reducts.now c.advance_by.new.cursor
    c.laws.ensures.sound
    (by_fits c.args.reducts.now c.advance_by.new.cursor c.advance_by.ensures.fits)

pub returns-clause-end : goal.returns-clause-end
returns-clause-end g c =
    cursor_end c.args.reducts.now c.args.self.now c.advance_by.new.cursor c.advance_by.new.cursor.answer
    c.advance_by.result c.laws.ensures.sound
    (by_fits c.args.reducts.now c.advance_by.new.cursor c.advance_by.ensures.fits)
    c.advance_by.ensures.one c.advance_by.ensures.all
