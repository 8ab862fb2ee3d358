-- An update's marks make menus of which none is empty, and their walk tells all changed answers, each once.
use Rattle.djq_enumeration.proofs.States.{updated}
use Rattle.djq_enumeration.proofs.Deltas.{changed_clear, fits_by, by_fits, told_some, told_one, told_same, told_end}
use Rattle.djq_enumeration.proofs.delta.DeltaCursor.step.Goals as goal

pub advance_by-requires-clause-clear : goal.advance_by-requires-clause-clear
advance_by-requires-clause-clear g c = changed_clear c.args.reducts.now c.args.self.now.leaf
    c.laws.ensures.sound
    (updated c.args.reducts.now c.args.self.now.leaf c.laws.ensures.sound c.requires.leaf c.requires.marks)

pub advance_by-requires-clause-fits : goal.advance_by-requires-clause-fits
advance_by-requires-clause-fits g c = fits_by c.args.reducts.now c.args.self.now c.requires.fits

pub returns-clause-fits : goal.returns-clause-fits
returns-clause-fits g c = by_fits c.args.reducts.now c.args.self.now.leaf c.advance_by.new.cursor
    c.advance_by.ensures.fits

pub returns-clause-one : goal.returns-clause-one
returns-clause-one g c = told_one c.args.reducts.now c.args.self.now c.args.self.now.leaf
    c.advance_by.new.cursor c.advance_by.new.cursor.answer c.advance_by.result c.advance_by.ensures.one

pub returns-clause-same : goal.returns-clause-same
returns-clause-same g c = told_same c.args.reducts.now c.args.self.now c.args.self.now.leaf
    c.advance_by.new.cursor c.advance_by.result c.advance_by.ensures.all c.advance_by.ensures.same

pub returns-clause-answers : goal.returns-clause-answers
returns-clause-answers g c = told_some c.args.reducts.now c.args.self.now.leaf c.args.self.now.leaf
    c.advance_by.new.cursor c.laws.ensures.sound
    (updated c.args.reducts.now c.args.self.now.leaf c.laws.ensures.sound c.requires.leaf c.requires.marks)
    c.advance_by.ensures.fits

pub returns-clause-end : goal.returns-clause-end
returns-clause-end g c =
    told_end c.args.reducts.now c.args.self.now c.args.self.now.leaf c.advance_by.new.cursor
    c.advance_by.new.cursor.answer c.advance_by.result c.laws.ensures.sound
    (updated c.args.reducts.now c.args.self.now.leaf c.laws.ensures.sound c.requires.leaf c.requires.marks)
    c.advance_by.ensures.fits c.advance_by.ensures.one c.advance_by.ensures.all
