-- Reducts of one tree whose leaves hold the same tuples hold the same at every node.
use Rattle.djq_propagate.proofs.Updates.{undone}
use Rattle.djq_propagate.proofs.update.undo_insertion.Goals as goal

pub returns-clause-back : goal.returns-clause-back
returns-clause-back g c =
    λ before r w. let d = c.finish_removal.ensures.dropped in
    undone before c.args.reducts.now c.finish_removal.new.reducts c.args.leaf r d.sound w d.without
