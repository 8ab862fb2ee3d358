-- Cells in the head's order are all given exactly where the tree's answers are; its head is no longer.
use Rattle.std.proofs.Common.{arith}
use Rattle.djq_live_query.proofs.HeadAnswers.{left_same, kept_narrow}
use Rattle.djq_live_query.proofs.member.LiveQueryListing.is_left.Goals as goal

pub returns-clause-left : goal.returns-clause-left
returns-clause-left g c =
    left_same _ c.args.self.now c.args.state.now c.is_left.result c.self.view_is c.requires
    c.is_left.ensures.end

pub returns-clause-counted : goal.returns-clause-counted
returns-clause-counted g c =
    let narrow = kept_narrow _ c.args.self.now c.self.view_is c.requires.0 in
    let counted = c.is_left.ensures.counted in
    omega arith
