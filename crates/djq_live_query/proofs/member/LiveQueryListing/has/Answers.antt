-- Cells are listed exactly where they are those of an answer of the tree, and then as many as the head.
use Rattle.std.proofs.Common.{◌∙◌, length, arith}
use Rattle.std.proofs.lemmas.Bool.{ne_eqb}
use Rattle.djq_live_query.proofs.HeadAnswers.{tells_had, none_had, kept_leaves}
use Rattle.djq_live_query.proofs.member.LiveQueryListing.has.Goals as goal

pub returns-then-len-head-clause-has : goal.returns-then-len-head-clause-has
returns-then-len-head-clause-has g c =
    tells_had _ c.args.self.now c.head-head.result.now c.args.answer.now c.has_cells.result
    c.self.view_is c.requires c.head-head.ensures c.has_cells.ensures.exact

pub returns-then-len-head-clause-counted : goal.returns-then-len-head-clause-counted
returns-then-len-head-clause-counted g c =
    let leaves = kept_leaves _ c.args.self.now c.self.view_is c.requires in
    let counted = c.has_cells.ensures.counted in
    omega arith

pub returns-else-len-head-clause-has : goal.returns-else-len-head-clause-has
returns-else-len-head-clause-has g c =
    ne_eqb c.len.result (length c.head-head.result.now) c.if-len-head.false
    ∙ none_had _ c.args.self.now c.head-head.result.now c.args.answer.now c.self.view_is
    c.requires c.head-head.ensures (λ e. c.if-len-head.false (c.len.ensures ∙ e))
