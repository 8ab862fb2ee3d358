-- The second stage only adds nodes, so the marks at its beginning, filled up to its end, are those of `out`.
use Rattle.djq_plan.proofs.GrownTrees.{grown_out}
use Rattle.djq_plan.proofs.growing.Growing.grow_out.Goals as goal

pub returns : goal.returns
returns c =
    grown_out c.args.self.now c.run_second.new.self c.in_ok-run_second.field-0 c.in_ok-out.out.items
    c.mark_later.new.marks.items _ c.len.result
    c.in_ok-run_second.ensures c.if-not-branch.false c.in_ok-out.ensures c.in_ok-out.out.ok.0 c.len.ensures
    c.in_ok-mark_later.ensures
