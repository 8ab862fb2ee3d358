-- Over a catalog into which the rows that are left came the query is kept, so the last of them can go.
use Rattle.std.proofs.Common.{ℕ, List, arith, take, length, subst, ◌∙◌, ◌-◌, ◌≤◌}
use Rattle.djq_propagate.specs.Updates.{HasAtMost}
use Rattle.djq_reach.proofs.Batches.{Among, all_gone, counts_as_one, counts_gone, fewer_then, last_goes, last_gone}
use Rattle.djq_reach.proofs.Batches.{left_none, left_one}
use Rattle.djq_reach.proofs.PlacedQueries.{same_then}
use Rattle.djq_leaves.proofs.Costs.{fewer_stay}
use Rattle.djq_reach.proofs.rows.give_rows_back.Goals as goal

pub give_back-requires : goal.give_back-requires
give_back-requires g c =
    let at = c.args.relation.at in
    let front = take (c.loop-left.left - 1) c.args.rows.now in
    let split = left_one c.args.rows.now c.loop-left.left c.index-rows-left.result c.as_slice.result.now
    c.loop-left-test.true c.loop-left.invariant.low c.index-rows-left.is c.as_slice.ensures in
    last_goes c.requires.before at front c.as_slice.result.now c.loop-left.query
    (subst (λ (xs : List (List ℕ)). Among c.requires.before at xs c.loop-left.query) split
    (c.loop-left.invariant.among c.requires.before c.requires.after c.requires.rows c.requires.comes c.requires.kept))

pub loop-left-preserved : goal.loop-left-preserved
loop-left-preserved g c =
    let at = c.args.relation.at in
    let front = take (c.loop-left.left - 1) c.args.rows.now in
    let split = left_one c.args.rows.now c.loop-left.left c.index-rows-left.result c.as_slice.result.now
    c.loop-left-test.true c.loop-left.invariant.low c.index-rows-left.is c.as_slice.ensures in
    let here = c.loop-left.invariant.among c.requires.before c.requires.after c.requires.rows c.requires.comes
    c.requires.kept in
    record {
      low = omega (arith, c.loop-left.invariant.low);
      among = λ x y rows comes kept. last_gone x at front c.as_slice.result.now c.loop-left.query c.give_back.new.self
          (subst (λ (xs : List (List ℕ)). Among x at xs c.loop-left.query) split
          (c.loop-left.invariant.among x y rows comes kept))
          c.give_back.ensures.deleted;
      same = same_then c.args.query.now c.loop-left.query c.give_back.new.self c.loop-left.invariant.same
          c.give_back.ensures.same;
      fewer = fewer_then c.args.query.now.reducts c.loop-left.query.reducts c.give_back.new.self.reducts
          c.loop-left.invariant.fewer c.give_back.ensures.fewer;
      counted = c.give_back.ensures.counted ∙ c.loop-left.invariant.counted;
      updates = counts_as_one c.args.query.now at _ _ c.args.steps.now.update c.give_back.new.steps.update
          (omega (arith, c.loop-left-test.true, c.loop-left.invariant.low))
          (counts_gone c.args.query.now c.loop-left.query at (length c.args.rows.now - c.loop-left.left)
          c.args.steps.now.update
          c.loop-left.steps.update c.give_back.new.steps.update c.loop-left.invariant.same
          (λ n has. fewer_stay c.loop-left.query.reducts c.args.query.now.reducts n here.kept.over.reducts
          c.loop-left.invariant.fewer has)
          c.loop-left.invariant.updates c.give_back.ensures.updates);
    }

pub returns-clause-given : goal.returns-clause-given
returns-clause-given g c =
    let at = c.args.relation.at in
    record {
      follows = λ x y rows comes kept. all_gone x at c.loop-left.query
          (subst (λ (xs : List (List ℕ)). Among x at xs c.loop-left.query)
          (left_none c.args.rows.now c.loop-left.left (omega (arith, c.loop-left-test.false)))
          (c.loop-left.invariant.among x y rows comes kept));
      same = c.loop-left.invariant.same;
      fewer = c.loop-left.invariant.fewer;
    }
