-- A trim at the index is the highest of the levels that are left, so it comes behind those that were found.
use Rattle.std.proofs.Common.{◌∙◌, ◌-◌, ◌++◌, List, ℕ, ap, refl, arith, rules}
use Rattle.djq_tree.specs.Levels.{levels, levels_below}
use Rattle.djq_reduct.proofs.Paths.{level_found}
use Rattle.djq_reduct.proofs.levels.levels_of.Goals as goal

pub loop-at-preserved-in-Continue-1 : goal.loop-at-preserved-in-Continue-1
loop-at-preserved-in-Continue-1 c =
    let t = c.args.tree.now in
    let within = c.loop-at.invariant.within in
    record {
      within = omega arith;
      found = ap (λ (xs : List ℕ). xs ++ levels_below t (c.loop-at.at - 1)) c.in_ok-push.ensures.items
          ∙ level_found t c.loop-at.all.items (levels t) c.loop-at.at (c.loop-at.at - 1) c.node.result
          c.loop-at.invariant.found (search rules) refl c.node.ensures (search rules);
    }
