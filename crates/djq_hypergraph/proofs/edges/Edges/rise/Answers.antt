-- Each edge passed is a set of variables, and so is the one at the index; at the end these are all.
use Rattle.std.proofs.Common.{◌≡◌, List, ℕ, length, ap, ◌∙◌, arith}
use Rattle.std.specs.Prelude.{◌<◌}
use Rattle.djq_hypergraph.specs.Hypergraph.{edge_at}
use Rattle.djq_hypergraph.proofs.JoinTrees.{read_at}
use Rattle.djq_hypergraph.proofs.Labels.{sets_more, sets_done}
use Rattle.djq_hypergraph.proofs.edges.Edges.rise.Goals as goal

pub loop-set-preserved : goal.loop-set-preserved
loop-set-preserved c =
    let items = c.deref-set-items.result.now in
    let here : items ≡ c.args.self.now = c.deref-set-items.ensures.value ∙ c.self.view_is in
    let within : c.loop-set.set-index < length items = let t = c.loop-set-test.true in omega arith in
    let is = read_at items c.loop-set.set-index c.set-item.result within c.set-item.is in
    sets_more c.args.self.now c.loop-set.set-index c.set-item.result
    (is ∙ ap (λ (E : List (List ℕ)). edge_at E c.loop-set.set-index) here) c.rises.ensures c.loop-set.invariant

pub returns : goal.returns
returns c =
    let here = ap (λ (E : List (List ℕ)). length E) (c.deref-set-items.ensures.value ∙ c.self.view_is) in
    let t = c.loop-set-test.false in
    sets_done c.args.self.now c.loop-set.set-index (omega arith) c.loop-set.invariant
