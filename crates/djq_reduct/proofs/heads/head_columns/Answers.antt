-- The columns so far are those of the nodes before the index, and past the end these are all nodes.
use Rattle.std.proofs.Common.{◌≡◌, ℕ, List, ◌++◌, ◌∷◌, [], length, sym, ap, arith, ◌∙◌}
use Rattle.djq_tree.specs.Labels.{label_at}
use Rattle.djq_reduct.specs.Columns.{columns}
use Rattle.djq_reduct.specs.Heads.{head_columns}
use Rattle.djq_reduct.proofs.Paths.{heads_none, heads_on}
use Rattle.djq_reduct.proofs.heads.head_columns.Goals as goal

pub loop-node-init : goal.loop-node-init
loop-node-init c = c.new-all.ensures.items ∙ sym (heads_none c.args.tree.now)

pub loop-node-preserved : goal.loop-node-preserved
loop-node-preserved c =
    let t = c.args.tree.now in
    let k = c.loop-node.node in
    c.in_ok-push.ensures.items
    ∙ ap (λ (cs : List ℕ). c.loop-node.all.items ++ cs ∷ []) c.in_ok-columns.ensures
    ∙ ap (λ (F : List ℕ). c.loop-node.all.items ++ columns F c.label.result ∷ []) c.head-head.ensures
    ∙ ap (λ (l : List ℕ). c.loop-node.all.items ++ columns t.head l ∷ []) c.label.ensures
    ∙ ap (λ (all : List (List ℕ)). all ++ columns t.head (label_at t.labels k) ∷ []) c.loop-node.invariant
    ∙ heads_on t k

pub returns : goal.returns
returns c =
    let count = c.len-node-end.ensures.count in
    let test = c.loop-node-test.false in
    let low = c.loop-node.auto.node-end in
    let all : c.loop-node.node ≡ length c.args.tree.now.nodes = omega arith in
    c.loop-node.invariant ∙ ap (λ (n : ℕ). head_columns c.args.tree.now n) all
