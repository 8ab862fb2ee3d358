-- The lists were found once and stay, one for each node, so what stands at the node is that of its label.
use Rattle.std.proofs.Common.{ℕ, List, length, ap, arith, ◌∙◌}
use Rattle.std.specs.Prelude.{slice_index_or}
use Rattle.djq_tree.specs.Labels.{label_at}
use Rattle.djq_reduct.specs.Columns.{columns}
use Rattle.djq_reduct.specs.Reducts.{Reducts}
use Rattle.djq_reduct.proofs.Paths.{length_heads, heads_at}
use Rattle.djq_reduct.proofs.reducts.Reducts.columns.Goals as goal

pub index-requires : goal.index-requires
index-requires c =
    let within = c.requires in
    let long = ap (λ (l : List (List ℕ)). length l) c.self.invariant.1 in
    let all = length_heads c.self.inside.tree (length c.self.inside.tree.nodes) in
    let nodes = ap (λ (r : Reducts). length r.tree.nodes) c.self.view_is in
    let items = c.self.inside.columns.ok.0 in
    omega arith

pub returns : goal.returns
returns c =
    let t = c.self.inside.tree in
    let within = c.requires in
    let nodes = ap (λ (r : Reducts). length r.tree.nodes) c.self.view_is in
    c.as_slice.ensures ∙ c.index.ensures
    ∙ ap (λ (all : List (List ℕ)). slice_index_or all c.args.node c.index.result.now) c.self.invariant.1
    ∙ heads_at t (length t.nodes) c.args.node c.index.result.now (omega arith)
    ∙ ap (λ (r : Reducts). columns r.tree.head (label_at r.tree.labels c.args.node)) c.self.view_is
