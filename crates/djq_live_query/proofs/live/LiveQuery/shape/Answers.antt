-- The tree's leaves have the labels of the query's edges, and its head is the query's: both are flat or not.
use Rattle.std.proofs.Common.{◌∙◌, ap}
use Rattle.djq_protocol.specs.Hypergraph.{edges_of, head_of}
use Rattle.djq_live_query.specs.Live.{Live}
use Rattle.djq_live_query.proofs.BuiltQueries.{flat_told}
use Rattle.djq_live_query.proofs.live.LiveQuery.shape.Goals as goal

pub returns-then-is_flat : goal.returns-then-is_flat
returns-then-is_flat c =
    let l = c.args.self.now in
    let q = l.query in
    (flat_told (edges_of q) (head_of q) l.reducts.tree c.tree-tree.result.now c.requires.1.named
    (c.tree-tree.ensures ∙ ap (λ (k : Live). k.reducts.tree) c.self.view_is) c.leaf_labels.result.now c.head.result
    c.is_flat.result c.leaf_labels.ensures c.head.ensures c.is_flat.ensures).0
    c.if-is_flat.true

pub returns-else-is_flat : goal.returns-else-is_flat
returns-else-is_flat c = λ flat.
    let l = c.args.self.now in
    let q = l.query in
    let yes = (flat_told (edges_of q) (head_of q) l.reducts.tree c.tree-tree.result.now c.requires.1.named
    (c.tree-tree.ensures ∙ ap (λ (k : Live). k.reducts.tree) c.self.view_is) c.leaf_labels.result.now c.head.result
    c.is_flat.result c.leaf_labels.ensures c.head.ensures c.is_flat.ensures).1
    flat in
    let no = c.if-is_flat.false in
    absurd (cc)
