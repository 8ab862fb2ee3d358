-- An edge cut in its midst leaves a front of the text of all edges, since those before it are there whole.
use Rattle.std.proofs.Common.{◌∷◌, ◌<◌, ℕ, List, length, get_or, ap, sym, subst, ◌∙◌}
use Rattle.djq_hypergraph.specs.Naming.{edge_text}
use Rattle.djq_protocol.specs.Reply.{edges_text}
use Rattle.djq_reply.proofs.Printing.{adds_err, cut_at_item}
use Rattle.djq_reply.proofs.registered.add_edges.Goals as goal

pub returns-in_err-add_edge : goal.returns-in_err-add_edge
returns-in_err-add_edge c =
    let names = c.args.names.now in
    let edges = c.args.edges.now in
    let edge = c.edge-item.result in
    let all = c.as_slice-edge-items.ensures in
    adds_err c.args.out.now c.add_edge.new.out (edges_text names edges) c.from_residual.result c.from_residual.ensures.0
    (cut_at_item (λ e. 32 ∷ edge_text names e) c.args.out.now c.loop-edge.out c.add_edge.new.out edges
    c.loop-edge.edge-index edge
    (subst (λ (es : List (List ℕ)). c.loop-edge.edge-index < length es) all c.loop-edge-test.true)
    (sym (c.edge-item.is ∙ ap (λ (es : List (List ℕ)). get_or es c.loop-edge.edge-index edge) all))
    c.loop-edge.invariant c.in_err-add_edge.ensures)
