-- The edge that is read is the one with the number, and it is written back.
use Rattle.std.proofs.Common.{◌≡◌, true, sym, ◌∙◌, ap, subst}
use Rattle.djq_hypergraph.specs.Hypergraph.{member}
use Rattle.djq_forest.specs.EdgeTies.{edge_ties, put_ties}
use Rattle.djq_forest.specs.Forest.{Edge, tie_of, list_of}
use Rattle.djq_forest.specs.Invariants.{is_empty}
use Rattle.djq_forest.specs.TieLists.{taken_out, list_less}
use Rattle.djq_forest.proofs.Rooms.{read_edge}
use Rattle.djq_forest.proofs.StepChanges.{written_edge, list_left}
use Rattle.djq_forest.proofs.steps.leave_at.Goals as goal

pub leave-requires : goal.leave-requires
leave-requires c = subst (λ (e : Edge). member c.args.slot (list_of e (tie_of e c.args.slot)) ≡ true)
    (sym (read_edge c.args.edges.now.items c.args.at c.index_mut-edge.result.now c.requires.within
    c.index_mut-edge.ensures.value)) c.requires.listed

pub returns-clause-left : goal.returns-clause-left
returns-clause-left c = written_edge c.args.edges.now.items c.args.at c.index_mut-edge.result.now c.leave.new.self
    (λ e. put_ties e (taken_out (edge_ties e) c.args.slot)) c.requires.within c.index_mut-edge.ensures.value
    c.leave.ensures.left

pub returns-clause-last : goal.returns-clause-last
returns-clause-last c =
    let read = read_edge c.args.edges.now.items c.args.at c.index_mut-edge.result.now c.requires.within
    c.index_mut-edge.ensures.value in
    c.leave.ensures.last
    ∙ ap is_empty (list_left c.index_mut-edge.result.now c.leave.new.self c.args.slot
    (subst (λ (e : Edge). member c.args.slot (list_of e (tie_of e c.args.slot)) ≡ true) (sym read) c.requires.listed)
    c.leave.ensures.left)
    ∙ ap (λ (e : Edge). is_empty (list_less c.args.slot (list_of e (tie_of e c.args.slot)))) read
