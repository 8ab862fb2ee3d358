-- The edge that is read is the one with the number, and it is written back.
use Rattle.std.proofs.Common.{◌≡◌, ◌<◌, false, length, sym, ◌∙◌, ap, subst}
use Rattle.djq_hypergraph.specs.Hypergraph.{member}
use Rattle.djq_forest.specs.EdgeTies.{edge_ties, put_ties}
use Rattle.djq_forest.specs.Forest.{Edge, tie_of, list_of}
use Rattle.djq_forest.specs.Invariants.{is_empty}
use Rattle.djq_forest.specs.TieLists.{put_in_front}
use Rattle.djq_forest.proofs.Rooms.{read_edge}
use Rattle.djq_forest.proofs.StepChanges.{written_edge}
use Rattle.djq_forest.proofs.steps.enter_at.Goals as goal

pub enter-requires-clause-within : goal.enter-requires-clause-within
enter-requires-clause-within c = subst (λ (e : Edge). c.args.slot < length e.ties)
    (sym (read_edge c.args.edges.now.items c.args.at c.index_mut-edge.result.now c.requires.within
    c.index_mut-edge.ensures.value)) c.requires.ties

pub enter-requires-clause-to : goal.enter-requires-clause-to
enter-requires-clause-to c = subst (λ (e : Edge). tie_of e c.args.slot < length e.lists)
    (sym (read_edge c.args.edges.now.items c.args.at c.index_mut-edge.result.now c.requires.within
    c.index_mut-edge.ensures.value)) c.requires.to

pub enter-requires-clause-out : goal.enter-requires-clause-out
enter-requires-clause-out c = subst (λ (e : Edge). member c.args.slot (list_of e (tie_of e c.args.slot)) ≡ false)
    (sym (read_edge c.args.edges.now.items c.args.at c.index_mut-edge.result.now c.requires.within
    c.index_mut-edge.ensures.value)) c.requires.out

pub returns-clause-entered : goal.returns-clause-entered
returns-clause-entered c = written_edge c.args.edges.now.items c.args.at c.index_mut-edge.result.now c.enter.new.self
    (λ e. put_ties e (put_in_front (edge_ties e) c.args.slot)) c.requires.within c.index_mut-edge.ensures.value
    c.enter.ensures.entered

pub returns-clause-first : goal.returns-clause-first
returns-clause-first c = c.enter.ensures.first
    ∙ ap (λ (e : Edge). is_empty (list_of e (tie_of e c.args.slot)))
    (read_edge c.args.edges.now.items c.args.at c.index_mut-edge.result.now c.requires.within
    c.index_mut-edge.ensures.value)
