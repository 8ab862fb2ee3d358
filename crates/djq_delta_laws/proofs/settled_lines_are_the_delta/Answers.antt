use Rattle.std.proofs.Common.{subst, map, List, ◌++◌}
use Rattle.std.proofs.lemmas.List.{map-append}
use Rattle.djq_store_spec.specs.Delta.{Change}
use Rattle.djq_answer_laws.specs.Net.{CancelsOut}
use Rattle.djq_delta_laws.specs.Changes.{line_change}
use Rattle.djq_delta_laws.proofs.Read.{cancel_out}
use Rattle.djq_delta_laws.proofs.settled_lines_are_the_delta.Goals as goal

-- the law of the net, at the changes that the lines stand for
pub returns : goal.returns
returns c = λ before between after q grows shrinks tuple come gone new came went apart h.
    let line = line_change tuple in
    c.net_deltas.ensures before between after q grows shrinks (map line come) (map line gone) (map line new) came went
    (subst (λ (cs : List Change). CancelsOut cs (map line new)) (map-append line come gone) (cancel_out tuple (come ++ gone) new apart h))
