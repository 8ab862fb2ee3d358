-- The log's changes are those that came and those that went.
use Rattle.std.proofs.Common.{List, ap, subst, map, ◌∙◌}
use Rattle.std.proofs.lemmas.List.{map-append}
use Rattle.djq_model.specs.Listed.{a_query}
use Rattle.djq_store_spec.specs.Delta.{Change}
use Rattle.djq_answer_laws.specs.Net.{CancelsOut}
use Rattle.djq_live_query.specs.Updating.{change_of}
use Rattle.djq_queries.proofs.laws.changed_logs_settle.Goals as goal

pub returns : goal.returns
returns c readers come gone gs x e d l log new leads t kept h =
    c.groups_settle.ensures x e d come gone (a_query l.query) leads.comes.comes leads.goes.goes
    (map (change_of d.texts l) t.came) (map (change_of d.texts l) t.went) new (t.comes kept) (t.goes kept)
    (subst (λ (cs : List Change). CancelsOut cs new)
    (ap (map (change_of d.texts l)) (t.lines kept) ∙ map-append (change_of d.texts l) t.came t.went) h)
