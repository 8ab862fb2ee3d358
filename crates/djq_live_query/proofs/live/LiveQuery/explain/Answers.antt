-- The tree of a kept query is one of its edges, so it has an atom for each leaf and a name for each variable.
use Rattle.std.proofs.Common.{◌≡◌, ℕ, List, length, sym, subst, ap, map, ◌∙◌, arith}
use Rattle.djq_model.specs.Data.{Bytes}
use Rattle.djq_protocol.specs.Hypergraph.{label_name, variable_names}
use Rattle.djq_tree.specs.Explaining.{explain_of}
use Rattle.djq_protocol.specs.Variables.{Label}
use Rattle.djq_query.specs.declared.numbered.Variable.{Variable}
use Rattle.djq_query.specs.Numbered.{labels}
use Rattle.djq_hypergraph.specs.Variables.{AreNamed}
use Rattle.djq_tree.specs.Tree.{Tree, leaf_labels}
use Rattle.djq_live_query.specs.Live.{Live, IsKept}
use Rattle.djq_live_query.proofs.BuiltQueries.{leaves_named, variables_named}
use Rattle.djq_live_query.proofs.live.LiveQuery.explain.Goals as goal

pub explain_text-requires-clause-atoms : goal.explain_text-requires-clause-atoms
explain_text-requires-clause-atoms c =
    let kept = subst (λ (l : Live). IsKept c.requires.kept.0 l) (sym c.self.view_is)
    c.requires.kept.1 in
    let tree = ap (λ (t : Tree). t.leaves) c.tree.ensures in
    let names = ap (λ (l : List (List ℕ)). length l) c.in_ok-relations.ensures in
    let few = leaves_named c.self.inside.query c.self.inside.reducts.tree kept.named in
    omega arith

pub explain_text-requires-clause-variables : goal.explain_text-requires-clause-variables
explain_text-requires-clause-variables c =
    let kept = subst (λ (l : Live). IsKept c.requires.kept.0 l) (sym c.self.view_is)
    c.requires.kept.1 in
    subst (λ (t : Tree). AreNamed c.in_ok-variables.variables (leaf_labels t))
    (sym c.tree.ensures)
    (subst (λ (names : List (List ℕ)). AreNamed names
    (leaf_labels c.self.inside.reducts.tree))
    (sym (c.in_ok-variables.ensures ∙ ap (λ (vs : List Variable). map label_name (labels vs)) c.variables.ensures
    ∙ ap (λ (ls : List Label). map label_name ls) kept.over.asked.variables))
    (variables_named c.self.inside.query c.self.inside.reducts.tree kept.named))

pub returns : goal.returns
returns c =
    let q = c.self.inside.query in
    let kept = subst (λ (l : Live). IsKept c.requires.kept.0 l) (sym c.self.view_is) c.requires.kept.1 in
    let names = c.in_ok-variables.ensures ∙ ap (λ (vs : List Variable). map label_name (labels vs)) c.variables.ensures
    ∙ ap (λ (ls : List Label). map label_name ls) kept.over.asked.variables in
    subst (λ (l : Live). c.in_ok-lines.lines
    ≡ explain_of (map (λ a. a.relation) l.query.atoms) (variable_names l.query) l.reducts.tree) c.self.view_is
    (c.in_ok-lines.ensures
    ∙ ap (λ (rs : List Bytes). explain_of rs c.in_ok-variables.variables c.tree.result.now) c.in_ok-relations.ensures
    ∙ ap (λ (vs : List Bytes). explain_of (map (λ a. a.relation) q.atoms) vs c.tree.result.now) names
    ∙ ap (λ (u : Tree). explain_of (map (λ a. a.relation) q.atoms) (variable_names q) u) c.tree.ensures)
