-- A relation is there exactly where its name has a number, so the atom at the index reads a known one.
use Rattle.std.proofs.Common.{sym, ◌∙◌, ap, ap₂, ◌≡◌, false}
use Rattle.std.specs.Prelude.{is_none, not, ◌||◌}
use Rattle.std.proofs.lemmas.List.Folds.{list_any_more}
use Rattle.djq_model.specs.declared.query.Atom.{Atom}
use Rattle.djq_model.specs.Data.{relation_of}
use Rattle.djq_query.proofs.NumberedQueries.{id_none}
use Rattle.djq_query.proofs.places.reads_unknown.Goals as goal

pub loop-atom-preserved : goal.loop-atom-preserved
loop-atom-preserved g c =
    let p = λ (a : Atom). is_none (relation_of (g.R.Relations.relations c.args.relations.now) a.relation) in
    let told = id_none (g.R.Relations.relations c.args.relations.now) c.atom-item.result.relation c.id.result
    c.id.ensures in
    let asked = c.is_none.ensures in
    let none : is_none c.id.result ≡ false = ap not asked ∙ ap (λ b. not (not b)) c.if-is_none.false in
    let here : is_none (relation_of (g.R.Relations.relations c.args.relations.now) c.atom-item.result.relation)
    ≡ false = told ∙ none in
    list_any_more p c.args.atoms.now c.loop-atom.atom-index c.atom-item.result c.loop-atom-test.true
    ∙ ap₂ (λ a b. a || b) c.loop-atom.invariant (ap p (sym c.atom-item.is) ∙ here)
