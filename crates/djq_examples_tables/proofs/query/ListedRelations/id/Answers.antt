-- The place of the first relation with the name is its number, and where there is none it has none.
use Rattle.std.proofs.Common.{◌≡◌, sym, subst, ap, ◌∙◌, ℕ}
use Rattle.std.specs.Prelude.{Option, position}
use Rattle.djq_model.specs.declared.relation.Relation.{Relation}
use Rattle.djq_model.specs.Data.{bytes_eq}
use Rattle.djq_query.specs.Relations.{IsId}
use Rattle.djq_query.proofs.NumberedQueries.{is_found}
use Rattle.djq_examples_tables.proofs.query.ListedRelations.id.Goals as goal

pub returns : goal.returns
returns c =
    let told : c.find.result ≡ position (λ (r : Relation). bytes_eq r.name c.args.name.now) c.args.self.now.relations =
    c.find.ensures ∙ ap (position (λ (r : Relation). bytes_eq r.name c.args.name.now)) c.as_slice.ensures in
    subst (λ (o : Option ℕ). IsId c.args.self.now.relations c.args.name.now o) (sym told)
    (is_found c.args.self.now.relations c.args.name.now)
