-- Types and a row fit where they are of one length and each value is of its column's type, one by one.
use Rattle.std.proofs.Common.{List, false, ◌∙◌, ap, sym, arith}
use Rattle.djq_model.specs.declared.relation.ColumnType.{ColumnType}
use Rattle.djq_model.specs.Typed.{fits}
use Rattle.djq_database.proofs.Catalogs.{suits_seen, types_fit, no_fit}
use Rattle.djq_database.proofs.catalog.Catalog.suits.Goals as goal

pub returns-then-row-types : goal.returns-then-row-types
returns-then-row-types c =
    suits_seen c.self.inside c.args.self.now c.args.id.at c.index.result.now c.args.row.now false
    c.self.view_is c.requires c.index.ensures
    (sym (no_fit c.as_slice-types.result.now c.args.row.now (λ e. omega arith))
    ∙ ap (λ (ts : List ColumnType). fits ts c.args.row.now) c.as_slice-types.ensures)

pub returns : goal.returns
returns c =
    suits_seen c.self.inside c.args.self.now c.args.id.at c.index.result.now c.args.row.now
    c.are_typed.result c.self.view_is c.requires c.index.ensures
    (c.are_typed.ensures ∙ types_fit c.as_slice-types.result.now c.args.row.now (omega arith)
    ∙ ap (λ (ts : List ColumnType). fits ts c.args.row.now) c.as_slice-types.ensures)
