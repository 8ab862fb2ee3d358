-- A text's cell is below the count of texts, which fits in 32 bits; the text at that place is the value.
use Rattle.std.proofs.Common.{◌<◌, ◌∙◌, length, sym, subst, arith}
use Rattle.djq_database.specs.Cells.{CellStandsFor, IsCell}
use Rattle.djq_database.specs.Catalog.{Catalog}
use Rattle.djq_database.proofs.Cells.{cell_within, stands_back}
use Rattle.djq_database.proofs.Interning.{text_below, text_lent}
use Rattle.djq_database.proofs.catalog.Catalog.value.Goals as goal

pub overflow_cast-cell : goal.overflow_cast-cell
overflow_cast-cell c =
    let texts = c.self.inside.texts in
    let low : c.args.cell < length texts = text_below texts c.args.column c.args.cell c.in-Text.is
    (cell_within texts c.args.column c.args.cell (subst (λ (k : Catalog). IsCell k.texts
    c.args.column c.args.cell) (sym c.self.view_is) c.requires)) in
    omega (arith, low, c.len-count.ensures.count, c.len-count.ensures.few)

pub text-requires : goal.text-requires
text-requires c =
    let texts = c.self.inside.texts in
    text_below texts c.args.column c.args.cell c.in-Text.is
    (cell_within texts c.args.column c.args.cell (subst (λ (k : Catalog). IsCell k.texts
    c.args.column c.args.cell) (sym c.self.view_is) c.requires))

pub returns-in-Text : goal.returns-in-Text
returns-in-Text c = λ v s.
    let texts = c.self.inside.texts in
    text_lent texts c.args.column c.args.cell c.text.result.now c.in-Text.is c.text.ensures
    ∙ stands_back texts c.args.column c.args.cell v (subst (λ (k : Catalog). CellStandsFor k.texts
    c.args.column c.args.cell v) (sym c.self.view_is) s)
