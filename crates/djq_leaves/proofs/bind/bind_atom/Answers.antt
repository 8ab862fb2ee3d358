-- Each term has one cell and each comparison one, so there are as many cells as terms and as comparisons.
use Rattle.std.proofs.Common.{List, ℕ, length, ap, ◌∙◌}
use Rattle.std.proofs.lemmas.List.{length-map}
use Rattle.djq_query.specs.declared.numbered.NumberedTerm.{NumberedTerm}
use Rattle.djq_query.specs.declared.numbered.NumberedComparison.{NumberedComparison}
use Rattle.djq_database.specs.Cells.{cell_for}
use Rattle.djq_binder.specs.Asked.{constants_in}
use Rattle.djq_leaves.proofs.LeafRows.{cells_long}
use Rattle.djq_leaves.proofs.bind.bind_atom.Goals as goal

pub bind-requires-clause-cells : goal.bind-requires-clause-cells
bind-requires-clause-cells c =
    ap (λ (cs : List ℕ). length cs) c.deref.ensures.value
    ∙ cells_long c.args.catalog.now.texts c.as_slice.result.now c.in_ok-cells.cells.items
    c.in_ok-cells.ensures
    ∙ ap (λ (ts : List NumberedTerm). length ts) c.as_slice.ensures

pub bind-requires-clause-constants : goal.bind-requires-clause-constants
bind-requires-clause-constants c =
    ap (λ (cs : List ℕ). length cs) c.requires.compared
    ∙ length-map (constants_in c.args.comparisons.now) (cell_for c.args.catalog.now.texts)
    ∙ length-map c.args.comparisons.now (λ (k : NumberedComparison). k.constant)
