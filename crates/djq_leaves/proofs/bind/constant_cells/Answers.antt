-- All constants of the terms have cells, so the one at the index has; its cell stands behind those before it.
use Rattle.std.proofs.Common.{◌+◌, List, ℕ, [], ◌∷◌, ◌++◌, take, sym, subst, ap, ◌∙◌}
use Rattle.std.proofs.lemmas.List.{take_more}
use Rattle.djq_query.specs.declared.numbered.NumberedTerm.{NumberedTerm}
use Rattle.djq_leaves.specs.Leaves.{AreCellsOfTerms}
use Rattle.djq_leaves.proofs.LeafRows.{constant_at, cells_push}
use Rattle.djq_leaves.proofs.bind.constant_cells.Goals as goal

pub constant_cell-requires : goal.constant_cell-requires
constant_cell-requires c =
    constant_at c.args.catalog.now.texts c.args.terms.now c.terms.i c.index-terms-i.result
    c.requires c.terms-test.true c.index-terms-i.is

pub terms-preserved : goal.terms-preserved
terms-preserved c =
    let texts = c.args.catalog.now.texts in
    let terms = c.args.terms.now in
    let i = c.terms.i in
    let t = c.index-terms-i.result in
    subst (λ (cs : List ℕ). AreCellsOfTerms texts (take (i + 1) terms) cs)
    (sym c.in_ok-push.ensures.items)
    (subst
    (λ (ts : List NumberedTerm). AreCellsOfTerms texts ts (c.terms.cells.items
    ++ c.constant_cell.result ∷ []))
    (sym (take_more terms i t c.terms-test.true
    ∙ ap (λ (u : NumberedTerm). take i terms ++ u ∷ []) (sym c.index-terms-i.is)))
    (cells_push texts (take i terms) c.terms.cells.items t c.constant_cell.result
    c.terms.invariant c.constant_cell.ensures))
