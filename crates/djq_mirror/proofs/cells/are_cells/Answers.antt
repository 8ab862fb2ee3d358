-- Nothing is left, so there is no further cell, and all before it were cells.
use Rattle.std.proofs.Common.{◌≡◌, ◌∙◌, length, rules, arith, sym}
use Rattle.djq_mirror.proofs.Spellings.{cells_empty}
use Rattle.djq_mirror.proofs.cells.are_cells.Goals as goal

pub returns : goal.returns
returns c =
    let empty : length c.cells.rest.now ≡ 0 = first_of (search rules, omega arith, grind arith) in
    sym (c.cells.invariant ∙ cells_empty c.cells.rest.now empty)
