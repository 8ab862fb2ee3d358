-- A key of one column picks one cell, that at its column, and the column is below the tuple's width.
use Rattle.std.proofs.Common.{[], ◌∷◌, sym, ◌∙◌, ap, subst, length, List, ℕ, arith}
use Rattle.std.specs.Result.{IfOk}
use Rattle.djq_index.specs.Raw.{IsSeat}
use Rattle.djq_index.proofs.Tuples.{column_below, pick_one}
use Rattle.djq_index.proofs.insertion.find_or_make_head.Goals as goal

pub cell_at-requires : goal.cell_at-requires
cell_at-requires c = column_below (length c.args.tuple.now) c.args.key.now 0 c.requires.columns
    (omega (arith, c.in-len1.len_at_least))

pub returns-in-len1-clause-seated : goal.returns-in-len1-clause-seated
returns-in-len1-clause-seated c =
    subst
    (λ (u : List ℕ). IfOk c.head_of.result
    (λ head. IsSeat c.args.keys.now.rows c.head_of.new.keys.rows c.args.ends.now.items c.head_of.new.ends.items head u))
    (ap (λ (n : ℕ). n ∷ []) c.cell_at.ensures
    ∙ sym
    (pick_one c.args.key.now c.args.tuple.now (omega (arith, c.in-len1.len_at_least, c.in-len1.len_below))))
    c.head_of.ensures.seated
