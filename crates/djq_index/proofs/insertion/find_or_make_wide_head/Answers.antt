-- A projection has as many cells as the key has columns, and so wide are the rows that hold the heads.
use Rattle.std.proofs.Common.{sym, ◌∙◌, ap, length, List, ℕ}
use Rattle.djq_index.proofs.Tuples.{length_pick}
use Rattle.djq_index.proofs.insertion.find_or_make_wide_head.Goals as goal

pub head_of-requires-clause-width : goal.head_of-requires-clause-width
head_of-requires-clause-width c =
    c.requires.width
    ∙ sym
    (ap (λ (u : List ℕ). length u) (c.as_slice.ensures ∙ c.in_ok-project.ensures.picked)
    ∙ length_pick c.args.key.now c.args.tuple.now)
