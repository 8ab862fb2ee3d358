-- Setting the first cell leaves the answer as long as it was, so the second column still lies in it.
use Rattle.std.proofs.Common.{◌∙◌, List, ℕ, ◌<◌, length, slice_index_or, ap, sym, subst, rules}
use Rattle.std.proofs.lemmas.List.{length-set}
use Rattle.djq_enumeration.proofs.Cells.{second_below}
use Rattle.djq_enumeration.proofs.levels.write_tuple.Goals as goal

pub set-requires-in-2-2 : goal.set-requires-in-2-2
set-requires-in-2-2 c =
    let cs = c.args.columns.now in
    subst (λ (n : ℕ). slice_index_or cs 1 0 < n)
    (sym (ap (λ (s : List ℕ). length s) c.set-in-2.ensures
    ∙ length-set c.args.answer.now (slice_index_or cs 0 0) (slice_index_or c.args.tuple.now 0 0)))
    (second_below (length c.args.answer.now) cs c.requires.within (search rules))
