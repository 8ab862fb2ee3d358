-- One cell more is written at its place, and every other place keeps what it had: place by place.
use Rattle.std.proofs.Common.{◌∙◌, ℕ, List, ap, slice_set, slice_index_or, arith, rules, ◌+◌, get_or-set_same}
use Rattle.std.proofs.Common.{get_or-set_other}
use Rattle.std.proofs.lemmas.Bool.{cases_eq}
use Rattle.std.proofs.lemmas.List.{places, same_lists}
use Rattle.djq_forest.proofs.slots.overwrite.Goals as goal

pub loop-at-preserved : goal.loop-at-preserved
loop-at-preserved c =
    ap (λ (xs : List ℕ). slice_set xs (c.args.from + c.loop-at.at) (slice_index_or c.args.new.now c.loop-at.at 0))
    c.loop-at.invariant
    ∙ same_lists _ _ (search (rules, places))
    (λ k d h. grind (arith, places, get_or-set_same, get_or-set_other, cases_eq k (c.args.from + c.loop-at.at)))
