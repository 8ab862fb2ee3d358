-- Without slots nothing is in the buckets, and no slot is free.
use Rattle.std.proofs.Common.{arith, ◌∙◌, sym, ap, replicate, ℕ, None, refl}
use Rattle.djq_forest.proofs.IndexChanges.{of_nothing, length_none}
use Rattle.djq_forest.proofs.index.Index.new.Goals as goal

pub returns : goal.returns
returns c =
    let long = length_none _ 16 c.in_ok-heads.ensures in
    of_nothing _ c.new.ensures.items (c.in_ok-heads.ensures ∙ ap (λ (n : ℕ). replicate n None) (sym long))
    (omega (arith, long)) c.none.ensures refl
