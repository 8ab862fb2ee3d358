-- The first tuples, as many as there are, are all of them; none came, so no mark is there, nor a longer table.
use Rattle.std.proofs.Common.{ℕ, List, subst, sym, arith}
use Rattle.std.proofs.Math.Seq.{take-length}
use Rattle.djq_reduct.specs.Tables.{entries_at}
use Rattle.djq_propagate.specs.Batches.{AreThere, HaveGone}
use Rattle.djq_propagate.proofs.Batches.{all_lost}
use Rattle.djq_propagate.proofs.Costs.{gone_by, sized}
use Rattle.djq_propagate.proofs.PathMarks.{fewer_bare}
use Rattle.djq_propagate.proofs.Updates.{rest_kept}
use Rattle.djq_propagate.proofs.batch.drop_leaf_many.Goals as goal

pub remove_all-requires-clause-there : goal.remove_all-requires-clause-there
remove_all-requires-clause-there g c =
    subst (λ (us : List (List ℕ)). AreThere (entries_at c.reducts.inside.tables.items c.args.leaf) us)
    (sym (take-length c.args.tuples.now)) (rw (← c.reducts.view_is) at c.requires.there)

pub returns-clause-lost : goal.returns-clause-lost
returns-clause-lost g c = rw (← c.reducts.view_is) (
    all_lost c.reducts.inside.tree c.reducts.inside.tables.items c.remove_all.new.tables.items c.args.leaf
    c.args.tuples.now (fewer_bare c.reducts.inside.tables.items c.remove_all.new.tables.items c.remove_all.ensures.fewer
    (rw (← c.reducts.view_is) at c.requires.bare))
    (subst (λ (us : List (List ℕ)). HaveGone c.reducts.inside.tree c.reducts.inside.tables.items
    c.remove_all.new.tables.items c.args.leaf us) (take-length c.args.tuples.now) c.remove_all.ensures.gone))

pub returns-clause-counted : goal.returns-clause-counted
returns-clause-counted g c = rw (← c.reducts.view_is) (
    λ n few.
    gone_by c.reducts.inside.tree c.reducts.inside.tables.items c.remove_all.new.tables.items c.args.leaf
    c.args.tuples.now n c.args.tally.now c.remove_all.new.tally c.reducts.invariant.0
    (subst (λ (us : List (List ℕ)). HaveGone c.reducts.inside.tree c.reducts.inside.tables.items
    c.remove_all.new.tables.items c.args.leaf us) (take-length c.args.tuples.now) c.remove_all.ensures.gone)
    (λ i. let s = sized c.reducts.inside.tree c.reducts.inside.tables.items n c.reducts.invariant.0 few i in omega
    arith) c.remove_all.ensures.counted)

pub invariant_of-reducts : goal.invariant_of-reducts
invariant_of-reducts g c =
    rest_kept c.reducts.invariant
    (all_lost c.reducts.inside.tree c.reducts.inside.tables.items c.remove_all.new.tables.items c.args.leaf
    c.args.tuples.now (fewer_bare c.reducts.inside.tables.items c.remove_all.new.tables.items c.remove_all.ensures.fewer
    (rw (← c.reducts.view_is) at c.requires.bare))
    (subst (λ (us : List (List ℕ)). HaveGone c.reducts.inside.tree c.reducts.inside.tables.items
    c.remove_all.new.tables.items c.args.leaf us) (take-length c.args.tuples.now) c.remove_all.ensures.gone)).sound
