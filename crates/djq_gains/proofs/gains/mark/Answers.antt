-- What is set in a slot for one delta more is said of the tuples that lie there, and of no others.
use Rattle.std.proofs.Common.{◌≡◌, length, slice_set, sym, ap, ◌∙◌}
use Rattle.std.proofs.lemmas.List.{get_or_read}
use Rattle.djq_gains.specs.declared.marks.Marks.{Marks}
use Rattle.djq_gains.specs.Gathered.{marks_at, gains_in, also_in, in_no_delta}
use Rattle.djq_gains.proofs.DeltaTuples.{marked_rows}
use Rattle.djq_gains.proofs.gains.mark.Goals as goal

pub returns-clause-marked : goal.returns-clause-marked
returns-clause-marked c =
    let marks = c.args.marks.now.items in
    let is : c.index_mut.result.now ≡ marks_at marks c.args.slot =
    get_or_read marks _ _ c.requires.slot c.index_mut.ensures.value in_no_delta in
    λ rows. ap (λ (m : Marks). gains_in (slice_set marks c.args.slot m) rows)
    (c.set.ensures.set ∙ ap (also_in c.args.nth c.args.came) is)
    ∙ marked_rows marks c.args.slot c.args.nth c.args.came rows c.requires.slot

pub returns-clause-eight : goal.returns-clause-eight
returns-clause-eight c =
    ap (λ (m : Marks). length m.stands)
    (sym (get_or_read c.args.marks.now.items _ _ c.requires.slot c.index_mut.ensures.value in_no_delta))
    ∙ c.set.ensures.eight
