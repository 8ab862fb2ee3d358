use Rattle.std.proofs.Common.{take, List}
use Rattle.std.proofs.lemmas.List.Sorted.{IsPermutation-map}
use Rattle.djq_delta.proofs.Net.{distinct_permuted, settled_permuted}
use Rattle.djq_enumeration.specs.declared.log.Line.{Line}
use Rattle.djq_enumeration.specs.Log.{signed_line, signed_lines}
use Rattle.djq_enumeration.proofs.log.settle_lines.Goals as goal

-- sorting moves the lines alone, so they stay different
pub drop_opposite_lines-requires-clause-distinct : goal.drop_opposite_lines-requires-clause-distinct
drop_opposite_lines-requires-clause-distinct c =
    let old : List Line = c.args.lines.now in
    let sorted : List Line = c.sort_by_answer.new.lines in
    distinct_permuted (signed_lines old) (signed_lines sorted) (IsPermutation-map signed_line old sorted c.sort_by_answer.ensures.permutation) c.requires

-- and what is left doesn't depend on their order
pub returns-clause-settled : goal.returns-clause-settled
returns-clause-settled c =
    let old : List Line = c.args.lines.now in
    let sorted : List Line = c.sort_by_answer.new.lines in
    settled_permuted (signed_lines old) (signed_lines sorted) (signed_lines (take c.drop_opposite_lines.result c.drop_opposite_lines.new.lines))
    (IsPermutation-map signed_line old sorted c.sort_by_answer.ensures.permutation) c.drop_opposite_lines.ensures.settled
