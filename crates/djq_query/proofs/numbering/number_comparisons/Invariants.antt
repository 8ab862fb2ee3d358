use Rattle.std.proofs.Common.{◌≡◌, take}
use Rattle.std.specs.Prelude.{map}
use Rattle.djq_query.specs.Numbered.{labels, numbered_comparison}
use Rattle.djq_query.proofs.numbering.number_comparisons.Given as goal

abbrev pub invariant-loop-comparison : goal.invariant-loop-comparison
invariant-loop-comparison l = l.numbered
    ≡ map (numbered_comparison (labels l.known)) (take l.comparison-index l.comparisons)
