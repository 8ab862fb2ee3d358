use Rattle.std.proofs.Common.{◌≡◌, take}
use Rattle.std.specs.Prelude.{map}
use Rattle.djq_query.specs.Numbered.{labels, number_of}
use Rattle.djq_query.proofs.numbering.number_head.Given as goal

abbrev pub invariant-loop-name : goal.invariant-loop-name
invariant-loop-name l = l.numbers ≡ map (number_of (labels l.known)) (take l.name-index l.head)
