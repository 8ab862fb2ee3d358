use Rattle.std.proofs.Common.{◌≡◌, length}
use Rattle.std.specs.List.{list_all}
use Rattle.djq_mirror.specs.Replies.{is_printed_variable}
use Rattle.djq_mirror.specs.Reading.{is_edge_word}
use Rattle.djq_mirror.proofs.words.is_edge.Given as goal

abbrev pub invariant-parts : goal.invariant-parts
invariant-parts l = is_edge_word l.word ≡ list_all is_printed_variable l.parts

abbrev pub decreases-parts : goal.decreases-parts
decreases-parts l = length l.parts
