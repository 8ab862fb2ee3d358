use Rattle.std.proofs.Common.{◌≡◌, length}
use Rattle.std.specs.List.{list_all}
use Rattle.djq_mirror.specs.Reading.{is_edge_word}
use Rattle.djq_mirror.proofs.forms.are_edges.Given as goal

abbrev pub invariant-words : goal.invariant-words
invariant-words l = list_all is_edge_word l.fn.words ≡ list_all is_edge_word l.words

abbrev pub decreases-words : goal.decreases-words
decreases-words l = length l.words
