use Rattle.std.proofs.Common.{◌≡◌, ◌+◌}
use Rattle.djq_tree.specs.Levels.{is_start}
use Rattle.djq_tree.specs.Counts.{how_many}
use Rattle.djq_enumeration.proofs.States.{Starts}
use Rattle.djq_enumeration.proofs.lookup.has.Given as goal

abbrev pub invariant-loop-node : goal.invariant-loop-node
invariant-loop-node g l = record {
  found : Starts l.reducts l.answer l.node;
  counted : l.listing ≡ l.fn.listing + how_many (is_start l.reducts.tree) l.node;
}
