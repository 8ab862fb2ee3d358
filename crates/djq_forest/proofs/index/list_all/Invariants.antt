use Rattle.std.proofs.Common.{◌≡◌, length}
use Rattle.djq_forest.specs.Index.{AreListed, key_bucket}
use Rattle.djq_forest.proofs.index.list_all.Given as goal

abbrev pub invariant-loop-at : goal.invariant-loop-at
invariant-loop-at l = record {
  listed : AreListed (key_bucket (length l.fn.heads.items) l.slots.tuples) l.links.items l.heads.items l.at;
  links : length l.links.items ≡ length l.fn.links.items;
  heads : length l.heads.items ≡ length l.fn.heads.items;
}
