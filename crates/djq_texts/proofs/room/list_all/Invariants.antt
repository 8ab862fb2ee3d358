use Rattle.std.proofs.Common.{◌≡◌, length}
use Rattle.djq_texts.proofs.Index.{AreListed}
use Rattle.djq_texts.proofs.room.list_all.Given as goal

abbrev pub invariant-loop-number : goal.invariant-loop-number
invariant-loop-number l = record {
  listed : AreListed l.entries.items l.links.items l.heads.items l.number;
  linked : length l.links.items ≡ length l.entries.items;
  heads : length l.heads.items ≡ length l.fn.heads.items;
}
