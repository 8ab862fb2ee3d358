-- So many of the rows up to a place went.
use Rattle.std.specs.Prelude.{◌≡◌, ◌≤◌, length, filter, take}
use Rattle.djq_transaction.specs.Net.{copies_went}
use Rattle.djq_transaction.proofs.net.Net.count_went.Given as goal

abbrev pub invariant-loop-place : goal.invariant-loop-place
invariant-loop-place l = record {
  count : l.count ≡ length (filter copies_went (take l.place l.self.copies.items));
  low : l.count ≤ l.place;
}
