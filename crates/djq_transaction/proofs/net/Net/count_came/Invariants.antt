-- So many of the rows up to a place came.
use Rattle.std.specs.Prelude.{◌≡◌, ◌≤◌, length, filter, take}
use Rattle.djq_transaction.specs.Net.{copies_came}
use Rattle.djq_transaction.proofs.net.Net.count_came.Given as goal

abbrev pub invariant-loop-place : goal.invariant-loop-place
invariant-loop-place l = record {
  count : l.count ≡ length (filter copies_came (take l.place l.self.copies.items));
  low : l.count ≤ l.place;
}
