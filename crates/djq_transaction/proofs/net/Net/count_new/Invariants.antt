-- So many of the rows up to a place are new in the relation.
use Rattle.std.specs.Prelude.{◌≡◌, ◌≤◌, length, filter, take}
use Rattle.std.specs.List.{zip}
use Rattle.djq_transaction.specs.Net.{keys, is_new_in}
use Rattle.djq_transaction.proofs.net.Net.count_new.Given as goal

abbrev pub invariant-loop-place : goal.invariant-loop-place
invariant-loop-place l = record {
  count : l.count ≡ length (filter (is_new_in l.relation) (take l.place (zip (keys l.self) l.self.copies.items)));
  low : l.count ≤ l.place;
}
