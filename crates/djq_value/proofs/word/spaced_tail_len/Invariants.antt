use Rattle.std.proofs.Common.{◌≡◌, ◌-◌, ◌≤◌, length, take, true}
use Rattle.std.specs.List.{list_all}
use Rattle.djq_value.specs.Word.{may_follow_of}
use Rattle.djq_value.proofs.word.spaced_tail_len.Given as goal

abbrev pub invariant-tail : goal.invariant-tail
invariant-tail l = record {
  within : l.len ≤ length l.bytes;
  follow : list_all may_follow_of (take l.len l.bytes) ≡ true;
}

abbrev pub decreases-tail : goal.decreases-tail
decreases-tail l = length l.bytes - l.len
