use Rattle.std.proofs.Common.{◌≡◌, ◌-◌, ◌≤◌, drop, false, length, take}
use Rattle.djq_value.specs.Quoted.{put_front}
use Rattle.djq_value.specs.Token.{text_in}
use Rattle.djq_value.proofs.quoted.plain_len.Given as goal

abbrev pub invariant-plain : goal.invariant-plain
invariant-plain l = record {
  within : l.len ≤ length l.bytes;
  read : text_in false l.bytes ≡ put_front (take l.len l.bytes) (text_in false (drop l.len l.bytes));
}

abbrev pub decreases-plain : goal.decreases-plain
decreases-plain l = length l.bytes - l.len
