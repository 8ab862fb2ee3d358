use Rattle.std.proofs.Common.{length, ◌-◌, ◌≡◌, ◌≤◌, drop, take, ◌++◌}
use Rattle.djq_value.specs.Token.{behind_word, word_front}
use Rattle.djq_value.proofs.lexer.word_len.Given as goal

abbrev pub invariant-loop-len : goal.invariant-loop-len
invariant-loop-len l = record {
  within : l.len ≤ length l.bytes;
  behind : behind_word (drop l.len l.bytes) ≡ behind_word l.bytes;
  word : take l.len l.bytes ++ word_front (drop l.len l.bytes) ≡ word_front l.bytes;
}

abbrev pub decreases-loop-len : goal.decreases-loop-len
decreases-loop-len l = length l.bytes - l.len
