use Rattle.std.proofs.Common.{◌≡◌, drop, false}
use Rattle.djq_value.specs.Token.{text_in}
use Rattle.djq_value.specs.Quoted.{put_front}
use Rattle.djq_value.proofs.quoted.unescaped.Given as goal

abbrev pub invariant-loop-byte : goal.invariant-loop-byte
invariant-loop-byte l = text_in false l.bytes ≡ put_front l.text.items (text_in l.escape (drop l.byte-index l.bytes))
