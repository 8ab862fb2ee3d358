use Rattle.std.proofs.Common.{◌≡◌, take}
use Rattle.std.specs.List.{fold}
use Rattle.djq_log_format.specs.Digest.{absorbed}
use Rattle.djq_log_format.proofs.digest.Digest.update.Given as goal

-- The digest is on its way over the bytes so far.
abbrev pub invariant-loop-byte : goal.invariant-loop-byte
invariant-loop-byte l = l.self ≡ fold absorbed l.fn.self (take l.byte-index l.piece)
