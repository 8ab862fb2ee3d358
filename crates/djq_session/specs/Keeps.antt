-- The room for a session's last line.
use Rattle.std.specs.Prelude.{ℕ, ◌≤◌, Option, None, Some, ⊤}
use Rattle.djq_protocol.specs.declared.limits.TheConstants.{LAST_LINE_BYTES}
use Rattle.djq_protocol.specs.declared.answer.EndCause.{EndCause}

-- As long as a session isn't ended, there is room for its last line.
abbrev pub KeepsRoom : Option EndCause → ℕ → Type 0
KeepsRoom None room = LAST_LINE_BYTES ≤ room
KeepsRoom (Some c) room = ⊤
