-- What batches hold was read from lines.
use Rattle.std.specs.Prelude.{◌≤◌, Option, None, Some, length, All, ⊤}
use Rattle.djq_model.specs.Data.{Bytes}
use Rattle.djq_protocol.specs.declared.limits.TheConstants.{LINE_BYTES}
use Rattle.djq_store_spec.specs.Held.{HeldTransaction}
use Rattle.djq_machine.specs.State.{State, Session}

-- a line as a session may send it
abbrev pub IsLine : Bytes → Type 0
IsLine l = (1 ≤ length l) × (length l ≤ LINE_BYTES)

-- What a batch holds, if one is open, was read from lines.
abbrev pub HoldsLines : Option HeldTransaction → Type 0
HoldsLines None = ⊤
HoldsLines (Some held) = All IsLine held.logged

-- So it is of each session.
abbrev pub HoldLines : State → Type 0
HoldLines st = All (λ (x : Session). HoldsLines x.batch) st.sessions
