use Rattle.std.specs.Prelude.{ℕ, ◌≡◌, ◌≤◌, Bool, List}
use Rattle.djq_io.specs.Hub.{Ids}
use Rattle.djq_io.specs.Sessions.{Count}
use Rattle.djq_io.specs.declared.hub.Told.{Told}
use Rattle.djq_io.specs.declared.hub.Turn.{Turn}
use Rattle.djq_io.specs.declared.hub.Turn.TheVariants.{Idle}

-- What a hub over TCP shows: its calls so far with their answers, whether it listens, the ids of its sessions, how many
-- faults it has met itself, how many connections couldn't be accepted, and how many faults each session has.
pub record ShownByTcp : Type 0 where
  pub past : List Told
  pub listens : Bool
  pub ids : Ids
  pub faults : ℕ
  pub turned_away : ℕ
  pub counts : List Count

-- Connections are turned away only in a turn that has nothing.
abbrev pub TurnsAway : Turn → ℕ → ℕ → Type 0
TurnsAway Idle before now = before ≤ now
TurnsAway _ before now = now ≡ before
