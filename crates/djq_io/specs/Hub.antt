use Rattle.std.specs.Prelude.{◌≡◌, ℕ, ◌<◌, ◌≤◌, ◌==◌, ◌⊎◌, ◌↔◌, not, List, [], ◌∷◌, ◌++◌, length}
use Rattle.std.specs.Prelude.{take, filter, Contains, Option, Some, None, IfSome}
use Rattle.djq_io.specs.declared.hub.Turn.{Turn}
use Rattle.djq_io.specs.declared.hub.Turn.TheVariants.{Opened, Bytes, Ended, Idle, Over, Failed}
use Rattle.djq_io.specs.declared.hub.Sent.{Sent}
use Rattle.djq_io.specs.declared.hub.Sent.TheVariants.{Took, Again, Gone}

-- The ids of a hub's sessions: the newest that was opened, those that are open in the order in
-- which they were opened, and those of them whose input has ended, in any order.
pub record Ids : Type 0 where
  pub newest : Option ℕ
  pub open_ids : List ℕ
  pub ended_ids : List ℕ

-- the ids of a hub that has opened no session yet
abbrev pub no_ids : Ids
no_ids = record { newest = None; open_ids = []; ended_ids = [] }

-- an id above that of every session before
abbrev pub IsNewId : Ids → ℕ → Type 0
IsNewId ids id = IfSome ids.newest (λ newest. newest < id)

-- an open session whose input hasn't ended
abbrev pub IsRunning : Ids → ℕ → Type 0
IsRunning ids id = Contains ids.open_ids id × (Contains ids.ended_ids id → ⊥)

-- the ids after this one was opened
abbrev pub with_opened : Ids → ℕ → Ids
with_opened ids id = record { newest = Some id; open_ids = ids.open_ids ++ id ∷ []; ended_ids = ids.ended_ids }

-- the input of this session has ended, and else nothing changed
abbrev pub EndsInput : ℕ → Ids → Ids → Type 0
EndsInput id old new = (new.newest ≡ old.newest) × (new.open_ids ≡ old.open_ids)
    × ((other : ℕ) → Contains new.ended_ids other ↔ ((other ≡ id) ⊎ Contains old.ended_ids other))

-- the ids after this one was closed
abbrev pub without : Ids → ℕ → Ids
without ids id = record ids {
  open_ids = filter (λ other. not (other == id)) ids.open_ids;
  ended_ids = filter (λ other. not (other == id)) ids.ended_ids;
}

-- What a turn may answer, and what it does to the ids: sessions open with rising ids; bytes, some
-- and at most as many as there is room for, and the end of input arrive for running sessions alone.
abbrev pub Turns : Turn → ℕ → Ids → Ids → Type 0
Turns (Opened id class) room old new = IsNewId old id × (new ≡ with_opened old id)
Turns (Bytes id n) room old new = (1 ≤ n) × (n ≤ room) × IsRunning old id × (new ≡ old)
Turns (Ended id) room old new = IsRunning old id × EndsInput id old new
Turns Idle room old new = new ≡ old
Turns Over room old new = new ≡ old
Turns Failed room old new = new ≡ old

-- a turn brings at most so many bytes
abbrev pub FitsTurn : Turn → ℕ → Type 0
FitsTurn (Bytes id n) room = n ≤ room
FitsTurn (Opened id class) room = Unit {0}
FitsTurn (Ended id) room = Unit {0}
FitsTurn Idle room = Unit {0}
FitsTurn Over room = Unit {0}
FitsTurn Failed room = Unit {0}

-- the bytes that a turn brought into a buffer
abbrev pub brought : Turn → List ℕ → List ℕ
brought (Bytes id n) buf = take n buf
brought (Opened id class) buf = []
brought (Ended id) buf = []
brought Idle buf = []
brought Over buf = []
brought Failed buf = []

-- A send accepts a first part of the piece, which isn't empty, or nothing.
abbrev pub Takes : Sent → List ℕ → Type 0
Takes (Took n) piece = (1 ≤ n) × (n ≤ length piece)
Takes Again piece = Unit {0}
Takes Gone piece = Unit {0}

-- the bytes of a piece that a send accepted
abbrev pub taken_by : Sent → List ℕ → List ℕ
taken_by (Took n) piece = take n piece
taken_by Again piece = []
taken_by Gone piece = []
