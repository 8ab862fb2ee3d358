-- A run of the server that is cut off is a first part of one that returns.
use Rattle.std.specs.Prelude.{ℕ, List, [], ◌≡◌, All, ⊤}
use Rattle.djq_io.specs.Hub.{Ids}
use Rattle.djq_io.specs.declared.hub.Turn.TheVariants.{Over as HubOver}
use Rattle.djq_io.specs.declared.hub.Sent.TheVariants.{Gone}
use Rattle.djq_io.specs.declared.hub.Told.{Told}
use Rattle.djq_io.specs.declared.hub.Told.TheVariants.{Listening, Turning, Sending, Closing}
use Rattle.djq_log.specs.declared.log.Kept.TheVariants.{All as Stored}
use Rattle.djq_machine.specs.Walk.{Walk}
use Rattle.djq_machine.specs.State.{State}
use Rattle.djq_machine.specs.Call.{state_ids}
use Rattle.djq_serve.specs.declared.served.Served.{Served}
use Rattle.djq_serve.specs.Told.{IdsShow}
use Rattle.djq_serve.specs.Server.{Server, Move, MakesMove, waiting, closing, server, all_told}

-- a call of a hub that is over: a turn says so, and a session to which something is offered is gone
abbrev pub IsOfOver : Told → Type 0
IsOfOver (Turning turn piece) = (turn ≡ HubOver) × (piece ≡ [])
IsOfOver (Sending s offered sent taken) = (sent ≡ Gone) × (taken ≡ [])
IsOfOver (Closing s) = ⊤
IsOfOver (Listening addr answer) = ⊥

-- From here the server returns, if the hub is over and the log stores what it is handed: by these moves it comes to an
-- answer, and no session is open then. A hub with any sessions may answer these calls so.
pub record ReturnsFrom (most : ℕ) (at : Server) : Type 0 where
  pub later : List Move
  pub answer : Served
  pub new : State
  pub walk : Walk (MakesMove most) at later (server new (closing answer))
  pub none_open : state_ids new ≡ []
  pub over : All IsOfOver (all_told later)
  pub stored : All (λ m. m.stored ≡ Stored) later
  pub told : (ids : Ids) → (left : Ids) × Walk IdsShow ids (all_told later) left

-- **Each first part of a run of `serve` is one of a run that returns**, wherever it ends.
abbrev pub PrefixesReturn : Type 0
PrefixesReturn = (most : ℕ) (start : State) (before : List Move) (at : Server)
    → Walk (MakesMove most) (server start waiting) before at → ReturnsFrom most at
