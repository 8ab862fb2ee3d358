-- What a hub records of its calls, and what is sent, turned and failed among them.
use Rattle.std.specs.Prelude.{ℕ, List, ◌≡◌, Bool, true, false, Option, sum_by, length}
use Rattle.std.specs.List.{list_any}
use Rattle.djq_io.specs.Sink.{Gains}
use Rattle.djq_io.specs.Hub.{Ids, Turns, brought, without}
use Rattle.djq_io.specs.Script.{Script, WhereTold, AnswersByScript, Sends}
use Rattle.djq_io.specs.declared.hub.Turn.{Turn}
use Rattle.djq_io.specs.declared.hub.Turn.TheVariants.{Over as HubOver, Failed}
use Rattle.djq_io.specs.declared.hub.Told.{Told}
use Rattle.djq_io.specs.declared.hub.Told.TheVariants.{Listening, Turning, Sending, Closing}
use Rattle.djq_model.specs.Data.{Bytes}
use Rattle.djq_machine.specs.Run.{Walk}
use Rattle.djq_io.specs.declared.limits.TheConstants.{READ_BYTES}

-- What a hub shows: its past and its script, if it shows them, and its ids.
pub record Shown : Type 0 where
  pub past : Option (List Told)
  pub script : Option Script
  pub ids : Ids

-- a hub that shows this past, this script and these ids
abbrev pub hub_shown : Option (List Told) → Option Script → Ids → Shown
hub_shown past script ids = record { past = past; script = script; ids = ids }

-- The place of a hub that follows a script: what is left of that, and its sessions.
pub record Place : Type 0 where
  pub script : Script
  pub ids : Ids

-- the place of a hub with this left and these sessions
abbrev pub hub_place : Script → Ids → Place
hub_place script ids = record { script = script; ids = ids }

-- One call is answered by the script, with a buffer of as many bytes as are read at a time.
-- Nobody asks the hub to listen.
abbrev pub IsAnswered : Place → Told → Place → Type 0
IsAnswered old (Turning turn piece) new = (buf : Bytes) × (length buf ≡ READ_BYTES)
    × (piece ≡ brought turn buf) × AnswersByScript old.ids turn buf old.script new.script
    × Turns turn READ_BYTES old.ids new.ids
IsAnswered old (Sending s offered sent taken) new = Sends s offered sent old.script new.script
    × (new.ids ≡ old.ids)
IsAnswered old (Closing s) new = (new.script ≡ old.script) × (new.ids ≡ without old.ids s)
IsAnswered old (Listening addr answer) new = ⊥

-- What a call does to the ids, which every hub shows: a turn opens a session with an id above that
-- of every one before, and brings bytes or the end of input of one that runs; a close removes one.
abbrev pub IdsShow : Ids → Told → Ids → Type 0
IdsShow old (Turning turn piece) new = Turns turn READ_BYTES old new
IdsShow old (Sending s offered sent taken) new = new ≡ old
IdsShow old (Closing s) new = new ≡ without old s
IdsShow old (Listening addr answer) new = ⊥

-- From one moment to a later one a hub was asked these calls, in order. If it shows its past, they
-- are what that gained; each did to its ids what it describes; and if the hub shows its script, each
-- was answered by that.
pub record HubTells (old new : Shown) (told : List Told) : Type 0 where
  pub past : Gains old.past new.past told
  pub ids : Walk IdsShow old.ids told new.ids
  pub played : WhereTold old.script new.script
      (λ a b. Walk IsAnswered (hub_place a old.ids) told (hub_place b new.ids))

-- a test of the turns among calls
abbrev pub by_turn : (Turn → Bool) → Told → Bool
by_turn p (Turning turn piece) = p turn
by_turn p _ = false

-- whether a turn reports that nothing more will arrive
abbrev pub turn_is_over : Turn → Bool
turn_is_over HubOver = true
turn_is_over _ = false

-- whether a turn reports that it failed
abbrev pub turn_is_failed : Turn → Bool
turn_is_failed Failed = true
turn_is_failed _ = false

-- whether a turn answered that nothing more will arrive
abbrev pub has_over : List Told → Bool
has_over told = list_any (by_turn turn_is_over) told

-- whether a turn failed
abbrev pub turn_failed : List Told → Bool
turn_failed told = list_any (by_turn turn_is_failed) told

-- 1 if a call is a turn, else 0
abbrev pub turn_in : Told → ℕ
turn_in (Turning turn piece) = 1
turn_in _ = 0

-- how many turns were read
abbrev pub turns_in : List Told → ℕ
turns_in told = sum_by turn_in told
