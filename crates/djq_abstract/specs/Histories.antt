-- Runs of the core.
use Rattle.std.specs.Prelude.{ℕ, List, [], ◌∷◌, ◌++◌, ◌≡◌, true, if◌then◌else◌}
use Rattle.djq_model.specs.Data.{Bytes, Tuple, bytes_eq}
use Rattle.djq_abstract.specs.Deltas.{delta_applied}
use Rattle.djq_abstract.specs.Clients.{Core, nobody, HaveOwnNames, CoreMessage, delta, CoreEvent, Sent}
use Rattle.djq_abstract.specs.Moves.{CoreStep}

-- A step of a run: what happened, what was sent, and the state after it.
pub record Happening : Type 0 where
  pub event : CoreEvent
  pub sent : Sent
  pub after : Core

-- The state after these.
abbrev pub state_after : Core → List Happening → Core
state_after old [] = old
state_after old (h ∷ hs) = state_after h.after hs

-- Each is a step from the state after the one before it.
abbrev pub CoreRun : Core → List Happening → Type 0
CoreRun old [] = Unit {0}
CoreRun old (h ∷ hs) = CoreStep old h.event h.sent h.after × CoreRun h.after hs

-- A state in which nobody is connected.
pub record HasNobody (st : Core) : Type 0 where
  pub clients : (s : ℕ) → st.client s ≡ nobody
  pub names : HaveOwnNames st.queries

-- A state after a run from such a state.
pub record IsReached (st : Core) : Type 0 where
  pub start : Core
  pub nobody_there : HasNobody start
  pub run : List Happening
  pub is_run : CoreRun start run
  pub is_after : state_after start run ≡ st

-- A client subscribes to a query in each state of a run.
abbrev pub IsSubscribedAlong : ℕ → Bytes → Core → List Happening → Type 0
IsSubscribedAlong s q old [] = (old.client s).subscribed q ≡ true
IsSubscribedAlong s q old (h ∷ hs) = ((old.client s).subscribed q ≡ true) × IsSubscribedAlong s q h.after hs

-- Answers with the deltas of a query among messages applied to them, one after the other.
abbrev pub deltas_applied : Bytes → List Tuple → List CoreMessage → List Tuple
deltas_applied q ts [] = ts
deltas_applied q ts (delta name d n ∷ ms) = deltas_applied q (if bytes_eq name q then delta_applied d ts else ts) ms
deltas_applied q ts (m ∷ ms) = deltas_applied q ts ms

-- All that a run sends a client, in order.
abbrev pub all_sent : ℕ → List Happening → List CoreMessage
all_sent s [] = []
all_sent s (h ∷ hs) = h.sent s ++ all_sent s hs
