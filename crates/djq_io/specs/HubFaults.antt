use Rattle.std.specs.Prelude.{◌≡◌, ◌≢◌, ℕ, ◌≤◌, List, Contains}
use Rattle.djq_io.specs.Faults.{Counted}
use Rattle.djq_io.specs.declared.hub.Listened.{Listened}
use Rattle.djq_io.specs.declared.hub.Listened.TheVariants.{Ready, Failed as Unheard}
use Rattle.djq_io.specs.declared.hub.Turn.{Turn}
use Rattle.djq_io.specs.declared.hub.Turn.TheVariants.{Opened, Bytes, Ended, Idle, Over, Failed}
use Rattle.djq_io.specs.declared.hub.Sent.{Sent}
use Rattle.djq_io.specs.declared.hub.Sent.TheVariants.{Took, Again, Gone}

-- A hub's own count of faults rises if it fails to listen, and else stays.
abbrev pub CountsListen : Listened → ℕ → ℕ → Type 0
CountsListen Ready old new = new ≡ old
CountsListen Unheard old new = Counted old new

-- A hub's own count of faults rises at a failed turn, and stays at every other.
abbrev pub CountsTurn : Turn → ℕ → ℕ → Type 0
CountsTurn (Opened id class) old new = new ≡ old
CountsTurn (Bytes id n) old new = new ≡ old
CountsTurn (Ended id) old new = new ≡ old
CountsTurn Idle old new = new ≡ old
CountsTurn Over old new = new ≡ old
CountsTurn Failed old new = Counted old new

-- the counts of these sessions' faults stay
abbrev pub SameCounts : List ℕ → (ℕ → ℕ) → (ℕ → ℕ) → Type 0
SameCounts ids old new = (id : ℕ) → Contains ids id → new id ≡ old id

-- the counts of these sessions' faults stay, but that of one of them
abbrev pub SameCountsBut : ℕ → List ℕ → (ℕ → ℕ) → (ℕ → ℕ) → Type 0
SameCountsBut s ids old new = (id : ℕ) → Contains ids id → id ≢ s → new id ≡ old id

-- The sessions' counts of faults stay in a turn, but that the input of one may end by a fault.
abbrev pub CountsInTurn : Turn → List ℕ → (ℕ → ℕ) → (ℕ → ℕ) → Type 0
CountsInTurn (Opened id class) ids old new = SameCounts ids old new
CountsInTurn (Bytes id n) ids old new = SameCounts ids old new
CountsInTurn (Ended id) ids old new = SameCountsBut id ids old new × (old id ≤ new id)
CountsInTurn Idle ids old new = SameCounts ids old new
CountsInTurn Over ids old new = SameCounts ids old new
CountsInTurn Failed ids old new = SameCounts ids old new

-- The count of a session's faults rises if it is found closed. All others stay in a send.
abbrev pub CountsSend : Sent → ℕ → List ℕ → (ℕ → ℕ) → (ℕ → ℕ) → Type 0
CountsSend (Took n) id ids old new = SameCounts ids old new
CountsSend Again id ids old new = SameCounts ids old new
CountsSend Gone id ids old new = SameCountsBut id ids old new × Counted (old id) (new id)
