-- The place in which lines are stored: a log, or none.
use Rattle.std.specs.Prelude.{◌≡◌, ℕ, ◌<◌, List, [], ◌∷◌, ◌++◌, Option, None, Some}
use Rattle.djq_io.specs.Faults.{Counted}
use Rattle.djq_disk.specs.History.{History}
use Rattle.djq_journal.specs.Appending.{gate_after}
use Rattle.djq_journal.specs.declared.limits.TheConstants.{LAST_GATE}
use Rattle.djq_log_file.specs.Appending.{end_behind}
use Rattle.djq_log_file.specs.declared.limits.TheConstants.{LAST_LOG_GATE}
use Rattle.djq_log.specs.Keeping.{IsKeeping, WasKeeping}
use Rattle.djq_log.specs.declared.end.LogEnd.{LogEnd}
use Rattle.djq_log.specs.declared.end.LogEnd.TheVariants.{First, Second}
use Rattle.djq_log.specs.declared.log.Kept.{Kept}
use Rattle.djq_log.specs.declared.log.Kept.TheVariants.{All, Failed, Full}

-- the group that these lines are: none if there is none
abbrev pub grouped : List (List ℕ) → List (List (List ℕ))
grouped [] = []
grouped (line ∷ lines) = (line ∷ lines) ∷ []

-- Since this history all these groups are logged; or no disk was asked, if lines are logged nowhere.
abbrev pub HasKeptGroups : Option LogEnd → List (List ℕ) → List (List (List ℕ)) → History → History → Type 0
HasKeptGroups None found groups old new = new ≡ old
HasKeptGroups (Some end) found groups old new = IsKeeping found groups end old new

-- Since this history all these groups were logged, and then one more may be.
abbrev pub MayHaveKept : Option LogEnd → List (List ℕ) → List (List (List ℕ)) → List (List ℕ) → History → History
    → Type 0
MayHaveKept None found groups last old new = ⊥
MayHaveKept (Some end) found groups last old new = WasKeeping found groups last old new

-- What logging these lines does, whatever was logged before, and since whenever: they are logged as
-- a group; or there are some, of which a crash leaves all or none; or nothing changes, since there
-- is no room.
abbrev pub Keeps : Kept → Option LogEnd → Option LogEnd → List (List ℕ) → History → History → Type 0
Keeps All end end' lines old new = (found : List (List ℕ)) (groups : List (List (List ℕ))) (start : History)
    → HasKeptGroups end found groups start old → HasKeptGroups end' found (groups ++ grouped lines) start new
Keeps Failed end end' lines old new = (found : List (List ℕ)) (groups : List (List (List ℕ))) (start : History)
    → HasKeptGroups end found groups start old → MayHaveKept end found groups lines start new
Keeps Full end end' lines old new = (found : List (List ℕ)) (groups : List (List (List ℕ))) (start : History)
    → HasKeptGroups end found groups start old → HasKeptGroups end found groups start new

-- the gate after this group would be past the last place
abbrev pub Exceeds : LogEnd → List (List ℕ) → Type 0
Exceeds (First gate) group = LAST_GATE < gate_after gate group
Exceeds (Second place) group = LAST_LOG_GATE < (end_behind place group).at

-- the log's gate after these lines would be past the last place
abbrev pub Overfull : Option LogEnd → List (List ℕ) → Type 0
Overfull None lines = ⊥
Overfull (Some end) [] = ⊥
Overfull (Some end) (line ∷ lines) = Exceeds end (line ∷ lines)

-- Lines are refused as too many if and only if that holds, and fail only if there are some.
abbrev pub FillsLog : Kept → Option LogEnd → List (List ℕ) → Type 0
FillsLog All end lines = Overfull end lines → ⊥
FillsLog Failed end lines = (Overfull end lines → ⊥) × (lines ≡ [] → ⊥)
FillsLog Full end lines = Overfull end lines

-- If there is no room nothing of the file changes, whatever the log has.
abbrev pub FullChangesNothing : Option LogEnd → History → History → Type 0
FullChangesNothing end old new = (found : List (List ℕ)) (groups : List (List (List ℕ))) (start : History)
    → HasKeptGroups end found groups start old → new ≡ old

-- The disk's count of faults rises if lines fail to be logged, and else stays.
abbrev pub CountsKept : Kept → ℕ → ℕ → Type 0
CountsKept All old new = new ≡ old
CountsKept Failed old new = Counted old new
CountsKept Full old new = new ≡ old
