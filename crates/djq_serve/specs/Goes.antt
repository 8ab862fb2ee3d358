-- How the server moves from one place to another.
use Rattle.std.specs.Prelude.{ℕ, List, [], ◌∷◌, ◌≡◌, ◌+◌, ◌-◌, Option}
use Rattle.djq_disk.specs.File.{File}
use Rattle.djq_disk.specs.History.{History, WhereHistoryTold}
use Rattle.djq_log.specs.Logging.{Keeps, FillsLog}
use Rattle.djq_journal.specs.Passing.{PassesMoments}
use Rattle.djq_log.specs.declared.end.LogEnd.{LogEnd}
use Rattle.djq_log.specs.declared.log.Kept.{Kept}
use Rattle.djq_machine.specs.Run.{Walk, Group}
use Rattle.djq_machine.specs.Call.{Counts}
use Rattle.djq_serve.specs.Told.{Shown, HubTells, turns_in}
use Rattle.djq_serve.specs.Server.{Server, Move, MakesMove, all_told}

-- All that is seen of the server beside its machine and its log: what the hub shows, what was counted, and
-- how many turns were read.
pub record Seen : Type 0 where
  pub hub : Shown
  pub counted : Counts
  pub turns : ℕ

-- what is seen if the hub shows this, this was counted, and so many turns were read
abbrev pub seen : Shown → Counts → ℕ → Seen
seen hub counted turns = record { hub = hub; counted = counted; turns = turns }

-- The count of lookups and links of listings rose in a move by what the move records.
abbrev pub ListsMove : ℕ → Move → ℕ → Type 0
ListsMove before m now = m.listed ≡ now - before

-- What the server did from one place to another, by moves whose rounds have at most so many turns; what the
-- hub records of it; and what was counted in each of them.
pub record Goes (most : ℕ) (o : Seen) (old : Server) (o' : Seen) (new : Server) : Type 0 where
  pub moves : List Move
  pub walk : Walk (MakesMove most) old moves new
  pub told : HubTells o.hub o'.hub (all_told moves)
  pub listing : Walk ListsMove o.counted.listing moves o'.counted.listing
  pub turned : o'.turns ≡ o.turns + turns_in (all_told moves)

-- A log at one moment: its end, if it is in a file, and the history of the disk, if that is recorded.
pub record LogPlace : Type 0 where
  pub end : Option LogEnd
  pub history : Option History

-- the log that ends here, on a disk of this history
abbrev pub log_place : Option LogEnd → Option History → LogPlace
log_place end history = record { end = end; history = history }

-- What handing groups to the log does: nothing, if there is none; and one is stored, as the log answers,
-- while these moments end.
abbrev pub LogsGroups : List Group → Kept → List File → LogPlace → LogPlace → Type 0
LogsGroups [] answer moments old new = (new ≡ old) × (moments ≡ [])
LogsGroups (group ∷ []) answer moments old new = FillsLog answer old.end group
    × WhereHistoryTold old.history new.history
    (λ h h'. Keeps answer old.end new.end group h h' × PassesMoments moments h h')
LogsGroups (group ∷ other ∷ more) answer moments old new = ⊥

-- what a move does to the log
abbrev pub LogsMove : LogPlace → Move → LogPlace → Type 0
LogsMove old m new = LogsGroups m.logged m.stored m.moments old new

-- The server moved from one place to another, and each move did to the log what it describes.
pub record GoesLogging (most : ℕ) (o : Seen) (old : Server) (log : LogPlace) (o' : Seen) (new : Server)
    (log' : LogPlace) : Type 0 where
  pub goes : Goes most o old o' new
  pub logs : Walk LogsMove log goes.moves log'

-- so it moves, whatever was counted before, and nothing is counted, read or logged
abbrev pub GoesQuietly : ℕ → Shown → Server → Shown → Server → Type 0
GoesQuietly most hub old hub' new = (counted : Counts) (turns : ℕ) (log : LogPlace)
    → GoesLogging most (seen hub counted turns) old log (seen hub' counted turns) new log
