-- What a crash leaves of a log, opened and loaded at the next start.
use Rattle.std.specs.Prelude.{ℕ, List, [], ◌++◌, ◌≡◌, ◌≤◌, ◌-◌, Some, IfSome, length}
use Rattle.djq_disk.specs.Leaving.{LeavesOnly}
use Rattle.djq_log.specs.Lines.{LogOpensToLines}
use Rattle.djq_model.specs.Data.{Bytes}
use Rattle.djq_machine.specs.State.{State, opening}
use Rattle.djq_machine.specs.Run.{Group, groups_of, lines_in}
use Rattle.djq_machine.specs.Call.{Counts}
use Rattle.djq_log_laws.specs.Kept.{LoadsTo, StoodAt}
use Rattle.djq_serve.specs.declared.served.Served.{Served}
use Rattle.djq_serve.specs.declared.served.Served.TheVariants.{DiskFault, LogFull}
use Rattle.djq_serve.specs.Told.{Shown}
use Rattle.djq_serve.specs.Server.{Move, all_done, all_logged}
use Rattle.djq_serve.specs.Ends.{ServeEnds}
use Rattle.djq_program_laws.specs.Logged.{LogSeen, Begins, Logs}

-- How many of the groups that the log was handed, one a commit, were answered: all, or all but the last, if the
-- log failed there.
abbrev pub answered : Served → List Group → ℕ
answered DiskFault groups = length groups - 1
answered LogFull groups = length groups - 1
answered _ groups = length groups

-- A file opens to the lines that a run started from and to those of the first commits, so many at least. They are
-- the lines of the first groups that the machine's steps logged, and of all groups if they are of all commits.
-- These lines, loaded, are refused nowhere and give what the run had when it had logged just these groups.
pub record Reopens (found : List Bytes) (start : State) (moves : List Move) (state : State) (least : ℕ) (file : List ℕ)
    : Type 0 where
  pub commits : List Group
  pub others : List Group
  pub logged : all_logged moves ≡ commits ++ others
  pub some : least ≤ length commits
  pub whole : List Group
  pub later : List Group
  pub cut : groups_of (all_done moves) ≡ whole ++ later
  pub of_commits : lines_in whole ≡ lines_in commits
  pub all : others ≡ [] → later ≡ []
  pub opens : LogOpensToLines (found ++ lines_in whole) file
  pub at : StoodAt start (all_done moves) state whole
  pub loads : LoadsTo opening.store (found ++ lines_in whole) at.mid.store

-- However serving with a log ends, and a crash after it leaves the file: it opens to lines that give what was there
-- after the first of the groups of lines that the run logged, among them each that was answered. The run started
-- from the lines found and what was appended first.
abbrev pub LogsReopen : Type 0
LogsReopen = (log : LogSeen) (found : List Bytes) (first : List Group) (counted : Counts) (start : State)
    (loaded : Counts)
    → Begins (Some log) found first counted start loaded
    → (answer : Served) (turns most : ℕ) (hub hub' : Shown) (counted' : Counts) (state : State)
    → (ends : ServeEnds answer turns most hub loaded start hub' counted' state)
    → Logs (Some log) found first answer (all_logged ends.goes.moves)
    → IfSome log.now.told (λ h. LeavesOnly
    (Reopens (found ++ lines_in first) start ends.goes.moves state
    (answered answer (all_logged ends.goes.moves))) h.file)
