-- How the program ends: what its status means for the run of the join machine that it made.
use Rattle.std.specs.Prelude.{ℕ, List, [], ◌∷◌, ◌≡◌, ◌<◌, ◌⊎◌, Bool, true, false, Option, None}
use Rattle.std.specs.Prelude.{Some, is_some, length, take, drop, codes}
use Rattle.djq_io.specs.Faults.{Counted}
use Rattle.djq_io.specs.Sink.{Gains}
use Rattle.djq_io.specs.Written.{GainsBytes, FailsBehind}
use Rattle.djq_io.specs.Script.{WhereTold}
use Rattle.djq_io.specs.declared.hub.Listened.{Listened}
use Rattle.djq_io.specs.declared.hub.Listened.TheVariants.{Ready, Failed}
use Rattle.djq_io.specs.declared.hub.Told.TheVariants.{Listening}
use Rattle.djq_log.specs.declared.end.LogEnd.{LogEnd}
use Rattle.djq_model.specs.Data.{Bytes}
use Rattle.djq_protocol.specs.Reply.{line}
use Rattle.djq_machine.specs.State.{State, opening}
use Rattle.djq_machine.specs.Run.{Group}
use Rattle.djq_machine.specs.Call.{Counts}
use Rattle.djq_run_laws.specs.Course.{Outside}
use Rattle.djq_run_laws.specs.Given.{Headline}
use Rattle.djq_run.specs.declared.status.Status.{Status}
use Rattle.djq_run.specs.declared.status.Status.TheVariants.{Usage, WriteFault, HubFault, NoMemory}
use Rattle.djq_run.specs.Ends.{RunEnds}
use Rattle.djq_serve.specs.declared.served.Served.{Served}
use Rattle.djq_serve.specs.Told.{Shown}
use Rattle.djq_serve.specs.Server.{all_logged}
use Rattle.djq_serve.specs.Logged.{UnkeptIsSilent}
use Rattle.djq_serve.specs.Ends.{ServeEnds, FaultsCount}
use Rattle.djq_cli.specs.declared.commands.Asked.{Asked}
use Rattle.djq_cli.specs.declared.commands.Asked.TheVariants.{Run, Serve, Replay, Gen, Mirror}
use Rattle.djq_cli.specs.Asks.{Asks, WordsAsk}
use Rattle.djq_program_laws.specs.declared.limits.TheConstants.{ROUND_TURNS}
use Rattle.djq_program_laws.specs.Logged.{DiskSeen, LogSeen, log_seen, served_status, Begins, Logs, IsStored, FoundIn}
use Rattle.djq_program_laws.specs.Logged.{NeverBegins}
use Rattle.djq_program_laws.specs.Gen.{GenEnds}
use Rattle.djq_program_laws.specs.Replay.{ReplayEnds}
use Rattle.djq_program_laws.specs.Mirror.{MirrorsSource}

-- the line that lists the commands
abbrev pub usage_line : Bytes
usage_line =
    line (codes "usage: djq run | serve ADDR [--turns N] [--log PATH] | replay [--log PATH] | gen N SEED | mirror Q")

-- **The theorem of `run`.** There is a run of the join machine from the start to this state. The pieces that it
-- was fed are those that were read, in order, and what was read is run and answered before the next read. What was
-- written and then what is pending is all that it queued, in order; and if a write failed, nothing was done after
-- it. No more was counted than it may cost. At each moment of it each open cursor had given different answers of
-- its query over the rows that were there then, and all of them if it was sent the end. And the status reports
-- exactly how far the run got.
pub record Serves (start : State) (status : Status) (before now : Outside) : Type 0 where
  pub state : State
  pub run : RunEnds status before now start state
  pub headline : Headline start before now state run.course

-- A hub, as the program shows it: what it records, and its count of faults.
pub record HubSeen : Type 0 where
  pub shown : Shown
  pub faults : ℕ

-- A hub that shows this, with this count of faults.
abbrev pub hub_seen : Shown → ℕ → HubSeen
hub_seen shown faults = record { shown = shown; faults = faults }

-- The hub was asked to listen at an address, and answered so.
pub record Listens (addr : Bytes) (answer : Listened) (old new : Shown) : Type 0 where
  pub past : Gains old.past new.past (Listening addr answer ∷ [])
  pub script : WhereTold old.script new.script (λ a b. b ≡ a)
  pub ids : new.ids ≡ old.ids

-- **The theorem of `serve`.** The lines of the log were loaded, and a batch that they left open was ended by a
-- line appended after them; the hub listened at the address, and then the server served it from what they gave on,
-- in rounds of at most so many turns: by moves that are a run of the join machine, which the hub records, with
-- each session sent what is its, lines run by turns and none left for the next round. What the run logs is in the
-- log, one group a commit, before anything of the commit is sent; and each move has the moments of the disk
-- through which it was stored. And the status reports exactly why it ended.
pub record ServesHub (log : Option LogSeen) (status : Status) (addr : Bytes) (turns : ℕ) (hub : HubSeen)
    (counted : Counts) (hub' : HubSeen) (counted' : Counts) : Type 0 where
  pub found : List Bytes
  pub first : List Group
  pub start : State
  pub loaded : Counts
  pub begins : Begins log found first counted start loaded
  pub ready : Shown
  pub listens : Listens addr Ready hub.shown ready
  pub state : State
  pub answer : Served
  pub ends : ServeEnds answer turns ROUND_TURNS ready loaded start hub'.shown counted' state
  pub faults : FaultsCount answer hub.faults hub'.faults
  pub logs : Logs log found first answer (all_logged ends.goes.moves)
  pub stored : IsStored log found first ends.goes.moves
  pub silent : UnkeptIsSilent answer ends.goes.moves
  pub is : status ≡ served_status answer

-- The lines of the log were loaded, and the hub failed to listen.
pub record Unheard (log : Option LogSeen) (status : Status) (addr : Bytes) (hub : HubSeen) (counted : Counts)
    (hub' : HubSeen) (counted' : Counts) : Type 0 where
  pub found : List Bytes
  pub first : List Group
  pub start : State
  pub begins : Begins log found first counted start counted'
  pub end : Option LogEnd
  pub lines : FoundIn log found first end
  pub listens : Listens addr Failed hub.shown hub'.shown
  pub faults : Counted hub.faults hub'.faults
  pub is : status ≡ HubFault

-- How `serve` ends: it served, it wasn't heard, or nothing began.
abbrev pub HubEnds : Option LogSeen → Status → Bytes → ℕ → HubSeen → Counts → HubSeen → Counts → Type 0
HubEnds log status addr turns hub counted hub' counted' =
    ServesHub log status addr turns hub counted hub' counted'
    ⊎ (Unheard log status addr hub counted hub' counted'
    ⊎ (NeverBegins log status counted counted' × (hub' ≡ hub)))

-- nothing was read or counted
pub record OnlyWrites (before now : Outside) : Type 0 where
  pub reading : now.reading ≡ before.reading
  pub read_faults : now.read_faults ≡ before.read_faults
  pub counted : now.counted ≡ before.counted

-- If the words are no command nothing is read or counted, and the usage line is written; or a first part of it is,
-- and then a write fails, which is the last.
abbrev pub WritesUsage : Status → Outside → Outside → Type 0
WritesUsage Usage before now = OnlyWrites before now
    × GainsBytes before.writing now.writing usage_line × (now.write_faults ≡ before.write_faults)
WritesUsage WriteFault before now = OnlyWrites before now × (n : ℕ) × (n < length usage_line)
    × FailsBehind before.writing now.writing (take n usage_line) (drop n usage_line)
    × Counted before.write_faults now.write_faults
WritesUsage _ before now = ⊥

-- neither read nor written
pub record NoTransfer (before now : Outside) : Type 0 where
  pub reading : now.reading ≡ before.reading
  pub read_faults : now.read_faults ≡ before.read_faults
  pub writing : now.writing ≡ before.writing
  pub write_faults : now.write_faults ≡ before.write_faults

-- nothing was read
pub record NoneRead (before now : Outside) : Type 0 where
  pub reading : now.reading ≡ before.reading
  pub read_faults : now.read_faults ≡ before.read_faults

-- Whether a command is `serve`.
abbrev pub is_serve : Asked → Bool
is_serve (Serve addr turns log) = true
is_serve _ = false

-- The words ask for `serve`.
abbrev pub AsksToServe : List Bytes → Type 0
AsksToServe words = (asked : Asked) × (is_serve asked ≡ true) × Asks words asked

-- Whether a command has a log.
abbrev pub has_log : Asked → Bool
has_log (Serve addr turns log) = is_some log
has_log (Replay log) = is_some log
has_log _ = false

-- The words ask for a command with a log.
abbrev pub AsksForLog : List Bytes → Type 0
AsksForLog words = (asked : Asked) × (has_log asked ≡ true) × Asks words asked

-- How the program ends, by what its words ask for. What it starts from is the state in which nothing
-- has happened, or what lines found in a log give.
abbrev pub EndsAs : Option Asked → Status → Outside → HubSeen → DiskSeen → Outside → HubSeen → DiskSeen → Type 0
EndsAs None status before hub disk now hub' disk' = WritesUsage status before now × (hub' ≡ hub)
EndsAs (Some Run) status before hub disk now hub' disk' =
    Serves opening status before now × (hub' ≡ hub)
EndsAs (Some (Serve addr turns log)) status before hub disk now hub' disk' =
    HubEnds (log_seen log disk disk') status addr.now turns hub before.counted hub' now.counted × NoTransfer before now
EndsAs (Some (Replay log)) status before hub disk now hub' disk' =
    ReplayEnds (log_seen log disk disk') status before now × (hub' ≡ hub)
EndsAs (Some (Gen n seed)) status before hub disk now hub' disk' =
    GenEnds opening status n seed before.writing before.write_faults before.counted now.writing
    now.write_faults now.counted × NoneRead before now × (hub' ≡ hub)
EndsAs (Some (Mirror query)) status before hub disk now hub' disk' =
    MirrorsSource query.now status before now × (hub' ≡ hub)

-- How the program ends, by the words of its command line: as what they ask for, and as no command
-- if they ask for nothing; or out of memory before they were read.
abbrev pub ProgramEnds : Status → List Bytes → Outside → HubSeen → DiskSeen → Outside → HubSeen → DiskSeen → Type 0
ProgramEnds status words before hub disk now hub' disk' =
    ((asked : Option Asked) × WordsAsk words asked × EndsAs asked status before hub disk now hub' disk')
    ⊎ ((status ≡ NoMemory) × (now ≡ before) × (hub' ≡ hub) × (disk' ≡ disk))
