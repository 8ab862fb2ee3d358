-- How a log is loaded and appended to, and what a crash leaves of it.
use Rattle.std.specs.Prelude.{ℕ, List, [], ◌∷◌, ◌++◌, ◌≡◌, ◌⊎◌, Option, None, Some, length, ◌<◌, IsSome}
use Rattle.std.specs.Prelude.{codes, ◌≤◌, ◌+◌, ◌-◌}
use Rattle.std.proofs.Common.{sym, ap, ◌∙◌, subst, inl, inr, refl, arith, append-nil, ap₂, append_assoc, length-append}
use Rattle.std.specs.Borrow.{Bor}
use Rattle.std.specs.List.{flat_map}
use Rattle.std.specs.Prelude.{All}
use Rattle.std.proofs.lemmas.Grind.{flat_map-append}
use Rattle.std.proofs.lemmas.List.{nil_from_length}
use Rattle.std.proofs.lemmas.List.Elements.{All-nil, All-cons, All-append, All-head, All-tail}
use Rattle.djq_io.specs.Faults.{Counted}
use Rattle.djq_model.specs.Data.{Bytes}
use Rattle.djq_disk.specs.File.{File, settled}
use Rattle.djq_disk.specs.History.{History, WhereHistoryTold, OpensPath}
use Rattle.djq_disk.specs.Leaving.{LeavesOnly}
use Rattle.djq_disk.proofs.Files.{told_both, told_so, told_none}
use Rattle.djq_log.specs.Lines.{LogOpensToLines, IsIdleAt, whole_lines}
use Rattle.djq_log.specs.Reading.{OpensLogLines}
use Rattle.djq_log.specs.Keeping.{OpensWithin, IsKeeping, WasKeeping}
use Rattle.djq_log.specs.Logging.{HasKeptGroups, Keeps, FullChangesNothing, Overfull, grouped}
use Rattle.djq_log.specs.declared.end.LogEnd.{LogEnd}
use Rattle.djq_log.specs.declared.log.Kept.TheVariants.{All as Stored, Failed as Unstored}
use Rattle.djq_log.specs.declared.source.LogSource.{LogSource}
use Rattle.djq_log.specs.declared.opening.LogFound.TheVariants.{Made, Ready, Unknown, Failed as Unopened}
use Rattle.djq_log.proofs.Keeps.{keeps_on}
use Rattle.djq_store_spec.specs.Held.{HeldTransaction}
use Rattle.djq_store_spec.specs.Store.{Store}
use Rattle.djq_machine.specs.declared.machine.Loaded.{Loaded}
use Rattle.djq_machine.specs.declared.machine.Loaded.TheVariants.{Ran}
use Rattle.djq_machine.specs.Keeping.{Keeping, no_line, the_line, the_batch}
use Rattle.djq_machine.specs.LineStep.{long, blank, slow, no_room, run}
use Rattle.djq_machine.specs.Step.{Event, opened, fed, stepped, took, ended, closed}
use Rattle.djq_machine.specs.Run.{Walk, lines_in, Group, Did, Run, groups_of, groups_in, kept_group}
use Rattle.djq_machine.specs.Loading.{Loading, LoadStep, Loads, loading}
use Rattle.djq_machine.specs.State.{State, opening}
use Rattle.djq_machine.specs.Call.{Counts}
use Rattle.djq_run_laws.specs.Sound.{IsSoundState}
use Rattle.djq_run_laws.proofs.Courses.{walk_then}
use Rattle.djq_run_laws.proofs.SoundStates.{start_sound}
use Rattle.djq_log_laws.proofs.Reloads.{abandon_runs, stops_reload}
use Rattle.djq_run.specs.declared.status.Status.TheVariants.{DiskFault as StatusDiskFault, LogFull as StatusLogFull}
use Rattle.djq_run.specs.declared.status.Status.TheVariants.{Done as StatusDone, Usage, ReadFault, WriteFault}
use Rattle.djq_run.specs.declared.status.Status.TheVariants.{HubFault as HubFailed, TurnsUsed as AllTaken, NoMemory}
use Rattle.djq_run.specs.declared.status.Status.TheVariants.{Schedule, SessionEnded, DiskFault as DiskFailed}
use Rattle.djq_run.specs.declared.status.Status.TheVariants.{LogFull as Filled, BadLog, Mirror}
use Rattle.djq_run.specs.declared.status.Status.{Status}
use Rattle.djq_serve.specs.declared.served.Served.{Served}
use Rattle.djq_serve.specs.declared.served.Served.TheVariants.{Stopped, Over, TurnsUsed, HubFault, DiskFault, LogFull}
use Rattle.djq_serve.specs.Logged.{AllKept, LastLost, LastLeft, KeepsBy, DiskCounts, IsNotOfDisk}
use Rattle.djq_serve.specs.Server.{Move, all_done, all_logged}
use Rattle.djq_serve.specs.Ends.{IsCommitted}
use Rattle.djq_serve.proofs.Commits.{commits_first}
use Rattle.djq_program_laws.specs.Logged.{LogIsMade, IsOlder, FindsLines, LeavesUnloaded, DiskSeen, abandoning}
use Rattle.djq_program_laws.specs.Logged.{first_kept, log_seen_at, log_seen, SinceOpened, KeptAs, Logs}
use Rattle.djq_serve.specs.Goes.{log_place, LogsMove}
use Rattle.djq_program_laws.specs.Logged.{IsStored}
use Rattle.djq_program_laws.specs.Logged.{FoundIn, Begins, IsOnlyRead, UnloadedFor, Unloaded, NeverBegins}
use Rattle.djq_program_laws.specs.Parts.{FindsAll, ReadsOlder, EndsBatch, CantEnd}
use Rattle.djq_program_laws.specs.Parts.{LoadsLines, StopsLoading, ReadsLog}
use Rattle.djq_program_laws.specs.Reopened.{answered, Reopens, LogsReopen}
use Rattle.djq_program_laws.proofs.ProgramRuns.{starts}
use Rattle.djq_program_laws.proofs.Openings.{told_end, made_finds, ready_read, older_finds, opened_leaves}
use Rattle.djq_program_laws.proofs.Openings.{unasked_leaves, unopened_leaves, unknown_leaves, unknown_from}

-- ---- How a batch that lines left open is ended, or isn't.

-- A batch was left open: it is ended by the line that was loaded and appended.
pub batch_ended : (ends : LogEnd) (log : Option LogEnd) (old new : Loading) (how : Loaded) (before now : DiskSeen)
    → IsSome old.batch → LoadStep old (codes "abandon") how new → IsSome log → now.faults ≡ before.faults
    → WhereHistoryTold before.told now.told (Keeps Stored (Some ends) log abandoning)
    → EndsBatch ends log old new before now
batch_ended ends None old new how before now is_open step some faults appended = absurd cc
batch_ended ends (Some after) old new how before now is_open step some faults appended = by old.batch refl is_open
  where
    ran : (how ≡ Ran) × (new.batch ≡ None)
    ran = abandon_runs old how new step is_open

    by : (o : Option HeldTransaction) → old.batch ≡ o → IsSome o → EndsBatch ends (Some after) old new before now
    by None e some = absurd cc
    by (Some held) e some = record {
      loads = subst (λ (b : Option HeldTransaction). Loads old (lines_in (first_kept b)) new) (sym e)
          (new, subst (λ (h : Loaded). LoadStep old (codes "abandon") h new) ran.0 step, refl);
      closed = ran.1;
      after = after;
      at = refl;
      kept = λ found. subst
          (λ (b : Option HeldTransaction). WhereHistoryTold before.told now.told (λ o n. (start : History)
          → IsKeeping found [] ends start o → IsKeeping found (first_kept b) after start n)) (sym e)
          (told_so before.told now.told (Keeps Stored (Some ends) (Some after) abandoning)
          (λ o n. (start : History) → IsKeeping found [] ends start o
          → IsKeeping found (abandoning ∷ []) after start n)
          (λ o n p start keeping. p found [] start keeping) appended);
      faults = faults;
    }

-- The disk failed as it was to be appended.
pub fails_to_end : (ends : LogEnd) (log : Option LogEnd) (old : Loading) (before now : DiskSeen) → IsSome old.batch
    → Counted before.faults now.faults
    → WhereHistoryTold before.told now.told (Keeps Unstored (Some ends) log abandoning)
    → CantEnd StatusDiskFault ends old before now
fails_to_end ends log old before now is_open counted appended = (
  is_open,
  counted,
  λ found. told_so before.told now.told (Keeps Unstored (Some ends) log abandoning)
      (λ o n. (start : History) → IsKeeping found [] ends start o → WasKeeping found [] abandoning start n)
      (λ o n p start keeping. p found [] start keeping) appended,
)

-- There was no room for it.
pub has_no_room : (ends : LogEnd) (old : Loading) (before now : DiskSeen) → IsSome old.batch
    → now.faults ≡ before.faults → Overfull (Some ends) abandoning
    → WhereHistoryTold before.told now.told (FullChangesNothing (Some ends)) → CantEnd StatusLogFull ends old before now
has_no_room ends old before now is_open same full stays = (
  is_open,
  same,
  full,
  λ found. told_so before.told now.told (FullChangesNothing (Some ends))
      (λ o n. (start : History) → IsKeeping found [] ends start o → n ≡ o)
      (λ o n p start keeping. p found [] start keeping) stays,
)

-- ---- What the log has after the lines found.

-- A log that goes on, whatever it began with, still ends in the file.
still_there : (end' : Option LogEnd) (found : List Bytes) (first all : List Group) (end : LogEnd) (since m n : History)
    → IsKeeping found first end since m
    → ((start : History) → IsKeeping found first end start m → HasKeptGroups end' found all start n)
    → (g : LogEnd) × IsKeeping found all g since n
still_there (Some g) found first all end since m n keeping kept = (g, kept since keeping)
still_there None found first all end since m n keeping kept =
    let empty = kept (from (settled [])) (begun (settled [])) in
    let other = kept (from (settled (0 ∷ []))) (begun (settled (0 ∷ []))) in
    let sizes : 0 ≡ 1 = ap (λ (h : History). length h.file.bytes) (sym empty ∙ other) in
    absurd (omega (arith, sizes))
  where
    from : File → History
    from file = record { paths = m.paths; past = m.past; file = file; next = m.next }

    begun : (file : File) → IsKeeping found first end (from file) m
    begun file = record {
      idle = keeping.idle;
      leaves = record {
        more = [];
        past = sym (append-nil m.past);
        paths = refl;
        each = tt;
        now = (keeping.leaves).now;
      };
    }

-- All groups are in the log after the lines found and what was appended first.
all_kept : (path : Bytes) (found : List Bytes) (first groups : List Group) (end : LogEnd) (end' : Option LogEnd)
    (old mid new : Option History)
    → WhereHistoryTold old mid (FindsLines path found first end) → AllKept (Some end) end' groups mid new
    → WhereHistoryTold old new
    (λ o n. SinceOpened path found (λ since. (g : LogEnd) × IsKeeping found (first ++ groups) g since n) o)
all_kept path found first groups end end' old mid new finds kept =
    told_both old mid new (FindsLines path found first end)
    (λ a b. (lines : List Bytes) (had : List Group) (start : History)
    → HasKeptGroups (Some end) lines had start a → HasKeptGroups end' lines (had ++ groups) start b)
    (λ o n. SinceOpened path found (λ since. (g : LogEnd) × IsKeeping found (first ++ groups) g since n) o)
    (λ o m n p q. record {
      since = p.since;
      begins = p.begins;
      holds = still_there end' found first (first ++ groups) end p.since m n p.holds
          (λ start keeping. q found first start keeping);
    }) finds kept

lost_kept : (path : Bytes) (found : List Bytes) (first groups : List Group) (end : LogEnd) (old mid new : Option History)
    → WhereHistoryTold old mid (FindsLines path found first end) → LastLost (Some end) groups mid new
    → WhereHistoryTold old new (λ o n. SinceOpened path found (λ since. KeptAs DiskFault found first groups since n) o)
lost_kept path found first groups end old mid new finds lost =
    told_both old mid new (FindsLines path found first end) _
    (λ o n. SinceOpened path found (λ since. KeptAs DiskFault found first groups since n) o)
    (λ o m n p q. record {
      since = p.since;
      begins = p.begins;
      holds = record { whole = lost.whole; last = lost.last; cut = lost.cut; kept = q found first p.since p.holds };
    }) finds lost.kept

left_kept : (path : Bytes) (found : List Bytes) (first groups : List Group) (end : LogEnd) (old mid new : Option History)
    → WhereHistoryTold old mid (FindsLines path found first end) → LastLeft (Some end) groups mid new
    → WhereHistoryTold old new (λ o n. SinceOpened path found (λ since. KeptAs LogFull found first groups since n) o)
left_kept path found first groups end old mid new finds left = by_end left.end' left.full left.kept
  where
    by_end : (end' : Option LogEnd) → Overfull end' left.last → AllKept (Some end) end' left.whole mid new
        → WhereHistoryTold old new
        (λ o n. SinceOpened path found (λ since. KeptAs LogFull found first groups since n) o)
    by_end None full kept = absurd full
    by_end (Some g) full kept =
        told_both old mid new (FindsLines path found first end) _
        (λ o n. SinceOpened path found (λ since. KeptAs LogFull found first groups since n) o)
        (λ o m n p q. record {
          since = p.since;
          begins = p.begins;
          holds = record {
            whole = left.whole;
            last = left.last;
            cut = left.cut;
            end = g;
            full = full;
            kept = q found first p.since p.holds;
          };
        }) finds kept

kept_as : (answer : Served) (path : Bytes) (found : List Bytes) (first groups : List Group) (end : LogEnd)
    (end' : Option LogEnd) (old mid new : Option History)
    → WhereHistoryTold old mid (FindsLines path found first end)
    → KeepsBy (Some answer) (Some end) end' groups mid new
    → WhereHistoryTold old new (λ o n. SinceOpened path found (λ since. KeptAs answer found first groups since n) o)
kept_as Stopped path found first groups end end' old mid new finds kept =
    all_kept path found first groups end end' old mid new finds kept
kept_as Over path found first groups end end' old mid new finds kept =
    all_kept path found first groups end end' old mid new finds kept
kept_as TurnsUsed path found first groups end end' old mid new finds kept =
    all_kept path found first groups end end' old mid new finds kept
kept_as HubFault path found first groups end end' old mid new finds kept =
    all_kept path found first groups end end' old mid new finds kept
kept_as DiskFault path found first groups end end' old mid new finds kept =
    lost_kept path found first groups end old mid new finds kept
kept_as LogFull path found first groups end end' old mid new finds kept =
    left_kept path found first groups end old mid new finds kept

-- What was served is in the log that was loaded, if one was asked for.
pub logs_kept : (path : Option (Bor Bytes)) (found : List Bytes) (first : List Group) (answer : Served)
    (groups : List Group) (end end' : Option LogEnd) (before mid now : DiskSeen)
    → FoundIn (log_seen path before mid) found first end → KeepsBy (Some answer) end end' groups mid.told now.told
    → DiskCounts (Some answer) mid.faults now.faults → (end ≡ None → IsNotOfDisk answer)
    → Logs (log_seen path before now) found first answer groups
logs_kept None found first answer groups end end' before mid now lines kept counted plain = plain lines
logs_kept (Some path) found first answer groups None end' before mid now lines kept counted plain = absurd lines
logs_kept (Some path) found first answer groups (Some end) end' before mid now lines kept counted plain = (
  subst (λ (n : ℕ). DiskCounts (Some answer) n now.faults) lines.0 counted,
  kept_as answer path.now found first groups end end' before.told mid.told now.told lines.1 kept,
)

-- Each move did to the log that was loaded what it says.
pub is_stored : (path : Option (Bor Bytes)) (found : List Bytes) (first : List Group) (end end' : Option LogEnd)
    (before mid now : DiskSeen) (moves : List Move) → FoundIn (log_seen path before mid) found first end
    → Walk LogsMove (log_place end mid.told) moves (log_place end' now.told)
    → IsStored (log_seen path before now) found first moves
is_stored None found first end end' before mid now moves lines walk = tt
is_stored (Some path) found first None end' before mid now moves lines walk = absurd lines
is_stored (Some path) found first (Some end) end' before mid now moves lines walk =
    (end, end', mid.told, lines.1, walk)

-- Out of memory before anything was done.
pub never_began : (path : Option (Bor Bytes)) (disk : DiskSeen) (counted : Counts)
    → NeverBegins (log_seen path disk disk) NoMemory counted counted
never_began None disk counted = (refl, refl)
never_began (Some path) disk counted = record {
  caused = refl;
  leaves = told_none disk.told (LeavesUnloaded NoMemory path.now) (λ o. inl refl);
  unlisted = refl;
}

-- Without a log nothing is loaded.
pub begins_empty : (counted : Counts) (start : State) → start ≡ opening → Begins None [] [] counted start counted
begins_empty counted start is = record {
  keeps = record { end = loading opening.store; loads = refl; is = refl };
  loads = ap (λ (st : State). loading st.store) is;
  fresh = is ∙ sym (ap (λ (st : State). record opening { store = st.store }) is);
  counts = (refl, refl);
}

-- A log was made.
pub made_reads : (path : Bytes) (before mid now : DiskSeen) (ends : LogEnd) (end : Loading) (state : State)
    (listing : ℕ) → end ≡ loading opening.store → state ≡ opening → mid.faults ≡ before.faults
    → now.faults ≡ mid.faults → WhereHistoryTold before.told mid.told (OpensPath path)
    → WhereHistoryTold mid.told now.told (OpensLogLines (Made ends))
    → ReadsLog (log_seen_at path before now) ends end state listing listing
made_reads path before mid now ends end state listing none fresh no_fault made opens makes = record {
  found = [];
  loads = none;
  fresh = fresh ∙ sym (ap (λ (st : State). record opening { store = st.store }) fresh);
  faults = made ∙ no_fault;
  finds = made_finds path ends before.told mid.told now.told opens makes;
  unlisted = refl;
}

-- An older log was opened, and its lines were loaded.
pub read_whole : (path : Bytes) (before mid then now : DiskSeen) (source : LogSource) (ends : LogEnd) (end : Loading)
    (state : State) (listing listing' : ℕ) → mid.faults ≡ before.faults → then.faults ≡ mid.faults
    → WhereHistoryTold before.told mid.told (OpensPath path)
    → WhereHistoryTold mid.told then.told (OpensLogLines (Ready source))
    → LoadsLines ends end state then now listing listing'
    → ReadsLog (log_seen_at path before now) ends end state listing listing'
read_whole path before mid then now source ends end state listing listing' no_fault found opens ready l = record {
  found = l.found;
  loads = l.loads;
  fresh = l.fresh;
  faults = l.faults ∙ found ∙ no_fault;
  finds = older_finds path l.found ends before.told then.told now.told
      (ready_read path source before.told mid.told then.told opens ready) l.idle l.same;
  unlisted = l.unlisted;
}

-- It was opened, and they weren't.
pub unloaded_begins : (path : Bytes) (before mid then now : DiskSeen) (source : LogSource) (status : Status)
    (counted counted' : Counts) → mid.faults ≡ before.faults → then.faults ≡ mid.faults
    → WhereHistoryTold before.told mid.told (OpensPath path)
    → WhereHistoryTold mid.told then.told (OpensLogLines (Ready source))
    → StopsLoading status then now counted.listing counted'.listing
    → Unloaded (log_seen_at path before now) status counted counted'
unloaded_begins path before mid then now source status counted counted' no_fault found opens ready stops = record {
  caused = subst (λ (n : ℕ). UnloadedFor status n now) (found ∙ no_fault) stops.caused;
  leaves = opened_leaves status path before.told then.told now.told
      (ready_read path source before.told mid.told then.told opens ready) stops.same;
  unlisted = stops.unlisted;
}

-- The file couldn't be opened,
pub unasked_begins : (path : Bytes) (before now : DiskSeen) (counted : Counts) → Counted before.faults now.faults
    → WhereHistoryTold before.told now.told (OpensPath path)
    → Unloaded (log_seen_at path before now) StatusDiskFault counted counted
unasked_begins path before now counted failed opens =
    record { caused = failed; leaves = unasked_leaves path before.told now.told opens; unlisted = refl }

-- or the log in it couldn't,
pub unopened_begins : (path : Bytes) (before mid now : DiskSeen) (counted : Counts) → mid.faults ≡ before.faults
    → Counted mid.faults now.faults → WhereHistoryTold before.told mid.told (OpensPath path)
    → WhereHistoryTold mid.told now.told (OpensLogLines Unopened)
    → Unloaded (log_seen_at path before now) StatusDiskFault counted counted
unopened_begins path before mid now counted no_fault failed opens unopened = record {
  caused = subst (λ (n : ℕ). Counted n now.faults) no_fault failed;
  leaves = unopened_leaves path before.told mid.told now.told opens unopened;
  unlisted = refl;
}

-- or it is none.
pub unknown_begins : (path : Bytes) (before mid now : DiskSeen) (counted : Counts) → mid.faults ≡ before.faults
    → now.faults ≡ mid.faults → WhereHistoryTold before.told mid.told (OpensPath path)
    → WhereHistoryTold mid.told now.told (OpensLogLines Unknown)
    → Unloaded (log_seen_at path before now) (BadLog 0) counted counted
unknown_begins path before mid now counted no_fault found opens unknown = record {
  caused = (found ∙ no_fault, inl (unknown_from mid.told now.told unknown));
  leaves = unknown_leaves path before.told mid.told now.told opens unknown;
  unlisted = refl;
}

-- What was opened and read to its end is a log that goes on from here.
goes_on : (path : Bytes) (found : List Bytes) (ends : LogEnd) (o n : History) → FindsAll path found ends o n
    → IsKeeping found [] ends n n
goes_on path found ends o n finds = (keeps_on.none) found ends n finds.1

-- The batch that its lines leave open is ended, if they do.
pub ended_begins : (path : Bytes) (before mid now : DiskSeen) (ends : LogEnd) (log : Option LogEnd) (end new : Loading)
    (state start : State) (counted loaded : Counts) (listing : ℕ)
    → ReadsLog (log_seen_at path before mid) ends end state counted.listing listing → EndsBatch ends log end new mid now
    → new.store ≡ start.store → start ≡ record state { store = start.store } → loaded.listing ≡ listing
    → (found : List Bytes) × (first : List Group)
    × Begins (Some (log_seen_at path before now)) found first counted start loaded
    × FoundIn (Some (log_seen_at path before now)) found first log
ended_begins path before mid now ends log end new state start counted loaded listing r e same rest unlisted = (
  r.found,
  first_kept end.batch,
  record {
    keeps = record { end = end; loads = r.loads; is = refl };
    loads = subst (λ (l : Loading). Loads (loading opening.store) (r.found ++ lines_in (first_kept end.batch)) l) closed
        (walk_then (λ (old : Loading) (line : Bytes) (l : Loading). LoadStep old line Ran l) (loading opening.store)
        r.found end (lines_in (first_kept end.batch)) new r.loads e.loads);
    fresh = rest ∙ ap (λ (st : State). record st { store = start.store }) r.fresh;
    counts = unlisted ∙ r.unlisted;
  },
  subst (λ (k : Option LogEnd). FoundIn (Some (log_seen_at path before now)) r.found (first_kept end.batch) k)
      (sym e.at) (
        e.faults ∙ r.faults,
        told_both before.told mid.told now.told (FindsAll path r.found ends) _
            (FindsLines path r.found (first_kept end.batch) e.after)
            (λ o m n p q. record { since = m; begins = begun o m p.0; holds = q m (goes_on path r.found ends o m p) })
            r.finds (e.kept r.found),
      ),
)
  where
    closed : new ≡ loading start.store
    closed = ap (λ (b : Option HeldTransaction). record { store = new.store; batch = b }) e.closed
        ∙ ap (λ (st : Store). loading st) same

    begun : (o m : History) → LogIsMade path r.found o m ⊎ ReadsOlder path r.found o m
        → LogIsMade path r.found o m ⊎ IsOlder path r.found o m
    begun o m (inl made) = inl made
    begun o m (inr older) = inr older.0

-- A log with lines that leave a batch open is no new one.
open_older : (path : Bytes) (found : List Bytes) (ends : LogEnd) (end : Loading) (o n : History)
    → Loads (loading opening.store) found end → IsSome end.batch → FindsAll path found ends o n → IsOnlyRead path o n
open_older path found ends end o n loads some (inr older, idle) = record { some = older.1; is = older.0.is }
open_older path found ends end o n loads some (inl made, idle) =
    let none : end ≡ loading opening.store = subst (λ (ls : List Bytes). Loads (loading opening.store) ls end) made.none
    loads in
    absurd (closed (subst (λ (l : Loading). IsSome l.batch) none some))
  where
    closed : IsSome (loading opening.store).batch → ⊥
    closed w = cc

-- It isn't.
pub unended_begins : (path : Bytes) (before mid now : DiskSeen) (ends : LogEnd) (status : Status) (end : Loading)
    (state : State) (counted counted' : Counts) (listing : ℕ)
    → ReadsLog (log_seen_at path before mid) ends end state counted.listing listing → CantEnd status ends end mid now
    → counted'.listing ≡ listing → Unloaded (log_seen_at path before now) status counted counted'
unended_begins path before mid now ends DiskFailed end state counted counted' listing r c unlisted = record {
  caused = subst (λ (n : ℕ). Counted n now.faults) r.faults c.1;
  leaves = told_both before.told mid.told now.told (FindsAll path r.found ends) _ (LeavesUnloaded StatusDiskFault path)
      (λ o m n p q. inr (inr (record {
        found = r.found;
        leaves = record { end = end; loads = r.loads; is_open = c.0 };
        lost = record { since = m; begins = begun o m p.0; holds = q m (goes_on path r.found ends o m p) };
      }))) r.finds (c.2 r.found);
  unlisted = unlisted ∙ r.unlisted;
}
  where
    begun : (o m : History) → LogIsMade path r.found o m ⊎ ReadsOlder path r.found o m
        → LogIsMade path r.found o m ⊎ IsOlder path r.found o m
    begun o m (inl made) = inl made
    begun o m (inr older) = inr older.0
unended_begins path before mid now ends Filled end state counted counted' listing r c unlisted = record {
  caused = (
    c.1 ∙ r.faults,
    record {
      found = r.found;
      leaves = record { end = end; loads = r.loads; is_open = c.0 };
      end = ends;
      full = c.2;
      idle = told_end before.told now.told (FindsAll path r.found ends) (λ h. IsIdleAt r.found ends h.file)
          (λ o n p. p.1) still;
    },
  );
  leaves = told_so before.told now.told (FindsAll path r.found ends) (LeavesUnloaded StatusLogFull path)
      (λ o n p. open_older path r.found ends end o n r.loads c.0 p) still;
  unlisted = unlisted ∙ r.unlisted;
}
  where
    still : WhereHistoryTold before.told now.told (FindsAll path r.found ends)
    still = told_both before.told mid.told now.told (FindsAll path r.found ends) _ (FindsAll path r.found ends)
        (λ o m n p q. subst (λ (h : History). FindsAll path r.found ends o h)
        (sym (q m (goes_on path r.found ends o m p))) p) r.finds (c.3 r.found)
unended_begins path before mid now ends StatusDone end state counted counted' listing r c unlisted = absurd c
unended_begins path before mid now ends Usage end state counted counted' listing r c unlisted = absurd c
unended_begins path before mid now ends ReadFault end state counted counted' listing r c unlisted = absurd c
unended_begins path before mid now ends WriteFault end state counted counted' listing r c unlisted = absurd c
unended_begins path before mid now ends HubFailed end state counted counted' listing r c unlisted = absurd c
unended_begins path before mid now ends AllTaken end state counted counted' listing r c unlisted = absurd c
unended_begins path before mid now ends NoMemory end state counted counted' listing r c unlisted = absurd c
unended_begins path before mid now ends (Schedule n) end state counted counted' listing r c unlisted = absurd c
unended_begins path before mid now ends SessionEnded end state counted counted' listing r c unlisted = absurd c
unended_begins path before mid now ends (BadLog at) end state counted counted' listing r c unlisted = absurd c
unended_begins path before mid now ends (Mirror n) end state counted counted' listing r c unlisted = absurd c

-- What was loaded is so whatever the disk does afterwards.
pub begins_still : (path : Option (Bor Bytes)) (before mid last : DiskSeen) (found : List Bytes) (first : List Group)
    (counted : Counts) (start : State) (loaded : Counts)
    → Begins (log_seen path before mid) found first counted start loaded
    → Begins (log_seen path before last) found first counted start loaded
begins_still None before mid last found first counted start loaded b = b
begins_still (Some path) before mid last found first counted start loaded b =
    record { keeps = b.keeps; loads = b.loads; fresh = b.fresh; counts = b.counts }

-- ---- What a crash leaves of a log opens to whole groups, and these are loaded.

-- What opens within some groups does within more after them.
within_more : (found : List Bytes) (whole : List Group) (last : Group) (groups : List Group) (least : ℕ)
    (image : List ℕ) → groups ≡ whole ++ last ∷ []
    → OpensWithin found whole least image → OpensWithin found groups least image
within_more found whole last groups least image cut o = record {
  whole = o.whole;
  later = o.later ++ last ∷ [];
  cut = cut ∙ ap (λ (gs : List Group). gs ++ last ∷ []) o.cut ∙ append_assoc o.whole o.later (last ∷ []);
  acknowledged = o.acknowledged;
  opens = o.opens;
}

-- as many as were answered, where all were, and where the last wasn't
fewer : (found : List Bytes) (groups : List Group) (least less : ℕ) (image : List ℕ) → less ≤ least
    → OpensWithin found groups least image → OpensWithin found groups less image
fewer found groups least less image few o = record {
  whole = o.whole;
  later = o.later;
  cut = o.cut;
  acknowledged = omega (arith, few, o.acknowledged);
  opens = o.opens;
}

all_answered : (found : List Bytes) (first groups : List Group) (image : List ℕ)
    → OpensWithin found (first ++ groups) (length (first ++ groups)) image
    → OpensWithin found (first ++ groups) (length first + length groups) image
all_answered found first groups image o =
    fewer found (first ++ groups) (length (first ++ groups)) (length first + length groups) image
    (omega (arith, length-append first groups)) o

one_less : (found : List Bytes) (first whole : List Group) (last : Group) (groups : List Group) (image : List ℕ)
    → groups ≡ whole ++ last ∷ [] → OpensWithin found (first ++ groups) (length (first ++ whole)) image
    → OpensWithin found (first ++ groups) (length first + (length groups - 1)) image
one_less found first whole last groups image cut o =
    fewer found (first ++ groups) (length (first ++ whole)) (length first + (length groups - 1)) image
    (omega (
      arith,
      length-append first whole,
      ap (λ (gs : List Group). length gs) cut,
      length-append whole (last ∷ []),
    )) o

behind_first : (first whole : List Group) (last : Group) (groups : List Group) → groups ≡ whole ++ last ∷ []
    → first ++ groups ≡ (first ++ whole) ++ last ∷ []
behind_first first whole last groups cut =
    ap (λ (gs : List Group). first ++ gs) cut ∙ sym (append_assoc first whole (last ∷ []))

kept_now : (found : List Bytes) (groups : List Group) (end : LogEnd) (since n : History)
    → IsKeeping found groups end since n → LeavesOnly (OpensWithin found groups (length groups)) n.file
kept_now found groups end since n keeping = ((keeps_on.more) found groups end since n keeping).now

-- What a crash leaves in the end: what was appended first, and of the groups after it as many as were answered.
leaves_groups : (answer : Served) (found : List Bytes) (first groups : List Group) (since n : History)
    → KeptAs answer found first groups since n
    → LeavesOnly (OpensWithin found (first ++ groups) (length first + answered answer groups)) n.file
leaves_groups Stopped found first groups since n kept image is =
    all_answered found first groups image (kept_now found (first ++ groups) kept.0 since n kept.1 image is)
leaves_groups Over found first groups since n kept image is =
    all_answered found first groups image (kept_now found (first ++ groups) kept.0 since n kept.1 image is)
leaves_groups TurnsUsed found first groups since n kept image is =
    all_answered found first groups image (kept_now found (first ++ groups) kept.0 since n kept.1 image is)
leaves_groups HubFault found first groups since n kept image is =
    all_answered found first groups image (kept_now found (first ++ groups) kept.0 since n kept.1 image is)
leaves_groups DiskFault found first groups since n kept image is =
    one_less found first kept.whole kept.last groups image kept.cut
    (subst (λ (gs : List Group). OpensWithin found gs (length (first ++ kept.whole)) image)
    (sym (behind_first first kept.whole kept.last groups kept.cut)) ((kept.kept).now image is))
leaves_groups LogFull found first groups since n kept image is =
    one_less found first kept.whole kept.last groups image kept.cut
    (within_more found (first ++ kept.whole) kept.last (first ++ groups) (length (first ++ kept.whole)) image
    (behind_first first kept.whole kept.last groups kept.cut)
    (kept_now found (first ++ kept.whole) kept.end since n kept.kept image is))

-- What was appended first is whole, and the others are the first of those after it.
record Behind (first groups whole later : List Group) : Type 0 where
  pub rest : List Group
  pub is : whole ≡ first ++ rest
  pub cut : groups ≡ rest ++ later

behind_it : (first groups whole later : List Group) → first ++ groups ≡ whole ++ later → length first ≤ length whole
    → Behind first groups whole later
behind_it [] groups whole later cut few = record { rest = whole; is = refl; cut = cut }
behind_it (f ∷ first) groups [] later cut few = absurd (omega (arith, few))
behind_it (f ∷ first) groups (w ∷ whole) later cut few =
    let b = behind_it first groups whole later (tails cut) (omega (arith, few)) in
    record { rest = b.rest; is = ap₂ (λ (g : Group) (gs : List Group). g ∷ gs) (sym (heads cut)) b.is; cut = b.cut }
  where
    heads : f ∷ (first ++ groups) ≡ w ∷ (whole ++ later) → f ≡ w
    heads e = cc

    tails : f ∷ (first ++ groups) ≡ w ∷ (whole ++ later) → first ++ groups ≡ whole ++ later
    tails e = cc

-- ---- The lines of the first commits are those of the first groups, and of all where there is no other commit.

-- what a commit hands to the log has its lines
pub grouped_lines : (lines : List Bytes) → lines_in (grouped lines) ≡ lines
grouped_lines [] = refl
grouped_lines (l ∷ lines) = append-nil (l ∷ lines)

committed_lines : (commits : List (List Group))
    → lines_in (flat_map (λ (c : List Group). grouped (lines_in c)) commits)
    ≡ lines_in (flat_map (λ (c : List Group). c) commits)
committed_lines [] = refl
committed_lines (c ∷ commits) =
    let handed = flat_map (λ (k : List Group). grouped (lines_in k)) commits in
    let steps = flat_map (λ (k : List Group). k) commits in
    flat_map-append (λ (g : Group). g) (grouped (lines_in c)) handed
    ∙ ap₂ (λ (a b : List Bytes). a ++ b) (grouped_lines (lines_in c)) (committed_lines commits)
    ∙ sym (flat_map-append (λ (g : Group). g) c steps)

-- So the log is handed what the steps log.
logged_lines : (moves : List Move) → IsCommitted moves
    → lines_in (all_logged moves) ≡ lines_in (groups_of (all_done moves))
logged_lines moves c = ap lines_in c.logged ∙ committed_lines c.commits ∙ sym (ap lines_in c.cut)

-- A group has a line.
HasLine : Group → Type 0
HasLine g = 0 < length g

line_has : (l : Bytes) (keeping : Keeping) → All HasLine (groups_in l keeping)
unfolding HasLine
line_has l no_line = All-nil HasLine
line_has l the_line = All-cons HasLine (l ∷ []) [] (omega arith) (All-nil HasLine)
line_has l (the_batch held) =
    All-cons HasLine (codes "batch" ∷ held ++ codes "done" ∷ []) [] (omega arith) (All-nil HasLine)

step_has : (event : Event) (keeping : Keeping) → All HasLine (kept_group event keeping)
step_has (stepped s (run l)) keeping = line_has l keeping
step_has (stepped s long) keeping = All-nil HasLine
step_has (stepped s (blank l)) keeping = All-nil HasLine
step_has (stepped s (slow l)) keeping = All-nil HasLine
step_has (stepped s (no_room l)) keeping = All-nil HasLine
step_has (opened s) keeping = All-nil HasLine
step_has (fed s bytes) keeping = All-nil HasLine
step_has (took s bytes) keeping = All-nil HasLine
step_has (ended s) keeping = All-nil HasLine
step_has (closed s bytes) keeping = All-nil HasLine

have_lines : (done : List Did) → All HasLine (groups_of done)
have_lines [] = All-nil HasLine
have_lines (d ∷ done) =
    All-append HasLine (kept_group d.event d.effect.kept) (groups_of done) (step_has d.event d.effect.kept)
    (have_lines done)

back : (xs ys : List Group) → All HasLine (xs ++ ys) → All HasLine ys
back [] ys h = h
back (x ∷ xs) ys h = back xs ys (All-tail HasLine x (xs ++ ys) h)

no_group : (groups : List Group) → All HasLine groups → lines_in groups ≡ [] → groups ≡ []
unfolding HasLine
no_group [] h none = refl
no_group ([] ∷ groups) h none = absurd (omega (arith, All-head HasLine [] groups h))
no_group ((l ∷ g) ∷ groups) h none = cc

none_behind : (a b : List Bytes) → a ≡ a ++ b → b ≡ []
none_behind a b e = nil_from_length b (omega (arith, ap length e, length-append a b))

all_groups : (moves : List Move) → IsCommitted moves → (commits others whole later : List Group)
    → all_logged moves ≡ commits ++ others → groups_of (all_done moves) ≡ whole ++ later
    → lines_in whole ≡ lines_in commits → others ≡ [] → later ≡ []
all_groups moves c commits others whole later logged cut same none =
    let groups = groups_of (all_done moves) in
    let every : all_logged moves ≡ commits = logged ∙ ap (λ (gs : List Group). commits ++ gs) none
    ∙ append-nil commits in
    let lines : lines_in whole ≡ lines_in whole ++ lines_in later = same ∙ sym (ap lines_in every)
    ∙ logged_lines moves c ∙ ap lines_in cut ∙ flat_map-append (λ (g : Group). g) whole later in
    no_group later
    (back whole later (subst (λ (gs : List Group). All HasLine gs) cut (have_lines (all_done moves))))
    (none_behind (lines_in whole) (lines_in later) lines)

pub reopens : (found : List Bytes) (first : List Group) (start : State) (moves : List Move) (state : State) (least : ℕ)
    (image : List ℕ) → Loads (loading opening.store) (found ++ lines_in first) (loading start.store)
    → Run start (all_done moves) state → IsSoundState start → IsCommitted moves
    → OpensWithin found (first ++ all_logged moves) (length first + least) image
    → Reopens (found ++ lines_in first) start moves state least image
reopens found first start moves state least image loads runs sound committed o =
    let done = all_done moves in
    let b = behind_it first (all_logged moves) o.whole o.later o.cut (omega (arith, o.acknowledged)) in
    let f = commits_first moves committed b.rest o.later b.cut in
    let stood = stops_reload (found ++ lines_in first) start loads done state runs sound f.first f.later f.cut in
    let same : found ++ whole_lines o.whole ≡ (found ++ lines_in first) ++ lines_in f.first =
    ap (λ (gs : List Group). found ++ whole_lines gs) b.is
    ∙ ap (λ (ls : List Bytes). found ++ ls) (flat_map-append (λ (g : Group). g) first b.rest)
    ∙ sym (append_assoc found (lines_in first) (lines_in b.rest))
    ∙ ap (λ (ls : List Bytes). (found ++ lines_in first) ++ ls) (sym f.lines) in
    record {
      commits = b.rest;
      others = o.later;
      logged = b.cut;
      some = omega (arith, o.acknowledged, ap (λ (gs : List Group). length gs) b.is, length-append first b.rest);
      whole = f.first;
      later = f.later;
      cut = f.cut;
      of_commits = f.lines;
      all = all_groups moves committed b.rest o.later f.first f.later b.cut f.cut f.lines;
      opens = subst (λ (ls : List Bytes). LogOpensToLines ls image) same o.opens;
      at = stood.0;
      loads = stood.1;
    }

pub logs_reopen : LogsReopen
logs_reopen log found first counted start loaded begins answer turns most hub hub' counted' state ends logs =
    let moves = ends.goes.moves in
    let groups = all_logged moves in
    told_end log.before.told log.now.told
    (λ o n. SinceOpened log.path found (λ since. KeptAs answer found first groups since n) o)
    (λ h. LeavesOnly (Reopens (found ++ lines_in first) start moves state (answered answer groups)) h.file)
    (λ o n s image is. reopens found first start moves state (answered answer groups) image begins.loads ends.run
    (start_sound start (starts (Some log) found first counted start loaded begins)) ends.committed
    (leaves_groups answer found first groups s.since n s.holds image is)) logs.1
