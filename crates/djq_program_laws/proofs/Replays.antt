-- A schedule's hub has no more turns than its lines, so that one turn more finds it over; and it never fails.
use Rattle.std.specs.Prelude.{ℕ, List, [], ◌∷◌, ◌++◌, ◌≡◌, ◌+◌, ◌<◌, ◌≤◌, ◌⊎◌, false, Option, None, Some, Result, Ok}
use Rattle.std.specs.Prelude.{Err, MatchResult, IfSome, length, take}
use Rattle.std.proofs.Common.{refl, sym, ap, ◌∙◌, subst, inl, inr, arith, length-append, length-take}
use Rattle.std.proofs.lemmas.List.Sums.{sum_by-cons}
use Rattle.std.specs.Borrow.{Bor}
use Rattle.std.proofs.lemmas.Bool.{or_parts}
use Rattle.djq_io.specs.declared.hub.Coming.{Coming}
use Rattle.djq_io.specs.declared.hub.Incoming.{Incoming}
use Rattle.djq_io.specs.declared.hub.Incoming.TheVariants.{Brings}
use Rattle.djq_io.specs.declared.hub.Class.TheVariants.{Client}
use Rattle.djq_io.specs.declared.hub.Turn.{Turn}
use Rattle.djq_io.specs.declared.hub.Turn.TheVariants.{Opened, Bytes as Brought, Ended, Idle, Over as HubOver, Failed}
use Rattle.djq_io.specs.declared.hub.Sent.{Sent}
use Rattle.djq_io.specs.declared.hub.Sent.TheVariants.{Took, Again, Gone}
use Rattle.djq_io.specs.declared.hub.Told.{Told}
use Rattle.djq_io.specs.declared.hub.Told.TheVariants.{Listening, Turning, Sending, Closing}
use Rattle.djq_io.specs.declared.limits.TheConstants.{READ_BYTES}
use Rattle.djq_io.specs.Hub.{Ids, no_ids}
use Rattle.djq_io.specs.MemHub.{Recorded}
use Rattle.djq_io.specs.Script.{Script, ScriptPasses, Cuts, Sends}
use Rattle.djq_io.specs.SteadyHub.{has_gone, NeverFails}
use Rattle.djq_model.specs.Data.{Bytes}
use Rattle.djq_schedule.specs.Schedule.{schedule_lines}
use Rattle.djq_schedule.specs.Made.{ScheduleIsMade}
use Rattle.djq_schedule.proofs.Schedules.{AllShort, turn_for_each_line, turns_are_short}
use Rattle.djq_machine.specs.State.{State}
use Rattle.djq_machine.specs.Run.{Walk, Group}
use Rattle.djq_machine.specs.Call.{Counts}
use Rattle.djq_run.specs.declared.status.Status.{Status}
use Rattle.djq_run.specs.declared.status.Status.TheVariants.{NoMemory}
use Rattle.djq_serve.specs.declared.served.Served.{Served}
use Rattle.djq_serve.specs.declared.served.Served.TheVariants.{Stopped, Over, TurnsUsed as AllTaken}
use Rattle.djq_serve.specs.declared.served.Served.TheVariants.{HubFault as HubFailed, DiskFault as DiskFailed, LogFull}
use Rattle.djq_serve.specs.Told.{Shown, hub_shown, Place, hub_place, IsAnswered, turn_is_over, turn_is_failed, by_turn}
use Rattle.djq_serve.specs.Told.{has_over, turn_failed, turn_in, turns_in}
use Rattle.djq_serve.specs.Server.{all_told, all_logged}
use Rattle.djq_serve.specs.Logged.{UnkeptIsSilent}
use Rattle.djq_serve.specs.Ends.{FaultsCount, ServeEnds}
use Rattle.djq_program_laws.specs.Logged.{DiskSeen, LogSeen, log_seen, IsUnasked, served_status, Begins, Logs, IsStored}
use Rattle.djq_program_laws.specs.Replay.{hub_of, ServedWhole, Plays, ReplayComesTo, ComesToNothing, first_fault}
use Rattle.djq_program_laws.specs.Parts.{TellsWhole, TellsNone}
use Rattle.djq_program_laws.proofs.Logs.{never_began}

-- the next turn of a script is gone, and those that are left are short too
record OneLess (old new : List Coming) : Type 0 where
  pub less : length old ≡ length new + 1
  pub short : AllShort new

passed : (old : Script) (next : Incoming) (new : Script) → ScriptPasses old next new → AllShort old.turns
    → OneLess old.turns new.turns
passed old next new h all = record {
  less = omega (arith, ap (λ (turns : List Coming). length turns) h);
  short = (subst AllShort h all).1;
}

-- a short piece isn't cut
uncut : (old : Script) (id n : ℕ) (buf : Bytes) (new : Script) → length buf ≡ READ_BYTES → n ≡ length buf
    → Cuts old id (take n buf) new → AllShort old.turns → ⊥
uncut old id n buf new room all_of (rest, after, some, before, behind) all =
    let short : length (take n buf ++ rest) ≤ 8192 = (subst AllShort before all).0 in
    some (no_bytes rest (omega (arith, short, length-append (take n buf) rest, length-take n buf, room, all_of)))
  where
    no_bytes : (xs : Bytes) → length xs ≤ 0 → xs ≡ []
    no_bytes [] h = refl
    no_bytes (x ∷ xs) h = absurd (omega (arith, h))

turned : (turn : Turn) (piece : Bytes) (old new : Place) → IsAnswered old (Turning turn piece) new
    → AllShort old.script.turns → turn_is_over turn ≡ false → turn_is_failed turn ≡ false
    → OneLess old.script.turns new.script.turns
turned (Opened id Client) piece old new (buf, room, is, follows, ids) all over failed = passed old.script _ new.script
    follows.1 all
turned (Brought id n) piece old new (buf, room, is, follows, ids) all over failed = by_piece follows.1
  where
    by_piece : ScriptPasses old.script (Brings id (take n buf)) new.script ⊎
        ((n ≡ length buf) × Cuts old.script id (take n buf) new.script) → OneLess old.script.turns new.script.turns
    by_piece (inl p) = passed old.script _ new.script p all
    by_piece (inr (all_of, cuts)) = absurd (uncut old.script id n buf new.script room all_of cuts all)
turned (Ended id) piece old new (buf, room, is, follows, ids) all over failed = passed old.script _ new.script follows.1
    all
turned Idle piece old new (buf, room, is, follows, ids) all over failed = passed old.script follows.0 new.script
    follows.2 all
turned HubOver piece old new h all over failed = absurd cc
turned Failed piece old new h all over failed = absurd cc

-- Of what is left to come, no more turns were taken.
record TookAtMost (old : List Coming) (told : List Told) (new : List Coming) : Type 0 where
  pub taken : turns_in told + length new ≤ length old
  pub short : AllShort new

-- a send leaves the script as it was
script_stays : (s offered : ℕ) (sent : Sent) (old new : Script) → Sends s offered sent old new → new ≡ old
script_stays s offered (Took n) old new h = h.2
script_stays s offered Again old new h = h.1
script_stays s offered Gone old new h = h

one_call : (t : Told) (old new : Place) → IsAnswered old t new → AllShort old.script.turns → by_turn turn_is_over t
    ≡ false → by_turn turn_is_failed t ≡ false → TookAtMost old.script.turns (t ∷ []) new.script.turns
one_call (Turning turn piece) old new h all over failed =
    let less = turned turn piece old new h all over failed in
    record { taken = omega (arith, less.less); short = less.short }
one_call (Sending s offered sent piece) old new h all over failed =
    let stays = script_stays s offered sent old.script new.script h.0 in
    record {
      taken = omega (arith, ap (λ (script : Script). length script.turns) stays);
      short = subst (λ (script : Script). AllShort script.turns) (sym stays) all;
    }
one_call (Closing s) old new h all over failed = record {
  taken = omega (arith, ap (λ (script : Script). length script.turns) h.0);
  short = subst (λ (script : Script). AllShort script.turns) (sym h.0) all;
}
one_call (Listening addr answer) old new h all over failed = absurd h

calls : (told : List Told) (old new : Place) → Walk IsAnswered old told new → AllShort old.script.turns → has_over told
    ≡ false → turn_failed told ≡ false → TookAtMost old.script.turns told new.script.turns
calls [] old new h all over failed = record {
  taken = omega (arith, ap (λ (p : Place). length p.script.turns) h);
  short = subst (λ (p : Place). AllShort p.script.turns) (sym h) all;
}
calls (t ∷ told) old new (mid, first, more) all over failed =
    let o = or_parts (by_turn turn_is_over t) (has_over told) over in
    let f = or_parts (by_turn turn_is_failed t) (turn_failed told) failed in
    let one = one_call t old mid first all o.0 f.0 in
    let rest = calls told mid new more one.short o.1 f.1 in
    record { taken = omega (arith, one.taken, rest.taken, sum_by-cons turn_in t told); short = rest.short }

no_fault : FaultsCount HubFailed 0 0 → ⊥
no_fault (least, inl rose) = absurd (omega (arith, rose))
no_fault (least, inr top) = absurd (omega (arith, top))

-- Serving such a hub, which tells its turns to the end, ends as it is over, a session says `stop`, or the log fails.
is_whole : (answer : Served) (turns : List Coming) (most : ℕ) (counted counted' : Counts) (start state : State)
    (past : Option (List Told)) (left : Script) (ids : Ids)
    → ServeEnds answer most 1 (hub_of turns) counted start (hub_shown past (Some left) ids) counted' state
    → FaultsCount answer 0 0 → AllShort turns → length turns < most → ServedWhole answer
is_whole Stopped turns most counted counted' start state past left ids ends faults all fewer = tt
is_whole Over turns most counted counted' start state past left ids ends faults all fewer = tt
is_whole DiskFailed turns most counted counted' start state past left ids ends faults all fewer = tt
is_whole LogFull turns most counted counted' start state past left ids ends faults all fewer = tt
is_whole HubFailed turns most counted counted' start state past left ids ends faults all fewer = no_fault faults
is_whole AllTaken turns most counted counted' start state past left ids ends faults all fewer =
    let begin = hub_place (record { blocked = []; turns = turns }) no_ids in
    let took = calls (all_told ends.goes.moves) begin (hub_place left ids) ends.goes.told.played all
    (ends.caused.over refl (ends.caused.stopped refl)) ends.caused.failed in
    absurd (omega (arith, took.taken, ends.goes.turned, ends.has_taken, fewer))

-- a hub in memory of which no call is to fail, as it shows itself
abbrev pub steady : Recorded → Shown
steady hub = hub_shown hub.past (Some hub.script) hub.ids

-- the hub that a schedule is made
made_hub : (bytes : Bytes) (hub : Recorded) → ScheduleIsMade bytes hub → steady hub ≡ hub_of hub.script.turns
made_hub bytes hub made =
    ap (λ (past : Option (List Told)). hub_shown past (Some hub.script) hub.ids) made.past
    ∙ ap (λ (blocked : List ℕ). hub_shown (Some [])
    (Some (record { blocked = blocked; turns = hub.script.turns })) hub.ids)
    made.blocked
    ∙ ap (λ (ids : Ids). hub_shown (Some []) (Some (record { blocked = []; turns = hub.script.turns })) ids) made.ids

pub made_steady : (bytes : Bytes) (hub : Recorded) → ScheduleIsMade bytes hub → NeverFails hub
made_steady bytes hub made = record {
  listens = made.listens;
  turns = made.fails;
  sends = made.sends;
  past = subst (λ (past : Option (List Told)). IfSome past (λ told. has_gone told ≡ false)) (sym made.past) refl;
}

-- How serving ended, and what of it is in the log.
pub record EndsKept (log : Option LogSeen) (found : List Bytes) (first : List Group) (answer : Served) (most : ℕ)
    (hub : Shown) (loaded : Counts) (start : State) (hub' : Shown)
    (counted' : Counts) (state : State) : Type 0 where
  pub ends : ServeEnds answer most 1 hub loaded start hub' counted' state
  pub logs : Logs log found first answer (all_logged ends.goes.moves)
  pub stored : IsStored log found first ends.goes.moves
  pub silent : UnkeptIsSilent answer ends.goes.moves

-- The hub of a schedule was served.
pub plays : (log : Option LogSeen) (found : List Bytes) (first : List Group) (bytes : Bytes) (made hub hub' : Recorded)
    (answer : Served) (most : ℕ) (counted loaded counted' : Counts) (start state : State)
    → Begins log found first counted start loaded → ScheduleIsMade bytes made → hub ≡ made
    → most ≡ length (schedule_lines bytes) + 1
    → EndsKept log found first answer most (steady hub) loaded start (steady hub') counted' state
    → FaultsCount answer 0 0
    → Plays log made.script.turns (length (schedule_lines bytes) + 1) counted counted' hub'.past
plays log found first bytes made hub hub' answer most counted loaded counted' start state begins is_made same is_most
    ends faults =
    let turns = made.script.turns in
    let lines = length (schedule_lines bytes) in
    let of_made = ap steady same ∙ made_hub bytes made is_made in
    let of_turns : EndsKept log found first answer most (hub_of turns) loaded start (steady hub') counted' state =
    subst (λ (h : Shown). EndsKept log found first answer most h loaded start (steady hub') counted' state) of_made ends
    in
    let served : EndsKept log found first answer (lines + 1) (hub_of turns) loaded start (steady hub') counted' state =
    subst (λ (n : ℕ). EndsKept log found first answer n (hub_of turns) loaded start (steady hub') counted' state)
    is_most of_turns in
    let more = turn_for_each_line bytes turns is_made.turns in
    record {
      found = found;
      first = first;
      start = start;
      loaded = loaded;
      begins = begins;
      left = hub'.script;
      ids = hub'.ids;
      state = state;
      answer = answer;
      ends = served.ends;
      logs = served.logs;
      stored = served.stored;
      silent = served.silent;
      whole = is_whole answer turns (lines + 1) loaded counted' start state hub'.past hub'.script hub'.ids served.ends
          faults (turns_are_short bytes turns is_made.turns) (omega (arith, more));
    }

-- Its past is told at the end, or there is no memory for it.
pub comes_to : (log : Option LogSeen) (bytes : Bytes) (turns : List Coming) (counted counted' : Counts)
    (past : Option (List Told)) (whole : Status)
    (p : Plays log turns (length (schedule_lines bytes) + 1) counted counted' past) → whole ≡ served_status p.answer
    → (text : Bytes) (status : Status) → TellsWhole text status past whole
    → ReplayComesTo log (Ok turns) bytes counted counted' text status
comes_to log bytes turns counted counted' past whole p is text status tells =
    let both = subst
    (λ (o : Option (List Told)). (q : Plays log turns (length (schedule_lines bytes) + 1) counted counted' o)
    × (whole ≡ served_status q.answer)) tells.is_told (p, is) in
    record { told = tells.told; plays = both.0; none_gone = tells.none_gone; sent = tells.sent; is = tells.is ∙ both.1 }

pub comes_to_nothing : (log : Option LogSeen) (bytes : Bytes) (turns : List Coming) (counted counted' : Counts)
    (past : Option (List Told)) (whole : Status)
    (p : Plays log turns (length (schedule_lines bytes) + 1) counted counted' past) → whole ≡ served_status p.answer
    → (status : Status) → TellsNone status whole → ComesToNothing log status (Ok turns) bytes counted counted'
comes_to_nothing log bytes turns counted counted' past whole p is status none =
    inr (record { past = past; plays = p; is = none ∙ ap (λ (s : Status). first_fault s NoMemory) is })

-- The hub was served, and its past is told, or there is no memory for it.
pub schedule_served : {A : Type 0} (r : Result A Status) (text : A → Bytes) (answered : A → Status)
    (log : Option LogSeen) (found : List Bytes) (first : List Group) (bytes : Bytes) (made hub hub' : Recorded)
    (answer : Served) (most : ℕ) (counted loaded counted' : Counts) (start state : State) (whole : Status)
    → Begins log found first counted start loaded → ScheduleIsMade bytes made → hub ≡ made
    → most ≡ length (schedule_lines bytes) + 1
    → EndsKept log found first answer most (steady hub) loaded start (steady hub') counted' state
    → FaultsCount answer 0 0 → whole ≡ served_status answer
    → MatchResult r (λ a. TellsWhole (text a) (answered a) hub'.past whole) (λ status. TellsNone status whole)
    → MatchResult r (λ a. ReplayComesTo log (Ok made.script.turns) bytes counted counted' (text a) (answered a))
    (λ status. ComesToNothing log status (Ok made.script.turns) bytes counted counted')
unfolding plays
schedule_served (Ok a) text answered log found first bytes made hub hub' answer most counted loaded counted' start state
    whole begins is_made same is_most ends faults is tells =
    comes_to log bytes made.script.turns counted counted' hub'.past whole
    (plays log found first bytes made hub hub' answer most counted loaded counted' start state begins is_made same
    is_most ends faults) is (text a) (answered a) tells
schedule_served (Err status) text answered log found first bytes made hub hub' answer most counted loaded counted' start
    state whole begins is_made same is_most ends faults is none =
    comes_to_nothing log bytes made.script.turns counted counted' hub'.past whole
    (plays log found first bytes made hub hub' answer most counted loaded counted' start state begins is_made same
    is_most ends faults) is status none

-- Where nothing was asked of the disk nothing was asked of a log.
pub unasked : (path : Option (Bor Bytes)) (disk : DiskSeen) → IsUnasked (log_seen path disk disk)
unasked None disk = tt
unasked (Some path) disk = refl

-- Out of memory as the schedule was read.
pub nothing_comes : (path : Option (Bor Bytes)) (disk : DiskSeen) (r : Result (List Coming) ℕ) (bytes : Bytes)
    (counted : Counts)
    → ComesToNothing (log_seen path disk disk) NoMemory r bytes counted counted
nothing_comes path disk (Err n) bytes counted = (refl, refl, unasked path disk)
nothing_comes path disk (Ok turns) bytes counted = inl (never_began path disk counted)
