-- Groups that the log is handed one after another, and what it has of them in the end.
use Rattle.std.specs.Prelude.{ℕ, List, [], ◌∷◌, ◌++◌, ◌≡◌, ◌+◌, ◌-◌, Bool, true, false, Option, None, Some, IfSome}
use Rattle.std.proofs.Common.{refl, sym, ap, ◌∙◌, subst, inl, inr, append-nil, append_assoc, ap₂}
use Rattle.djq_disk.specs.File.{File}
use Rattle.djq_disk.specs.History.{History, WhereHistoryTold}
use Rattle.djq_disk.proofs.Files.{told_none, told_so, told_both}
use Rattle.djq_io.specs.Faults.{Counted}
use Rattle.djq_io.specs.declared.hub.Turn.{Turn}
use Rattle.djq_io.specs.declared.hub.Turn.TheVariants.{Opened, Bytes as Brought, Ended, Idle, Over as TurnOver, Failed as TurnFailed}
use Rattle.djq_io.specs.declared.hub.Told.{Told}
use Rattle.djq_model.specs.Data.{Bytes}
use Rattle.djq_log.specs.declared.end.LogEnd.{LogEnd}
use Rattle.djq_log.specs.declared.log.Kept.{Kept}
use Rattle.djq_log.specs.declared.log.Kept.TheVariants.{All, Failed, Full}
use Rattle.djq_log.specs.Logging.{grouped, HasKeptGroups, MayHaveKept, Keeps, Overfull, FillsLog}
use Rattle.djq_journal.specs.Passing.{HasPassed}
use Rattle.djq_log.specs.Keeping.{WasKeeping}
use Rattle.djq_machine.specs.State.{State}
use Rattle.djq_machine.specs.Run.{Walk, Did, Group, lines_in}
use Rattle.djq_machine.specs.Call.{first_due}
use Rattle.djq_serve.specs.declared.served.Served.{Served}
use Rattle.djq_serve.specs.declared.served.Served.TheVariants.{Stopped, Over, TurnsUsed, HubFault, DiskFault, LogFull}
use Rattle.djq_serve.specs.Logged.{AllKept, LastLost, LastLeft, KeepsBy, DiskCounts, IsNotOfDisk}
use Rattle.djq_serve.specs.Server.{Last, Next, more_lines, round_over, Phase, waiting, gathering, running, keeping, flushing}
use Rattle.djq_serve.specs.Server.{closing, Server, server, Move, all_logged, Brings, TakesTurn, RunsAt, RunsOn, StoredThen}
use Rattle.djq_serve.specs.Server.{FlushesAt, ClosesFirst, after, after_round, first_open, next_ready, ServesAt, MakesMove}
use Rattle.djq_serve.specs.Server.{PhasePasses, next_round, no_turn, input_over, is_last}
use Rattle.djq_serve.specs.Goes.{LogPlace, log_place, LogsGroups, LogsMove}

-- The disk of a log stays open.
pub still_open : (old new : Option LogEnd) (before now : Bool) → (old ≡ None → new ≡ None) → now ≡ before
    → IfSome old (λ _. before ≡ true) → IfSome new (λ _. now ≡ true)
still_open None new before now nowhere same is = subst (λ (log : Option LogEnd). IfSome log (λ _. now ≡ true))
    (sym (nowhere refl)) tt
still_open (Some end) None before now nowhere same is = tt
still_open (Some end) (Some next) before now nowhere same is = same ∙ is

-- ---- Groups that are appended in one stretch after another.

abbrev KeepsOn : Option LogEnd → Option LogEnd → List Group → History → History → Type 0
KeepsOn end end' groups a b = (found : List Bytes) (had : List Group) (start : History)
    → HasKeptGroups end found had start a → HasKeptGroups end' found (had ++ groups) start b

-- no group is appended, and nothing changes
pub none_kept : (end : Option LogEnd) (h : Option History) → AllKept end end [] h h
none_kept end h = told_none h (KeepsOn end end [])
    (λ o found had start kept. subst (λ (gs : List Group). HasKeptGroups end found gs start o)
    (sym (append-nil had)) kept)

on_then : (g g' g'' : Option LogEnd) (xs ys : List Group) (a b c : History) → KeepsOn g g' xs a b
    → KeepsOn g' g'' ys b c → KeepsOn g g'' (xs ++ ys) a c
on_then g g' g'' xs ys a b c p q found had start kept =
    subst (λ (gs : List Group). HasKeptGroups g'' found gs start c) (append_assoc had xs ys)
    (q found (had ++ xs) start (p found had start kept))

-- some, and then others
pub kept_then : (g g' g'' : Option LogEnd) (xs ys : List Group) (a b c : Option History) → AllKept g g' xs a b
    → AllKept g' g'' ys b c → AllKept g g'' (xs ++ ys) a c
kept_then g g' g'' xs ys a b c p q = told_both a b c (KeepsOn g g' xs) (KeepsOn g' g'' ys) (KeepsOn g g'' (xs ++ ys))
    (on_then g g' g'' xs ys) p q

lost_then : (g g' : Option LogEnd) (xs ys : List Group) (a b c : Option History) → AllKept g g' xs a b
    → LastLost g' ys b c → LastLost g (xs ++ ys) a c
lost_then g g' xs ys a b c p lost = record {
  whole = xs ++ lost.whole;
  last = lost.last;
  cut = ap (λ (gs : List Group). xs ++ gs) lost.cut ∙ sym (append_assoc xs lost.whole (lost.last ∷ []));
  kept = told_both a b c (KeepsOn g g' xs)
      (λ o n. (found : List Bytes) (had : List Group) (start : History) → HasKeptGroups g' found had start o
      → WasKeeping found (had ++ lost.whole) lost.last start n)
      (λ o n. (found : List Bytes) (had : List Group) (start : History) → HasKeptGroups g found had start o
      → WasKeeping found (had ++ (xs ++ lost.whole)) lost.last start n)
      (λ o m n q r found had start kept.
      subst (λ (gs : List Group). WasKeeping found gs lost.last start n) (append_assoc had xs lost.whole)
      (r found (had ++ xs) start (q found had start kept)))
      p lost.kept;
}

left_then : (g g' : Option LogEnd) (xs ys : List Group) (a b c : Option History) → AllKept g g' xs a b
    → LastLeft g' ys b c → LastLeft g (xs ++ ys) a c
left_then g g' xs ys a b c p left = record {
  whole = xs ++ left.whole;
  last = left.last;
  cut = ap (λ (gs : List Group). xs ++ gs) left.cut ∙ sym (append_assoc xs left.whole (left.last ∷ []));
  end' = left.end';
  full = left.full;
  kept = kept_then g g' left.end' xs left.whole a b c p left.kept;
}

-- some, and then what an answer says
pub keeps_then : (answer : Option Served) (g g' g'' : Option LogEnd) (xs ys : List Group) (a b c : Option History)
    → AllKept g g' xs a b → KeepsBy answer g' g'' ys b c → KeepsBy answer g g'' (xs ++ ys) a c
keeps_then None g g' g'' xs ys a b c p q = kept_then g g' g'' xs ys a b c p q
keeps_then (Some Stopped) g g' g'' xs ys a b c p q = kept_then g g' g'' xs ys a b c p q
keeps_then (Some Over) g g' g'' xs ys a b c p q = kept_then g g' g'' xs ys a b c p q
keeps_then (Some TurnsUsed) g g' g'' xs ys a b c p q = kept_then g g' g'' xs ys a b c p q
keeps_then (Some HubFault) g g' g'' xs ys a b c p q = kept_then g g' g'' xs ys a b c p q
keeps_then (Some DiskFault) g g' g'' xs ys a b c p q = lost_then g g' xs ys a b c p q
keeps_then (Some LogFull) g g' g'' xs ys a b c p q = left_then g g' xs ys a b c p q

-- lines that were appended are a group more
pub lines_kept : (g g' : Option LogEnd) (the_lines : List Bytes) (groups : List Group) (a b : Option History) → groups
    ≡ grouped the_lines → WhereHistoryTold a b (Keeps All g g' the_lines) → AllKept g g' groups a b
lines_kept g g' the_lines groups a b is told =
    subst (λ (gs : List Group). AllKept g g' gs a b) (sym is)
    (told_so a b (Keeps All g g' the_lines) (KeepsOn g g' (grouped the_lines)) (λ o n k. k) told)

some_lines : (the_lines : List Bytes) → (the_lines ≡ [] → ⊥) → grouped the_lines ≡ the_lines ∷ []
some_lines [] some = absurd (some refl)
some_lines (l ∷ ls) some = refl

-- they are some
pub some_group : (groups : List Group) (the_lines : List Bytes) → groups ≡ grouped the_lines → (the_lines ≡ [] → ⊥) → groups ≡ []
    → ⊥
some_group groups the_lines is some none = differ (sym (is ∙ some_lines the_lines some) ∙ none)
  where
    differ : the_lines ∷ [] ≡ [] → ⊥
    differ e = cc

was_kept : (g : Option LogEnd) (found : List Bytes) (had : List Group) (last : Group) (a b : History)
    → MayHaveKept g found had last a b → WasKeeping found had last a b
was_kept None found had last a b h = absurd h
was_kept (Some end) found had last a b h = h

-- lines that the disk failed to append
pub lines_lost : (g g' : Option LogEnd) (the_lines : List Bytes) (groups : List Group) (a b : Option History) → groups
    ≡ grouped the_lines → FillsLog Failed g the_lines → WhereHistoryTold a b (Keeps Failed g g' the_lines) → LastLost g groups a b
lines_lost g g' the_lines groups a b is fills told = record {
  whole = [];
  last = the_lines;
  cut = is ∙ some_lines the_lines fills.1;
  kept = told_so a b (Keeps Failed g g' the_lines)
      (λ o n. (found : List Bytes) (had : List Group) (start : History) → HasKeptGroups g found had start o
      → WasKeeping found (had ++ []) the_lines start n)
      (λ o n k found had start kept. subst (λ (gs : List Group). WasKeeping found gs the_lines start n)
      (sym (append-nil had)) (was_kept g found had the_lines start n (k found had start kept))) told;
}

pub full_some : (g : Option LogEnd) (the_lines : List Bytes) → Overfull g the_lines → the_lines ≡ [] → ⊥
full_some None the_lines over none = over
full_some (Some end) [] over none = over
full_some (Some end) (l ∷ ls) over none = cc

-- lines for which there was no room
pub lines_left : (g g' : Option LogEnd) (the_lines : List Bytes) (groups : List Group) (a b : Option History) → groups
    ≡ grouped the_lines → FillsLog Full g the_lines → WhereHistoryTold a b (Keeps Full g g' the_lines) → LastLeft g groups a b
lines_left g g' the_lines groups a b is fills told = record {
  whole = [];
  last = the_lines;
  cut = is ∙ some_lines the_lines (full_some g the_lines fills);
  end' = g;
  full = fills;
  kept = told_so a b (Keeps Full g g' the_lines) (KeepsOn g g [])
      (λ o n k found had start kept. subst (λ (gs : List Group). HasKeptGroups g found gs start n)
      (sym (append-nil had))
      (k found had start kept)) told;
}

-- answers that differ
pub failed_isnt_all : Failed ≡ All → ⊥
failed_isnt_all e = cc

pub full_isnt_all : Full ≡ All → ⊥
full_isnt_all e = cc

pub some_isnt_none : (answer : Served) → Some answer ≡ None → ⊥
some_isnt_none answer e = cc

-- what a turn's answer says of the disk's faults, after turns in which it met none
pub disk_faults : (answer : Option Served) (entry before now : ℕ) → before ≡ entry → DiskCounts answer before now
    → DiskCounts answer entry now
disk_faults None entry before now same h = h ∙ same
disk_faults (Some Stopped) entry before now same h = h ∙ same
disk_faults (Some Over) entry before now same h = h ∙ same
disk_faults (Some TurnsUsed) entry before now same h = h ∙ same
disk_faults (Some HubFault) entry before now same h = h ∙ same
disk_faults (Some LogFull) entry before now same h = h ∙ same
disk_faults (Some DiskFault) entry before now same h = subst (λ (n : ℕ). Counted n now) same h

-- ---- What handing the lines of a commit to the log does.

pub logs_lines : (the_lines : List Bytes) (answer : Kept) (g g' : Option LogEnd) (d d' : Option History)
    → (the_lines ≡ [] → (g' ≡ g) × (d' ≡ d)) → FillsLog answer g the_lines
    → WhereHistoryTold d d' (Keeps answer g g' the_lines) → WhereHistoryTold d d' HasPassed
    → (moments : List File) × LogsGroups (grouped the_lines) answer moments (log_place g d) (log_place g' d')
logs_lines [] answer g g' d d' none fills told goes = let same = none refl in ([], (ap₂ log_place same.0 same.1, refl))
logs_lines (l ∷ ls) answer g g' d None none fills told goes = ([], (fills, tt))
logs_lines (l ∷ ls) answer g g' None (Some n) none fills told goes = absurd told
logs_lines (l ∷ ls) answer g g' (Some o) (Some n) none fills told goes = (goes.0, (fills, (told, goes.1)))

-- ---- What is in the log in the end, by the moves.

-- what is in it by where the server stands: it ends the serving by this answer
abbrev ByPhase : Phase → Served → LogPlace → List Group → LogPlace → Type 0
ByPhase (closing a) answer log groups log' = (a ≡ answer) × (groups ≡ []) × (log' ≡ log)
ByPhase waiting answer log groups log' = KeepsBy (Some answer) log.end log'.end groups log.history log'.history
ByPhase (gathering left) answer log groups log' = KeepsBy (Some answer) log.end log'.end groups log.history
    log'.history
ByPhase (running from count gs last) answer log groups log' = KeepsBy (Some answer) log.end log'.end groups
    log.history log'.history
ByPhase (keeping gs next) answer log groups log' = KeepsBy (Some answer) log.end log'.end groups log.history
    log'.history
ByPhase (flushing from next) answer log groups log' = KeepsBy (Some answer) log.end log'.end groups log.history
    log'.history

phase_by : (p q : Phase) (answer : Served) (log : LogPlace) (groups : List Group) (log' : LogPlace) → q ≡ p
    → ByPhase q answer log groups log' → ByPhase p answer log groups log'
phase_by p q answer log groups log' e h = subst (λ (k : Phase). ByPhase k answer log groups log') e h

-- an answer that isn't of the disk: nothing more is appended
none_by : (a : Served) (log : LogPlace) → IsNotOfDisk a
    → KeepsBy (Some a) log.end log.end [] log.history log.history
none_by Stopped log plain = none_kept log.end log.history
none_by Over log plain = none_kept log.end log.history
none_by TurnsUsed log plain = none_kept log.end log.history
none_by HubFault log plain = none_kept log.end log.history
none_by DiskFault log plain = absurd plain
none_by LogFull log plain = absurd plain

plain_by : (a answer : Served) (log : LogPlace) (groups : List Group) (log' : LogPlace) → IsNotOfDisk a
    → ByPhase (closing a) answer log groups log'
    → KeepsBy (Some answer) log.end log'.end groups log.history log'.history
plain_by a answer log groups log' plain (same, none, still) =
    subst (λ (k : LogPlace). KeepsBy (Some answer) log.end k.end groups log.history k.history) (sym still)
    (subst (λ (gs : List Group). KeepsBy (Some answer) log.end log.end gs log.history log.history) (sym none)
    (subst (λ (k : Served). KeepsBy (Some k) log.end log.end [] log.history log.history) same (none_by a log plain)))

turn_by : (left : ℕ) (turn : Turn) (piece : Bytes) (st : State) (more : List Told) (done : List Did) (new : State)
    (next : Phase) (answer : Served) (log : LogPlace) (groups : List Group) (log' : LogPlace)
    → Brings left turn piece st more done new next → ByPhase next answer log groups log'
    → KeepsBy (Some answer) log.end log'.end groups log.history log'.history
turn_by left (Opened s class) piece st more done new next answer log groups log' (happens, lets, phase) h =
    phase_by (gathering left) next answer log groups log' phase h
turn_by left (Brought s n) piece st more done new next answer log groups log' (happens, none, phase, is) h =
    phase_by (gathering left) next answer log groups log' phase h
turn_by left (Ended s) piece st more done new next answer log groups log' (stays, none, phase) h =
    phase_by (running 0 0 [] (input_over s)) next answer log groups log' phase h
turn_by left Idle piece st more done new next answer log groups log' (stays, none, phase) h =
    phase_by (gathering left) next answer log groups log' phase h
turn_by left TurnOver piece st more done new next answer log groups log' (stays, none, phase) h =
    phase_by (running 0 0 [] no_turn) next answer log groups log' phase h
turn_by left TurnFailed piece st more done new next answer log groups log' (stays, none, phase) h =
    plain_by HubFault answer log groups log' tt (phase_by (closing HubFault) next answer log groups log' phase h)

round_by : (stopped over : Bool) (answer : Served) (log : LogPlace) (groups : List Group) (log' : LogPlace)
    → ByPhase (after_round stopped over) answer log groups log'
    → KeepsBy (Some answer) log.end log'.end groups log.history log'.history
round_by true over answer log groups log' h = plain_by Stopped answer log groups log' tt h
round_by false true answer log groups log' h = plain_by Over answer log groups log' tt h
round_by false false answer log groups log' h = h

after_by : (st : State) (next : Next) (answer : Served) (log : LogPlace) (groups : List Group) (log' : LogPlace)
    → ByPhase (after st next) answer log groups log'
    → KeepsBy (Some answer) log.end log'.end groups log.history log'.history
after_by st (more_lines from last) answer log groups log' h = h
after_by st (round_over over) answer log groups log' h = round_by st.stopped over answer log groups log' h

runs_by : (s count : ℕ) (gs : List Group) (last : Last) (p : Phase) (answer : Served) (log : LogPlace)
    (groups : List Group) (log' : LogPlace) → RunsOn s count gs last p → ByPhase p answer log groups log'
    → KeepsBy (Some answer) log.end log'.end groups log.history log'.history
runs_by s count gs last p answer log groups log' (inl on) h =
    phase_by (running (s + 1) (count + 1) gs last) p answer log groups log' on.1 h
runs_by s count gs last p answer log groups log' (inr ends) h =
    phase_by (keeping gs (more_lines (s + 1) last)) p answer log groups log' ends h

-- A move that hands nothing to the log, and where it leads.
record Passes (m : Move) (answer : Served) (log : LogPlace) (more : List Group) (log' : LogPlace) : Type 0 where
  pub none : m.logged ≡ []
  pub kept : KeepsBy (Some answer) log.end log'.end more log.history log'.history

passes_by : (p : Phase) (st : State) (m : Move) (new : Server) (answer : Served) (log : LogPlace) (more : List Group)
    (log' : LogPlace) → PhasePasses st p m new → ByPhase new.phase answer log more log'
    → (ByPhase p answer log more log' → KeepsBy (Some answer) log.end log'.end more log.history log'.history)
    → Passes m answer log more log'
passes_by p st m new answer log more log' (is, same) h so = record {
  none = ap (λ (k : Move). k.logged) is;
  kept = so (phase_by p new.phase answer log more log' (ap (λ (k : Server). k.phase) same) h);
}

turn_passes : (left : ℕ) (st : State) (m : Move) (new : Server) (answer : Served) (log : LogPlace) (more : List Group)
    (log' : LogPlace) → TakesTurn left st m new → ByPhase new.phase answer log more log'
    → Passes m answer log more log'
turn_passes left st m new answer log more log' (turn, piece, calls, is, none, brings) h = record {
  none = none;
  kept = turn_by left turn piece st calls m.done new.state new.phase answer log more log' brings h;
}

lines_pass : (count : ℕ) (gs : List Group) (last : Last) (st : State) (m : Move) (new : Server) (o : Option ℕ)
    (answer : Served) (log : LogPlace) (more : List Group) (log' : LogPlace) → RunsAt count gs last st m new o
    → ByPhase new.phase answer log more log' → Passes m answer log more log'
lines_pass count gs last st m new None answer log more log' (quiet, none, ends, phase) h = record {
  none = none;
  kept = phase_by (keeping gs (round_over (is_last last))) new.phase answer log more log' phase h;
}
lines_pass count gs last st m new (Some s) answer log more log' (quiet, none, outcome, happens, on) h = record {
  none = none;
  kept = runs_by s count _ last new.phase answer log more log' on h;
}

flush_passes : (next : Next) (st : State) (m : Move) (new : Server) (o : Option ℕ) (answer : Served) (log : LogPlace)
    (more : List Group) (log' : LogPlace) → FlushesAt next st m new o → ByPhase new.phase answer log more log'
    → Passes m answer log more log'
flush_passes next st m new None answer log more log' passes h =
    passes_by (after st next) st m new answer log more log' passes h (after_by st next answer log more log')
flush_passes next st m new (Some s) answer log more log' (none, to, visits, phase) h = record {
  none = none;
  kept = phase_by (flushing to next) new.phase answer log more log' phase h;
}

-- a move before others: it hands nothing to the log
quiet_more : (m : Move) (answer : Served) (log mid : LogPlace) (more : List Group) (log' : LogPlace)
    → LogsMove log m mid → Passes m answer mid more log'
    → KeepsBy (Some answer) log.end log'.end (m.logged ++ more) log.history log'.history
quiet_more m answer log mid more log' logs p =
    let same : mid ≡ log =
    (subst (λ (gs : List Group). LogsGroups gs m.stored m.moments log mid) p.none logs).0 in
    subst (λ (gs : List Group). KeepsBy (Some answer) log.end log'.end (gs ++ more) log.history log'.history)
    (sym p.none)
    (subst (λ (k : LogPlace). KeepsBy (Some answer) k.end log'.end more k.history log'.history) same p.kept)

-- the lines of a commit, by what the log answered
commit_kept : (the_lines : List Bytes) (moments : List File) (log mid : LogPlace)
    → LogsGroups (grouped the_lines) All moments log mid
    → AllKept log.end mid.end (grouped the_lines) log.history mid.history
commit_kept [] moments log mid logs = subst (λ (k : LogPlace). AllKept log.end k.end [] log.history k.history)
    (sym logs.0) (none_kept log.end log.history)
commit_kept (l ∷ ls) moments log mid (fills, told) =
    lines_kept log.end mid.end (l ∷ ls) (grouped (l ∷ ls)) log.history mid.history refl
    (told_so log.history mid.history _ (Keeps All log.end mid.end (l ∷ ls)) (λ o n both. both.0) told)

commit_lost : (the_lines : List Bytes) (moments : List File) (log mid : LogPlace) → (the_lines ≡ [] → ⊥)
    → LogsGroups (grouped the_lines) Failed moments log mid
    → LastLost log.end (grouped the_lines) log.history mid.history
commit_lost [] moments log mid some logs = absurd (some refl)
commit_lost (l ∷ ls) moments log mid some (fills, told) =
    lines_lost log.end mid.end (l ∷ ls) (grouped (l ∷ ls)) log.history mid.history refl fills
    (told_so log.history mid.history _ (Keeps Failed log.end mid.end (l ∷ ls)) (λ o n both. both.0) told)

commit_left : (the_lines : List Bytes) (moments : List File) (log mid : LogPlace) → (the_lines ≡ [] → ⊥)
    → LogsGroups (grouped the_lines) Full moments log mid
    → LastLeft log.end (grouped the_lines) log.history mid.history
commit_left [] moments log mid some logs = absurd (some refl)
commit_left (l ∷ ls) moments log mid some (fills, told) =
    lines_left log.end mid.end (l ∷ ls) (grouped (l ∷ ls)) log.history mid.history refl fills
    (told_so log.history mid.history _ (Keeps Full log.end mid.end (l ∷ ls)) (λ o n both. both.0) told)

-- serving ended with it
last_by : (a answer : Served) (log mid : LogPlace) (groups more : List Group) (log' : LogPlace)
    → KeepsBy (Some a) log.end mid.end groups log.history mid.history → ByPhase (closing a) answer mid more log'
    → KeepsBy (Some answer) log.end log'.end (groups ++ more) log.history log'.history
last_by a answer log mid groups more log' kept (same, none, still) =
    subst (λ (k : LogPlace). KeepsBy (Some answer) log.end k.end (groups ++ more) log.history k.history) (sym still)
    (subst (λ (gs : List Group). KeepsBy (Some answer) log.end mid.end gs log.history mid.history)
    (sym (ap (λ (gs : List Group). groups ++ gs) none ∙ append-nil groups))
    (subst (λ (k : Served). KeepsBy (Some k) log.end mid.end groups log.history mid.history) same kept))

commit_by : (answer : Kept) (gs : List Group) (next : Next) (p : Phase) (served : Served) (moments : List File)
    (log mid : LogPlace) (more : List Group) (log' : LogPlace) → StoredThen answer gs next p
    → LogsGroups (grouped (lines_in gs)) answer moments log mid → ByPhase p served mid more log'
    → KeepsBy (Some served) log.end log'.end (grouped (lines_in gs) ++ more) log.history log'.history
commit_by All gs next p served moments log mid more log' phase logs h =
    keeps_then (Some served) log.end mid.end log'.end (grouped (lines_in gs)) more log.history mid.history log'.history
    (commit_kept (lines_in gs) moments log mid logs) (phase_by (flushing 0 next) p served mid more log' phase h)
commit_by Failed gs next p served moments log mid more log' (some, phase) logs h =
    last_by DiskFault served log mid (grouped (lines_in gs)) more log'
    (commit_lost (lines_in gs) moments log mid some logs) (phase_by (closing DiskFault) p served mid more log' phase h)
commit_by Full gs next p served moments log mid more log' (some, phase) logs h =
    last_by LogFull served log mid (grouped (lines_in gs)) more log'
    (commit_left (lines_in gs) moments log mid some logs) (phase_by (closing LogFull) p served mid more log' phase h)

closes_by : (a : Served) (st : State) (m : Move) (new : Server) (o : Option ℕ) (answer : Served) (log mid : LogPlace)
    (more : List Group) (log' : LogPlace) → ClosesFirst a st m new o → LogsMove log m mid
    → ByPhase new.phase answer mid more log' → ByPhase (closing a) answer log (m.logged ++ more) log'
closes_by a st m new None answer log mid more log' closes logs h = absurd closes
closes_by a st m new (Some s) answer log mid more log' (told, none, happens, phase) logs h =
    let same : mid ≡ log =
    (subst (λ (gs : List Group). LogsGroups gs m.stored m.moments log mid) none logs).0 in
    let ends = phase_by (closing a) new.phase answer mid more log' phase h in
    (ends.0, ap₂ (λ (xs ys : List Group). xs ++ ys) none ends.1, ends.2 ∙ same)

move_by : (most : ℕ) (p : Phase) (st : State) (m : Move) (new : Server) (answer : Served) (log mid : LogPlace)
    (more : List Group) (log' : LogPlace) → ServesAt most p st m new → LogsMove log m mid
    → ByPhase new.phase answer mid more log' → ByPhase p answer log (m.logged ++ more) log'
move_by most waiting st m new answer log mid more log' (inl passes) logs h =
    quiet_more m answer log mid more log' logs (passes_by (closing TurnsUsed) st m new answer mid more log' passes h
    (plain_by TurnsUsed answer mid more log' tt))
move_by most waiting st m new answer log mid more log' (inr takes) logs h =
    quiet_more m answer log mid more log' logs (turn_passes (most - 1) st m new answer mid more log' takes h)
move_by most (gathering left) st m new answer log mid more log' (inl passes) logs h =
    quiet_more m answer log mid more log' logs (passes_by (running 0 0 [] next_round) st m new answer mid more log'
    passes h (λ k. k))
move_by most (gathering left) st m new answer log mid more log' (inr (some, takes)) logs h =
    quiet_more m answer log mid more log' logs (turn_passes (left - 1) st m new answer mid more log' takes h)
move_by most (running from count gs last) st m new answer log mid more log' g logs h =
    quiet_more m answer log mid more log' logs
    (lines_pass count gs last st m new (next_ready st from) answer mid more log' g h)
move_by most (keeping gs next) st m new answer log mid more log' (quiet, none, is, still, then_it) logs h =
    subst (λ (xs : List Group). KeepsBy (Some answer) log.end log'.end (xs ++ more) log.history log'.history)
    (sym is)
    (commit_by m.stored gs next new.phase answer m.moments log mid more log' then_it
    (subst (λ (xs : List Group). LogsGroups xs m.stored m.moments log mid) is logs) h)
move_by most (flushing from next) st m new answer log mid more log' g logs h =
    quiet_more m answer log mid more log' logs (flush_passes next st m new (first_due st from) answer mid more log' g h)
move_by most (closing a) st m new answer log mid more log' g logs h =
    closes_by a st m new (first_open st) answer log mid more log' g logs h

walk_by : (most : ℕ) (old : Server) (moves : List Move) (new : State) (answer : Served) (log log' : LogPlace)
    → Walk (MakesMove most) old moves (server new (closing answer)) → Walk LogsMove log moves log'
    → ByPhase old.phase answer log (all_logged moves) log'
walk_by most old [] new answer log log' w logs =
    subst (λ (k : Server). ByPhase k.phase answer log [] log') w (refl, refl, logs)
walk_by most old (m ∷ moves) new answer log log' w logs =
    move_by most old.phase old.state m w.0 answer log logs.0 (all_logged moves) log' w.1.0 logs.1
    (walk_by most w.0 moves new answer logs.0 log' w.2 logs.2)

-- from the first turn on
pub serve_keeps : (most : ℕ) (old : State) (moves : List Move) (new : State) (answer : Served) (log log' : LogPlace)
    → Walk (MakesMove most) (server old waiting) moves (server new (closing answer)) → Walk LogsMove log moves log'
    → KeepsBy (Some answer) log.end log'.end (all_logged moves) log.history log'.history
serve_keeps most old moves new answer log log' w logs = walk_by most (server old waiting) moves new answer log log' w
    logs
