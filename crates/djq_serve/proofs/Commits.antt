-- The groups that the steps log are cut into commits, each of which the log is handed as one group.
use Rattle.std.specs.Prelude.{ℕ, List, [], ◌∷◌, ◌++◌, ◌≡◌, ◌-◌, Bool, true, false, Option, None, Some, take}
use Rattle.std.specs.List.{flat_map}
use Rattle.std.proofs.Common.{refl, sym, ap, ap₂, ◌∙◌, subst, inl, inr, append-nil, append_assoc}
use Rattle.std.proofs.lemmas.Grind.{flat_map-append}
use Rattle.djq_io.specs.declared.hub.Turn.{Turn}
use Rattle.djq_io.specs.declared.hub.Turn.TheVariants.{Opened, Bytes as Brought, Ended, Idle, Over as HubOver, Failed}
use Rattle.djq_io.specs.declared.hub.Sent.{Sent}
use Rattle.djq_io.specs.declared.hub.Sent.TheVariants.{Took, Again, Gone}
use Rattle.djq_io.specs.declared.hub.Told.{Told}
use Rattle.djq_log.specs.Logging.{grouped}
use Rattle.djq_log.specs.declared.log.Kept.{Kept}
use Rattle.djq_log.specs.declared.log.Kept.TheVariants.{All as Stored, Failed as Unstored, Full as NoRoom}
use Rattle.djq_model.specs.Data.{Bytes}
use Rattle.djq_machine.specs.State.{State}
use Rattle.djq_machine.specs.Step.{Event, opened, fed, stepped, took, ended, closed}
use Rattle.djq_machine.specs.Run.{Walk, Did, Group, kept_group, groups_of, lines_in, pending_of}
use Rattle.djq_machine.specs.Call.{first_due}
use Rattle.djq_serve.specs.declared.served.Served.{Served}
use Rattle.djq_serve.specs.declared.served.Served.TheVariants.{TurnsUsed}
use Rattle.djq_serve.specs.Server.{Last, next_round, input_over, no_turn, Next, more_lines, round_over, Phase, waiting}
use Rattle.djq_serve.specs.Server.{gathering, running, keeping, flushing, closing, Server, server, Move, all_done, all_logged}
use Rattle.djq_serve.specs.Server.{Happens, Stays, Brings, TakesTurn, RunsOn, RunsAt, EndsInputIf, EndsRound, ends_input}
use Rattle.djq_serve.specs.Server.{StoredThen, SendsSome, Visits, after_round, after, first_open, PhasePasses, FlushesAt}
use Rattle.djq_serve.specs.Server.{ClosesFirst, ServesAt, MakesMove, next_ready}
use Rattle.djq_serve.specs.Ends.{IsCommitted}
use Rattle.djq_serve.specs.Logged.{FirstOf}

-- ---- What each move logs, by the groups of the open commit.

-- the groups that the steps of the open commit logged
abbrev pub open_groups : Phase → List Group
open_groups waiting = []
open_groups (gathering left) = []
open_groups (running from count groups last) = groups
open_groups (keeping groups next) = groups
open_groups (flushing from next) = []
open_groups (closing answer) = []

-- A move hands the log nothing, and its steps add to the open commit. Or it commits: the log is handed the lines, and
-- no commit is open then.
pub data Logs (p : Phase) (m : Move) (q : Phase) : Type 0 where
  appends : m.logged ≡ [] → open_groups p ++ groups_of m.done ≡ open_groups q → Logs p m q
  commits : groups_of m.done ≡ [] → m.logged ≡ grouped (lines_in (open_groups p)) → open_groups q ≡ [] → Logs p m q

-- what one step logs
pub group_of_one : (event : Event) (st new : State) (done : List Did) → (h : Happens event st done new)
    → groups_of done ≡ kept_group event (h.0).kept
group_of_one event st new done (e, step, is) = ap groups_of is ∙ append-nil (kept_group event e.kept)

pub none_by_staying : (st new : State) (done : List Did) → Stays st done new → groups_of done ≡ []
none_by_staying st new done (none, same) = ap groups_of none

-- a move that adds nothing, where no commit is open then
pub adds_nothing : (p : Phase) (m : Move) (q : Phase) → m.logged ≡ [] → groups_of m.done ≡ []
    → open_groups q ≡ open_groups p → Logs p m q
adds_nothing p m q unlogged none same = appends unlogged
    (ap (λ (gs : List Group). open_groups p ++ gs) none ∙ append-nil (open_groups p) ∙ sym same)

passes_logs : (st : State) (p q : Phase) (m : Move) (new : Server) → PhasePasses st q m new
    → open_groups q ≡ open_groups p → Logs p m new.phase
passes_logs st p q m new (none, same) is =
    adds_nothing p m new.phase (ap (λ (k : Move). k.logged) none) (ap (λ (k : Move). groups_of k.done) none)
    (ap (λ (k : Server). open_groups k.phase) same ∙ is)

-- what a turn brings logs nothing, and no commit is open after it
pub record TurnLogs (done : List Did) (next : Phase) : Type 0 where
  pub none : groups_of done ≡ []
  pub unopened : open_groups next ≡ []

pub turn_logs : (left : ℕ) (turn : Turn) (piece : Bytes) (st : State) (more : List Told) (done : List Did) (new : State)
    (next : Phase) → Brings left turn piece st more done new next → TurnLogs done next
turn_logs left (Opened s class) piece st more done new next (happens, lets, phase) =
    record { none = group_of_one (opened s) st new done happens; unopened = ap open_groups phase }
turn_logs left (Brought s n) piece st more done new next (happens, none, phase, is) =
    record { none = group_of_one (fed s piece) st new done happens; unopened = ap open_groups phase }
turn_logs left (Ended s) piece st more done new next (stays, none, phase) =
    record { none = none_by_staying st new done stays; unopened = ap open_groups phase }
turn_logs left Idle piece st more done new next (stays, none, phase) =
    record { none = none_by_staying st new done stays; unopened = ap open_groups phase }
turn_logs left HubOver piece st more done new next (stays, none, phase) =
    record { none = none_by_staying st new done stays; unopened = ap open_groups phase }
turn_logs left Failed piece st more done new next (stays, none, phase) =
    record { none = none_by_staying st new done stays; unopened = ap open_groups phase }

taking_logs : (p : Phase) (left : ℕ) (st : State) (m : Move) (new : Server) → open_groups p ≡ []
    → TakesTurn left st m new → Logs p m new.phase
taking_logs p left st m new unopened (turn, piece, more, is, unlogged, brings) =
    let t = turn_logs left turn piece st more m.done new.state new.phase brings in
    adds_nothing p m new.phase unlogged t.none (t.unopened ∙ sym unopened)

-- the end of a session's input
pub ends_log : (last : Last) (st : State) (done : List Did) (new : State) → EndsRound last st done new
    → groups_of done ≡ []
ends_log next_round st done new stays = none_by_staying st new done stays
ends_log no_turn st done new stays = none_by_staying st new done stays
ends_log (input_over s) st done new ends = by (ends_input st s) ends
  where
    by : (b : Bool) → EndsInputIf s st done new b → groups_of done ≡ []
    by true happens = group_of_one (ended s) st new done happens
    by false stays = none_by_staying st new done stays

-- the groups of the open commit after a line
pub on_groups : (s count : ℕ) (groups : List Group) (last : Last) (p : Phase) → RunsOn s count groups last p
    → open_groups p ≡ groups
on_groups s count groups last p (inl (few, phase)) = ap open_groups phase
on_groups s count groups last p (inr phase) = ap open_groups phase

lines_log : (from count : ℕ) (groups : List Group) (last : Last) (st : State) (m : Move) (new : Server) (o : Option ℕ)
    → RunsAt count groups last st m new o → Logs (running from count groups last) m new.phase
lines_log from count groups last st m new (Some s) (none, unlogged, outcome, happens, on) =
    appends unlogged
    (ap (λ (gs : List Group). groups ++ gs) (group_of_one (stepped s outcome) st new.state m.done happens)
    ∙ sym (on_groups s count (groups ++ kept_group (stepped s outcome) (happens.0).kept) last new.phase on))
lines_log from count groups last st m new None (none, unlogged, ends, phase) =
    adds_nothing (running from count groups last) m new.phase unlogged (ends_log last st m.done new.state ends)
    (ap open_groups phase)

-- no commit is open after the log was asked
pub stored_closes : (k : Kept) (groups : List Group) (next : Next) (p : Phase) → StoredThen k groups next p
    → open_groups p ≡ []
stored_closes Stored groups next p phase = ap open_groups phase
stored_closes Unstored groups next p (some, phase) = ap open_groups phase
stored_closes NoRoom groups next p (some, phase) = ap open_groups phase

-- a flush logs nothing
sending_logs : (sent : Sent) (s : ℕ) (st : State) (told : List Told) (done : List Did) (new : State)
    → SendsSome sent s st told done new → groups_of done ≡ []
sending_logs (Took n) s st told done new (some, within, is, happens) =
    group_of_one (took s (take n (pending_of st s))) st new done happens
sending_logs Again s st told done new (is, stays) = none_by_staying st new done stays
sending_logs Gone s st told done new (is, happens) = group_of_one (closed s (pending_of st s)) st new done happens

pub visit_logs : (s : ℕ) (st : State) (told : List Told) (done : List Did) (new : State) (to : ℕ)
    → Visits s st told done new to → groups_of done ≡ []
visit_logs s st told done new to (inl (some, sent, sends, place)) = sending_logs sent s st told done new sends
visit_logs s st told done new to (inr (none, cause, (is, happens), place)) =
    group_of_one (closed s []) st new done happens

pub after_opens_none : (st : State) (next : Next) → open_groups (after st next) ≡ []
after_opens_none st (more_lines from last) = refl
after_opens_none st (round_over over) = by st.stopped over
  where
    by : (stopped over : Bool) → open_groups (after_round stopped over) ≡ []
    by true over = refl
    by false true = refl
    by false false = refl

flush_logs : (from : ℕ) (next : Next) (st : State) (m : Move) (new : Server) (o : Option ℕ) → FlushesAt next st m new o
    → Logs (flushing from next) m new.phase
flush_logs from next st m new None passes =
    passes_logs st (flushing from next) (after st next) m new passes (after_opens_none st next)
flush_logs from next st m new (Some s) (unlogged, to, visits, phase) =
    adds_nothing (flushing from next) m new.phase unlogged (visit_logs s st m.told m.done new.state to visits)
    (ap open_groups phase)

close_logs : (answer : Served) (st : State) (m : Move) (new : Server) (o : Option ℕ) → ClosesFirst answer st m new o
    → Logs (closing answer) m new.phase
close_logs answer st m new None none = absurd none
close_logs answer st m new (Some s) (is, unlogged, happens, phase) =
    adds_nothing (closing answer) m new.phase unlogged
    (group_of_one (closed s (pending_of st s)) st new.state m.done happens) (ap open_groups phase)

pub move_logs : (most : ℕ) (p : Phase) (st : State) (m : Move) (new : Server) → ServesAt most p st m new
    → Logs p m new.phase
move_logs most waiting st m new (inl passes) = passes_logs st waiting (closing TurnsUsed) m new passes refl
move_logs most waiting st m new (inr taking) = taking_logs waiting (most - 1) st m new refl taking
move_logs most (gathering left) st m new (inl passes) =
    passes_logs st (gathering left) (running 0 0 [] next_round) m new passes refl
move_logs most (gathering left) st m new (inr (some, taking)) =
    taking_logs (gathering left) (left - 1) st m new refl taking
move_logs most (running from count groups last) st m new g =
    lines_log from count groups last st m new (next_ready st from) g
move_logs most (keeping groups next) st m new (none, undone, logged, same, stored) =
    commits (ap groups_of undone) logged (stored_closes m.stored groups next new.phase stored)
move_logs most (flushing from next) st m new g = flush_logs from next st m new (first_due st from) g
move_logs most (closing answer) st m new g = close_logs answer st m new (first_open st) g

-- ---- All moves.

-- What is done from where these groups are of the open commit is cut into commits, of which the open one is the first.
record Cuts (groups : List Group) (moves : List Move) : Type 0 where
  pub commits : List (List Group)
  pub cut : groups ++ groups_of (all_done moves) ≡ flat_map (λ (c : List Group). c) commits
  pub logged : all_logged moves ≡ flat_map (λ (c : List Group). grouped (lines_in c)) commits

pub groups_before : (m : Move) (moves : List Move)
    → groups_of (all_done (m ∷ moves)) ≡ groups_of m.done ++ groups_of (all_done moves)
groups_before m moves = flat_map-append (λ (d : Did). kept_group d.event d.effect.kept) m.done (all_done moves)

cuts_more : (p : Phase) (m : Move) (q : Phase) (moves : List Move) → Logs p m q → Cuts (open_groups q) moves
    → Cuts (open_groups p) (m ∷ moves)
cuts_more p m q moves (appends unlogged adds) c = record {
  commits = c.commits;
  cut = ap (λ (gs : List Group). open_groups p ++ gs) (groups_before m moves)
      ∙ sym (append_assoc (open_groups p) (groups_of m.done) (groups_of (all_done moves)))
      ∙ ap (λ (gs : List Group). gs ++ groups_of (all_done moves)) adds ∙ c.cut;
  logged = ap (λ (gs : List Group). gs ++ all_logged moves) unlogged ∙ c.logged;
}
cuts_more p m q moves (commits none logged shut) c = record {
  commits = open_groups p ∷ c.commits;
  cut = ap (λ (gs : List Group). open_groups p ++ gs)
      (groups_before m moves ∙ ap (λ (gs : List Group). gs ++ groups_of (all_done moves)) (none ∙ sym shut) ∙ c.cut);
  logged = ap₂ (λ (xs ys : List Group). xs ++ ys) logged c.logged;
}

walk_cuts : (most : ℕ) (old : Server) (moves : List Move) (new : State) (answer : Served)
    → Walk (MakesMove most) old moves (server new (closing answer)) → Cuts (open_groups old.phase) moves
walk_cuts most old [] new answer w =
    subst (λ (k : Server). Cuts (open_groups k.phase) []) w (record { commits = []; cut = refl; logged = refl })
walk_cuts most old (m ∷ moves) new answer w =
    cuts_more old.phase m (w.0).phase moves (move_logs most old.phase old.state m w.0 w.1.0)
    (walk_cuts most w.0 moves new answer w.2)

-- The groups that the steps log are cut into commits, in order, and the log is handed each as one group.
pub serve_committed : (most : ℕ) (old : State) (moves : List Move) (new : State) (answer : Served)
    → Walk (MakesMove most) (server old waiting) moves (server new (closing answer)) → IsCommitted moves
serve_committed most old moves new answer w =
    let c = walk_cuts most (server old waiting) moves new answer w in
    record { commits = c.commits; cut = c.cut; logged = c.logged }

-- ---- The first commits are of the first groups of the steps.

first_commits : (cs : List (List Group)) (whole later : List Group)
    → flat_map (λ (c : List Group). grouped (lines_in c)) cs ≡ whole ++ later
    → FirstOf (flat_map (λ (c : List Group). c) cs) whole
first_commits cs [] later is =
    record { first = []; later = flat_map (λ (c : List Group). c) cs; cut = refl; lines = refl }
first_commits [] (g ∷ whole) later is = absurd cc
first_commits (c ∷ cs) (g ∷ whole) later is =
    by (lines_in c) refl is (λ k. first_commits cs (g ∷ whole) later k) (λ k. first_commits cs whole later k)
  where
    rest : List Group
    rest = flat_map (λ (d : List Group). grouped (lines_in d)) cs

    all : List Group
    all = flat_map (λ (d : List Group). d) cs

    by : (lines : List Bytes) → lines_in c ≡ lines → grouped lines ++ rest ≡ g ∷ (whole ++ later)
        → (rest ≡ g ∷ (whole ++ later) → FirstOf all (g ∷ whole)) → (rest ≡ whole ++ later → FirstOf all whole)
        → FirstOf (c ++ all) (g ∷ whole)
    by [] none k same next =
        let f = same k in
        record {
          first = c ++ f.first;
          later = f.later;
          cut = ap (λ (gs : List Group). c ++ gs) f.cut ∙ sym (append_assoc c f.first f.later);
          lines = flat_map-append (λ (group : Group). group) c f.first
              ∙ ap₂ (λ (xs ys : List Bytes). xs ++ ys) none f.lines;
        }
    by (l ∷ lines) some k same next =
        let head : l ∷ lines ≡ g = cc in
        let tail : rest ≡ whole ++ later = cc in
        let f = next tail in
        record {
          first = c ++ f.first;
          later = f.later;
          cut = ap (λ (gs : List Group). c ++ gs) f.cut ∙ sym (append_assoc c f.first f.later);
          lines = flat_map-append (λ (group : Group). group) c f.first
              ∙ ap₂ (λ (xs ys : List Bytes). xs ++ ys) (some ∙ head) f.lines;
        }

-- What the log was handed in the first commits is what the first groups of the steps are.
pub commits_first : (moves : List Move) → IsCommitted moves → (whole later : List Group)
    → all_logged moves ≡ whole ++ later → FirstOf (groups_of (all_done moves)) whole
commits_first moves c whole later is =
    let f = first_commits c.commits whole later (sym c.logged ∙ is) in
    record { first = f.first; later = f.later; cut = c.cut ∙ f.cut; lines = f.lines }
