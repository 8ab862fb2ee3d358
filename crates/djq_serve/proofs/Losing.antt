-- Where a commit can't be logged nothing is sent from its first step on.
use Rattle.std.specs.Prelude.{ℕ, List, [], ◌∷◌, ◌++◌, ◌≡◌, ◌⊎◌, ◌+◌, ◌-◌, Bool, true, false, Option, None, Some, All}
use Rattle.std.proofs.Common.{refl, sym, ap, ap₂, ◌∙◌, subst, inl, inr, append-nil, append_assoc}
use Rattle.std.proofs.lemmas.Bool.{false≢true}
use Rattle.std.proofs.lemmas.Grind.{flat_map-append}
use Rattle.std.proofs.lemmas.List.Elements.{All-nil, All-cons, All-append}
use Rattle.djq_io.specs.declared.hub.Turn.{Turn}
use Rattle.djq_io.specs.declared.hub.Turn.TheVariants.{Opened, Bytes as Brought, Ended, Idle, Over as HubOver, Failed}
use Rattle.djq_io.specs.declared.hub.Told.{Told}
use Rattle.djq_io.specs.declared.hub.Told.TheVariants.{Closing}
use Rattle.djq_log.specs.Logging.{grouped}
use Rattle.djq_log.specs.declared.log.Kept.{Kept}
use Rattle.djq_log.specs.declared.log.Kept.TheVariants.{All as Stored, Failed as Unstored, Full as NoRoom}
use Rattle.djq_model.specs.Data.{Bytes}
use Rattle.djq_machine.specs.State.{State}
use Rattle.djq_machine.specs.Step.{closed, stepped}
use Rattle.djq_machine.specs.Run.{Walk, Did, Group, kept_group, groups_of, lines_in, pending_of}
use Rattle.djq_machine.specs.Call.{first_due}
use Rattle.djq_serve.specs.declared.served.Served.{Served}
use Rattle.djq_serve.specs.declared.served.Served.TheVariants.{Stopped, Over, TurnsUsed, HubFault, DiskFault, LogFull}
use Rattle.djq_serve.specs.Server.{Last, next_round, input_over, no_turn, Next, more_lines, round_over, Phase, waiting}
use Rattle.djq_serve.specs.Server.{gathering, running, keeping, flushing, closing, Server, server, Move, all_told, all_done}
use Rattle.djq_serve.specs.Server.{all_logged, Happens, Brings, TakesTurn, RunsOn, RunsAt, is_last, StoredThen, after_round}
use Rattle.djq_serve.specs.Server.{after, first_open, PhasePasses, FlushesAt, ClosesFirst, ServesAt, MakesMove, next_ready}
use Rattle.djq_serve.specs.Ends.{says_lost}
use Rattle.djq_serve.specs.Logged.{IsClose, IsClosed, Unanswered, UnkeptIsSilent}
use Rattle.djq_serve.proofs.Commits.{group_of_one, ends_log, groups_before}

-- ---- What is done from where the server stands, up to an answer that comes of the log.

-- sessions are closed, and nothing else is done
record Closes (moves : List Move) : Type 0 where
  pub told : All IsClose (all_told moves)
  pub done : All (λ (d : Did). IsClosed d.event) (all_done moves)
  pub logged : all_logged moves ≡ []

-- the last group isn't answered
record Loses (moves : List Move) : Type 0 where
  pub last : Group
  pub unanswered : Unanswered last moves

-- What is left of the open commit is run, of which the steps so far logged these groups; and then it can't be logged.
record Drops (groups : List Group) (moves : List Move) : Type 0 where
  pub commit : List Move
  pub behind : List Move
  pub cut : moves ≡ commit ++ behind
  pub quiet : all_told commit ≡ []
  pub closes : Closes behind
  pub logged : all_logged moves ≡ lines_in (groups ++ groups_of (all_done commit)) ∷ []

-- the last group is of a later commit, or of the open one
abbrev LosesFrom : List Group → List Move → Type 0
LosesFrom groups moves = Loses moves ⊎ Drops groups moves

abbrev Follows : Phase → List Move → Type 0
Follows waiting moves = LosesFrom [] moves
Follows (gathering left) moves = LosesFrom [] moves
Follows (running from count groups last) moves = LosesFrom groups moves
Follows (keeping groups next) moves = LosesFrom groups moves
Follows (flushing from next) moves = LosesFrom [] moves
Follows (closing answer) moves = (says_lost answer ≡ true) × Closes moves

phase_follows : (p q : Phase) (moves : List Move) → p ≡ q → Follows p moves → Follows q moves
phase_follows p q moves e f = subst (λ (k : Phase). Follows k moves) e f

passed : (st : State) (p : Phase) (m : Move) (new : Server) (moves : List Move) → PhasePasses st p m new
    → Follows new.phase moves → Follows p moves
passed st p m new moves (none, same) f = phase_follows new.phase p moves (ap (λ (k : Server). k.phase) same) f

-- a move before
loses_more : (m : Move) (moves : List Move) → Loses moves → Loses (m ∷ moves)
loses_more m moves l = record {
  last = l.last;
  unanswered = record {
    before = m ∷ l.unanswered.before;
    commit = l.unanswered.commit;
    behind = l.unanswered.behind;
    cut = ap (λ (ms : List Move). m ∷ ms) l.unanswered.cut;
    keeps = l.unanswered.keeps;
    earlier = ap (λ (gs : List Group). m.logged ++ gs) l.unanswered.earlier
        ∙ sym (append_assoc m.logged (all_logged l.unanswered.before) (l.last ∷ []));
    told = l.unanswered.told;
    done = l.unanswered.done;
  };
}

-- a step of the open commit before
drops_more : (groups groups' : List Group) (m : Move) (moves : List Move) → m.told ≡ [] → m.logged ≡ []
    → groups ++ groups_of m.done ≡ groups' → Drops groups' moves → Drops groups (m ∷ moves)
drops_more groups groups' m moves untold unlogged adds d = record {
  commit = m ∷ d.commit;
  behind = d.behind;
  cut = ap (λ (ms : List Move). m ∷ ms) d.cut;
  quiet = ap₂ (λ (xs ys : List Told). xs ++ ys) untold d.quiet;
  closes = d.closes;
  logged = ap (λ (gs : List Group). gs ++ all_logged moves) unlogged ∙ d.logged
      ∙ ap (λ (gs : List Group). lines_in gs ∷ [])
      (sym (ap (λ (gs : List Group). groups ++ gs) (groups_before m d.commit)
      ∙ sym (append_assoc groups (groups_of m.done) (groups_of (all_done d.commit)))
      ∙ ap (λ (gs : List Group). gs ++ groups_of (all_done d.commit)) adds));
}

-- The open commit is all of the moves, and it has no step yet.
loses_from : (moves : List Move) → LosesFrom [] moves → Loses moves
loses_from moves (inl l) = l
loses_from moves (inr d) = record {
  last = lines_in (groups_of (all_done d.commit));
  unanswered = record {
    before = [];
    commit = d.commit;
    behind = d.behind;
    cut = d.cut;
    keeps = refl;
    earlier = d.logged;
    told = subst (λ (ts : List Told). All IsClose ts)
        (sym (flat_map-append (λ (m : Move). m.told) d.commit d.behind
        ∙ ap (λ (ts : List Told). ts ++ all_told d.behind) d.quiet)) d.closes.told;
    done = d.closes.done;
  };
}

busy : (m : Move) (moves : List Move) → LosesFrom [] moves → LosesFrom [] (m ∷ moves)
busy m moves l = inl (loses_more m moves (loses_from moves l))

-- ---- The moves that close, at the end.

closes_none : Closes []
closes_none = record { told = All-nil IsClose; done = All-nil (λ (d : Did). IsClosed d.event); logged = refl }

-- a session is closed
closes_one : (s : ℕ) (st new : State) (m : Move) (moves : List Move) → m.told ≡ Closing s ∷ [] → m.logged ≡ []
    → Happens (closed s (pending_of st s)) st m.done new → Closes moves → Closes (m ∷ moves)
closes_one s st new m moves told unlogged (e, step, is) c = record {
  told = All-append IsClose m.told (all_told moves)
      (subst (λ (ts : List Told). All IsClose ts) (sym told) (All-cons IsClose (Closing s) [] tt (All-nil IsClose)))
      c.told;
  done = All-append (λ (d : Did). IsClosed d.event) m.done (all_done moves)
      (subst (λ (ds : List Did). All (λ (d : Did). IsClosed d.event) ds) (sym is)
      (All-cons (λ (d : Did). IsClosed d.event) (record { event = closed s (pending_of st s); effect = e }) [] tt
      (All-nil (λ (d : Did). IsClosed d.event)))) c.done;
  logged = ap₂ (λ (xs ys : List Group). xs ++ ys) unlogged c.logged;
}

-- The commit that can't be logged ends here.
group_one : (lines : List Bytes) → (lines ≡ [] → ⊥) → grouped lines ≡ lines ∷ []
group_one [] some = absurd (some refl)
group_one (l ∷ lines) some = refl

drops_here : (groups : List Group) (m : Move) (moves : List Move) → m.told ≡ [] → m.done ≡ []
    → m.logged ≡ grouped (lines_in groups) → (lines_in groups ≡ [] → ⊥) → Closes moves → Drops groups (m ∷ moves)
drops_here groups m moves untold undone logged some c = record {
  commit = m ∷ [];
  behind = moves;
  cut = refl;
  quiet = append-nil m.told ∙ untold;
  closes = c;
  logged = ap₂ (λ (xs ys : List Group). xs ++ ys) (logged ∙ group_one (lines_in groups) some) c.logged
      ∙ ap (λ (gs : List Group). lines_in gs ∷ [])
      (sym (ap (λ (ds : List Did). groups ++ groups_of ds) (append-nil m.done ∙ undone) ∙ append-nil groups));
}

-- ---- Each move.

turn_loses : (left : ℕ) (turn : Turn) (piece : Bytes) (st : State) (more : List Told) (done : List Did) (new : State)
    (next : Phase) (moves : List Move) → Brings left turn piece st more done new next → Follows next moves
    → LosesFrom [] moves
turn_loses left (Opened s class) piece st more done new next moves (happens, lets, phase) f =
    phase_follows next (gathering left) moves phase f
turn_loses left (Brought s n) piece st more done new next moves (happens, none, phase, is) f =
    phase_follows next (gathering left) moves phase f
turn_loses left (Ended s) piece st more done new next moves (stays, none, phase) f =
    phase_follows next (running 0 0 [] (input_over s)) moves phase f
turn_loses left Idle piece st more done new next moves (stays, none, phase) f =
    phase_follows next (gathering left) moves phase f
turn_loses left HubOver piece st more done new next moves (stays, none, phase) f =
    phase_follows next (running 0 0 [] no_turn) moves phase f
turn_loses left Failed piece st more done new next moves (stays, none, phase) f =
    absurd (false≢true (phase_follows next (closing HubFault) moves phase f).0)

taking_loses : (left : ℕ) (st : State) (m : Move) (new : Server) (moves : List Move) → TakesTurn left st m new
    → Follows new.phase moves → LosesFrom [] (m ∷ moves)
taking_loses left st m new moves (turn, piece, more, is, unlogged, brings) f =
    busy m moves (turn_loses left turn piece st more m.done new.state new.phase moves brings f)

open_more : (groups groups' : List Group) (m : Move) (moves : List Move) → m.told ≡ [] → m.logged ≡ []
    → groups ++ groups_of m.done ≡ groups' → LosesFrom groups' moves → LosesFrom groups (m ∷ moves)
open_more groups groups' m moves untold unlogged adds (inl l) = inl (loses_more m moves l)
open_more groups groups' m moves untold unlogged adds (inr d) =
    inr (drops_more groups groups' m moves untold unlogged adds d)

runs_on : (s count : ℕ) (groups : List Group) (last : Last) (p : Phase) (moves : List Move)
    → RunsOn s count groups last p → Follows p moves → LosesFrom groups moves
runs_on s count groups last p moves (inl (few, phase)) f =
    phase_follows p (running (s + 1) (count + 1) groups last) moves phase f
runs_on s count groups last p moves (inr phase) f =
    phase_follows p (keeping groups (more_lines (s + 1) last)) moves phase f

lines_lose : (count : ℕ) (groups : List Group) (last : Last) (st : State) (m : Move) (new : Server)
    (moves : List Move) (o : Option ℕ) → RunsAt count groups last st m new o → Follows new.phase moves
    → LosesFrom groups (m ∷ moves)
lines_lose count groups last st m new moves (Some s) (untold, unlogged, outcome, happens, on) f =
    let all = groups ++ kept_group (stepped s outcome) (happens.0).kept in
    open_more groups all m moves untold unlogged
    (ap (λ (gs : List Group). groups ++ gs) (group_of_one (stepped s outcome) st new.state m.done happens))
    (runs_on s count all last new.phase moves on f)
lines_lose count groups last st m new moves None (untold, unlogged, ends, phase) f =
    open_more groups groups m moves untold unlogged
    (ap (λ (gs : List Group). groups ++ gs) (ends_log last st m.done new.state ends) ∙ append-nil groups)
    (phase_follows new.phase (keeping groups (round_over (is_last last))) moves phase f)

stored_loses : (k : Kept) (groups : List Group) (next : Next) (m : Move) (p : Phase) (moves : List Move) → m.told ≡ []
    → m.done ≡ [] → m.logged ≡ grouped (lines_in groups) → StoredThen k groups next p → Follows p moves
    → LosesFrom groups (m ∷ moves)
stored_loses Stored groups next m p moves untold undone logged phase f =
    inl (loses_more m moves (loses_from moves (phase_follows p (flushing 0 next) moves phase f)))
stored_loses Unstored groups next m p moves untold undone logged (some, phase) f =
    inr (drops_here groups m moves untold undone logged some (phase_follows p (closing DiskFault) moves phase f).1)
stored_loses NoRoom groups next m p moves untold undone logged (some, phase) f =
    inr (drops_here groups m moves untold undone logged some (phase_follows p (closing LogFull) moves phase f).1)

-- after a flush serving goes on, or ends not at the log
round_loses : (stopped over : Bool) (moves : List Move) → Follows (after_round stopped over) moves → LosesFrom [] moves
round_loses true over moves f = absurd (false≢true f.0)
round_loses false true moves f = absurd (false≢true f.0)
round_loses false false moves f = f

after_loses : (next : Next) (st : State) (moves : List Move) → Follows (after st next) moves → LosesFrom [] moves
after_loses (more_lines from last) st moves f = f
after_loses (round_over over) st moves f = round_loses st.stopped over moves f

flush_loses : (next : Next) (st : State) (m : Move) (new : Server) (moves : List Move) (o : Option ℕ)
    → FlushesAt next st m new o → Follows new.phase moves → LosesFrom [] (m ∷ moves)
flush_loses next st m new moves None passes f =
    busy m moves (after_loses next st moves (passed st (after st next) m new moves passes f))
flush_loses next st m new moves (Some s) (unlogged, to, visits, phase) f =
    busy m moves (phase_follows new.phase (flushing to next) moves phase f)

close_follows : (answer : Served) (st : State) (m : Move) (new : Server) (moves : List Move) (o : Option ℕ)
    → ClosesFirst answer st m new o → Follows new.phase moves → Follows (closing answer) (m ∷ moves)
close_follows answer st m new moves None none f = absurd none
close_follows answer st m new moves (Some s) (told, unlogged, happens, phase) f =
    let closes = phase_follows new.phase (closing answer) moves phase f in
    (closes.0, closes_one s st new.state m moves told unlogged happens closes.1)

move_follows : (most : ℕ) (p : Phase) (st : State) (m : Move) (new : Server) (moves : List Move)
    → ServesAt most p st m new → Follows new.phase moves → Follows p (m ∷ moves)
move_follows most waiting st m new moves (inl passes) f =
    absurd (false≢true (passed st (closing TurnsUsed) m new moves passes f).0)
move_follows most waiting st m new moves (inr taking) f = taking_loses (most - 1) st m new moves taking f
move_follows most (gathering left) st m new moves (inl passes) f =
    busy m moves (passed st (running 0 0 [] next_round) m new moves passes f)
move_follows most (gathering left) st m new moves (inr (some, taking)) f =
    taking_loses (left - 1) st m new moves taking f
move_follows most (running from count groups last) st m new moves g f =
    lines_lose count groups last st m new moves (next_ready st from) g f
move_follows most (keeping groups next) st m new moves (untold, undone, logged, same, stored) f =
    stored_loses m.stored groups next m new.phase moves untold undone logged stored f
move_follows most (flushing from next) st m new moves g f = flush_loses next st m new moves (first_due st from) g f
move_follows most (closing answer) st m new moves g f = close_follows answer st m new moves (first_open st) g f

walk_follows : (most : ℕ) (old : Server) (moves : List Move) (new : State) (answer : Served) → says_lost answer ≡ true
    → Walk (MakesMove most) old moves (server new (closing answer)) → Follows old.phase moves
walk_follows most old [] new answer lost w =
    phase_follows (closing answer) old.phase [] (ap (λ (k : Server). k.phase) w) (lost, closes_none)
walk_follows most old (m ∷ moves) new answer lost w =
    move_follows most old.phase old.state m w.0 moves w.1.0 (walk_follows most w.0 moves new answer lost w.2)

-- ---- The group that isn't answered is the last.

abbrev last_in : List Group → Option Group
last_in [] = None
last_in (g ∷ []) = Some g
last_in (g ∷ h ∷ gs) = last_in (h ∷ gs)

last_push : (gs : List Group) (g : Group) → last_in (gs ++ g ∷ []) ≡ Some g
last_push [] g = refl
last_push (h ∷ []) g = refl
last_push (h ∷ i ∷ gs) g = last_push (i ∷ gs) g

inside : (g h : Group) → Some g ≡ Some h → g ≡ h
inside g h e = cc

is_unanswered : (moves : List Move) → Loses moves → (whole : List Group) (last : Group)
    → all_logged moves ≡ whole ++ last ∷ [] → Unanswered last moves
is_unanswered moves l whole last is =
    subst (λ (g : Group). Unanswered g moves)
    (inside l.last last (sym (last_push (all_logged l.unanswered.before) l.last)
    ∙ ap last_in (sym l.unanswered.earlier ∙ is) ∙ last_push whole last))
    l.unanswered

lost_is_silent : (most : ℕ) (old : State) (moves : List Move) (new : State) (answer : Served) → says_lost answer ≡ true
    → Walk (MakesMove most) (server old waiting) moves (server new (closing answer)) → (whole : List Group)
    (last : Group) → all_logged moves ≡ whole ++ last ∷ [] → Unanswered last moves
lost_is_silent most old moves new answer lost w whole last is =
    is_unanswered moves (loses_from moves (walk_follows most (server old waiting) moves new answer lost w)) whole last
    is

-- What isn't logged isn't answered.
pub serve_unanswered : (most : ℕ) (answer : Served) (old : State) (moves : List Move) (new : State)
    → Walk (MakesMove most) (server old waiting) moves (server new (closing answer)) → UnkeptIsSilent answer moves
serve_unanswered most DiskFault old moves new w whole last is =
    lost_is_silent most old moves new DiskFault refl w whole last is
serve_unanswered most LogFull old moves new w whole last is =
    lost_is_silent most old moves new LogFull refl w whole last is
serve_unanswered most Stopped old moves new w whole last is = tt
serve_unanswered most Over old moves new w whole last is = tt
serve_unanswered most TurnsUsed old moves new w whole last is = tt
serve_unanswered most HubFault old moves new w whole last is = tt
