-- Between two lines of one session each other session that has a line runs one.
use Rattle.std.specs.Prelude.{ℕ, List, [], ◌∷◌, ◌++◌, ◌==◌, ◌≡◌, ◌≢◌, ◌⊎◌, ◌||◌, ◌+◌, ◌-◌, ◌<◌, Bool, true, false}
use Rattle.std.specs.Prelude.{Option, None, Some, take, map, AllPairs}
use Rattle.std.specs.List.{list_any}
use Rattle.std.proofs.Common.{refl, sym, ap, ap₂, ◌∙◌, subst, inl, inr, arith}
use Rattle.std.proofs.lemmas.Bool.{eqb-true, eq-eqb, ne_eqb, both_ways, false≢true}
use Rattle.std.proofs.lemmas.List.Sums.{sum_by-append, sum_by-cons}
use Rattle.djq_io.specs.declared.hub.Turn.{Turn}
use Rattle.djq_io.specs.declared.hub.Turn.TheVariants.{Opened, Bytes as Brought}
use Rattle.djq_io.specs.declared.hub.Sent.{Sent}
use Rattle.djq_io.specs.declared.hub.Sent.TheVariants.{Took, Again, Gone}
use Rattle.djq_io.specs.declared.hub.Told.{Told}
use Rattle.djq_io.specs.declared.hub.Told.TheVariants.{Turning, Sending, Closing}
use Rattle.djq_log.specs.declared.log.Kept.{Kept}
use Rattle.djq_log.specs.declared.log.Kept.TheVariants.{All as Stored, Failed as Unstored, Full as NoRoom}
use Rattle.djq_model.specs.Data.{Bytes}
use Rattle.djq_machine.specs.State.{State, Session}
use Rattle.djq_machine.specs.Step.{Event, took, closed}
use Rattle.djq_machine.specs.Run.{Walk, Did, Group, pending_of}
use Rattle.djq_machine.specs.Call.{first_due, may_run}
use Rattle.djq_run_laws.specs.Rising.{AreRising}
use Rattle.djq_run_laws.proofs.Sessions.{ids_rise}
use Rattle.djq_serve.specs.declared.served.Served.{Served}
use Rattle.djq_serve.specs.declared.served.Served.TheVariants.{TurnsUsed, DiskFault, LogFull}
use Rattle.djq_serve.specs.Told.{turn_in, turns_in}
use Rattle.djq_serve.specs.Server.{Last, next_round, Next, more_lines, round_over, Phase, waiting, gathering, running}
use Rattle.djq_serve.specs.Server.{keeping, flushing, closing, Server, server, Move, all_told, all_done, Happens, Stays}
use Rattle.djq_serve.specs.Server.{TakesTurn, RunsOn, RunsAt, is_last, StoredThen, SendsSome, Visits, after_round, after, first_open}
use Rattle.djq_serve.specs.Server.{PhasePasses, FlushesAt, ClosesFirst, ServesAt, MakesMove, next_ready}
use Rattle.djq_serve.specs.Fair.{is_line_of, runs_line, RunsFairly}
use Rattle.djq_serve.proofs.ReadySessions.{may_parts, next_none, none_may, IsAhead, ahead_behind, pick_is_ahead}
use Rattle.djq_serve.proofs.ReadySessions.{line_calm, took_calm, ended_calm, closed_calm}
use Rattle.djq_serve.proofs.Lawful.{OfMove, of_move, serve_runs}

-- ---- What a move does that is no turn.

-- a turn counts
pub some_turn : (turn : Turn) (piece : Bytes) (more : List Told) → turns_in (Turning turn piece ∷ more) ≡ 0 → ⊥
some_turn turn piece more none = absurd (omega (arith, sum_by-cons turn_in (Turning turn piece) more, none))

or_left : (b : Bool) → (b || false) ≡ false → b ≡ false
or_left true e = e
or_left false e = e

or_true : (b : Bool) → (b || false) ≡ true → b ≡ true
or_true true e = e
or_true false e = e

-- whether steps run a line of a session
abbrev pub has_line : ℕ → List Did → Bool
has_line s done = list_any (λ (d : Did). is_line_of s d.event) done

-- A move that is no turn, and runs no line of a session, leaves it no line that it hadn't.
abbrev pub MoveCalms : ℕ → State → List Told → List Did → State → Type 0
MoveCalms t st told done new = turns_in told ≡ 0 → has_line t done ≡ false → may_run new t ≡ true
    → may_run st t ≡ true

pub calms_by : (t : ℕ) → OfMove (MoveCalms t)
calms_by t = record {
  quiet = λ st none unrun may. may;
  opens = λ st new s class piece e step none unrun may. absurd (some_turn (Opened s class) piece [] none);
  refuses = λ st new s offered class piece taken sent e step none unrun may.
      absurd (some_turn (Opened s class) piece (Sending s offered sent taken ∷ Closing s ∷ []) none);
  feeds = λ st new s n piece e step none unrun may. absurd (some_turn (Brought s n) piece [] none);
  idles = λ st turn piece unopened none unrun may. may;
  runs = λ st new s outcome e ready step none unrun may.
      line_calm t s outcome st e new step (or_left (s == t) unrun) (may_parts st s ready).going may;
  ends = λ st new s e step none unrun may. ended_calm t s st e new step may;
  takes = λ st new s offered n piece e step none unrun may. took_calm t s piece st e new step may;
  blocked = λ st s offered none unrun may. may;
  gone = λ st new s offered bytes e step none unrun may. closed_calm t s bytes st e new step may;
  closes = λ st new s bytes e step none unrun may. closed_calm t s bytes st e new step may;
}

-- A move that runs a line is no turn.
abbrev MoveTurnless : ℕ → State → List Told → List Did → State → Type 0
MoveTurnless s st told done new = has_line s done ≡ true → turns_in told ≡ 0

turnless_by : (s : ℕ) → OfMove (MoveTurnless s)
turnless_by s = record {
  quiet = λ st line. refl;
  opens = λ st new u class piece e step line. absurd (false≢true line);
  refuses = λ st new u offered class piece taken sent e step line. absurd (false≢true line);
  feeds = λ st new u n piece e step line. absurd (false≢true line);
  idles = λ st turn piece unopened line. absurd (false≢true line);
  runs = λ st new u outcome e ready step line. refl;
  ends = λ st new u e step line. refl;
  takes = λ st new u offered n piece e step line. refl;
  blocked = λ st u offered line. refl;
  gone = λ st new u offered bytes e step line. refl;
  closes = λ st new u bytes e step line. refl;
}

-- A move runs lines of one session at most.
abbrev MoveRunsOne : ℕ → ℕ → State → List Told → List Did → State → Type 0
MoveRunsOne s t st told done new = has_line s done ≡ true → has_line t done ≡ true → s ≡ t

one_by : (s t : ℕ) → OfMove (MoveRunsOne s t)
one_by s t = record {
  quiet = λ st one two. absurd (false≢true one);
  opens = λ st new u class piece e step one two. absurd (false≢true one);
  refuses = λ st new u offered class piece taken sent e step one two. absurd (false≢true one);
  feeds = λ st new u n piece e step one two. absurd (false≢true one);
  idles = λ st turn piece unopened one two. absurd (false≢true one);
  runs = λ st new u outcome e ready step one two.
      sym (eqb-true u s (or_true (u == s) one)) ∙ eqb-true u t (or_true (u == t) two);
  ends = λ st new u e step one two. absurd (false≢true one);
  takes = λ st new u offered n piece e step one two. absurd (false≢true one);
  blocked = λ st u offered one two. absurd (false≢true one);
  gone = λ st new u offered bytes e step one two. absurd (false≢true one);
  closes = λ st new u bytes e step one two. absurd (false≢true one);
}

-- ---- What several moves do.

-- the turns of a move and of those after it
pub turns_parted : (m : Move) (moves : List Move) → turns_in (all_told (m ∷ moves)) ≡ 0
    → (turns_in m.told ≡ 0) × (turns_in (all_told moves) ≡ 0)
turns_parted m moves none =
    let sum = sum_by-append turn_in m.told (all_told moves) in
    (omega (arith, sum, none), omega (arith, sum, none))

pub rises : (most : ℕ) (old : Server) (moves : List Move) (new : Server) → Walk (MakesMove most) old moves new
    → AreRising old.state → AreRising new.state
rises most old moves new w rising = ids_rise old.state (all_done moves) new.state (serve_runs most old moves new w)
    rising

pub none_rise : (st : State) → st.sessions ≡ [] → AreRising st
none_rise st alone =
    subst (λ (is : List ℕ). AllPairs (λ i j. i < j) is) (sym (ap (λ (xs : List Session). map (λ (x : Session). x.id) xs)
    alone)) (λ i j d less within. absurd (omega (arith, within)))

-- A session of which a line may be run after moves without a turn had one before, or one was run.
has_earlier : (most t : ℕ) (old : Server) (moves : List Move) (new : Server) → Walk (MakesMove most) old moves new
    → turns_in (all_told moves) ≡ 0 → may_run new.state t ≡ true
    → (list_any (runs_line t) moves ≡ true) ⊎ (may_run old.state t ≡ true)
has_earlier most t old [] new w none may = inr (subst (λ (k : Server). may_run k.state t ≡ true) w may)
has_earlier most t old (m ∷ moves) new w none may =
    at (runs_line t m) refl (has_earlier most t w.0 moves new w.2 (turns_parted m moves none).1 may)
  where
    at : (b : Bool) → runs_line t m ≡ b → (list_any (runs_line t) moves ≡ true) ⊎ (may_run (w.0).state t ≡ true)
        → (list_any (runs_line t) (m ∷ moves) ≡ true) ⊎ (may_run old.state t ≡ true)
    at true line rest = inl (ap (λ (b : Bool). b || list_any (runs_line t) moves) line)
    at false unrun (inl later) = inl (ap₂ (λ (a b : Bool). a || b) unrun later)
    at false unrun (inr had) =
        inr (of_move (MoveCalms t) (calms_by t) most old m w.0 w.1 (turns_parted m moves none).0 unrun had)

-- ---- Where a session is ahead.

-- what follows a commit of a round in which a line of s was run, and t is ahead
abbrev pub AheadNext : ℕ → ℕ → Next → Type 0
AheadNext s t (more_lines from last) = IsAhead s t from
AheadNext s t (round_over over) = Unit {0}

-- where the server stands after a line of s, and t is ahead: before any further line there is a turn, where the
-- round has no more
abbrev pub AheadAt : ℕ → ℕ → Phase → Type 0
AheadAt s t waiting = Unit {0}
AheadAt s t (gathering left) = ⊥
AheadAt s t (running from count groups last) = IsAhead s t from
AheadAt s t (keeping groups next) = AheadNext s t next
AheadAt s t (flushing from next) = AheadNext s t next
AheadAt s t (closing answer) = Unit {0}

phase_ahead : (s t : ℕ) (p q : Phase) → q ≡ p → AheadAt s t p → AheadAt s t q
phase_ahead s t p q e c = subst (λ (k : Phase). AheadAt s t k) (sym e) c

-- after a line
on_ahead : (s t u count : ℕ) (groups : List Group) (last : Last) (p : Phase) → RunsOn u count groups last p
    → IsAhead s t (u + 1) → AheadAt s t p
on_ahead s t u count groups last p (inl (few, phase)) ahead =
    phase_ahead s t (running (u + 1) (count + 1) groups last) p phase ahead
on_ahead s t u count groups last p (inr phase) ahead =
    phase_ahead s t (keeping groups (more_lines (u + 1) last)) p phase ahead

-- after the log was asked, and after a flush
stored_ahead : (s t : ℕ) (k : Kept) (groups : List Group) (next : Next) (p : Phase) → StoredThen k groups next p
    → AheadNext s t next → AheadAt s t p
stored_ahead s t Stored groups next p phase c = phase_ahead s t (flushing 0 next) p phase c
stored_ahead s t Unstored groups next p (some, phase) c = phase_ahead s t (closing DiskFault) p phase tt
stored_ahead s t NoRoom groups next p (some, phase) c = phase_ahead s t (closing LogFull) p phase tt

after_ahead : (s t : ℕ) (st : State) (next : Next) → AheadNext s t next → AheadAt s t (after st next)
after_ahead s t st (more_lines from last) c = c
after_ahead s t st (round_over over) c = at st.stopped over
  where
    at : (stopped over : Bool) → AheadAt s t (after_round stopped over)
    at true over = tt
    at false true = tt
    at false false = tt

-- ---- Moves that run no line of a session.

happens_unrun : (s : ℕ) (event : Event) (st new : State) (done : List Did) → is_line_of s event ≡ false
    → Happens event st done new → has_line s done ≡ false
happens_unrun s event st new done other (e, step, is) =
    ap (has_line s) is ∙ ap (λ (b : Bool). b || false) other

stays_unrun : (s : ℕ) (st new : State) (done : List Did) → Stays st done new → has_line s done ≡ false
stays_unrun s st new done (none, same) = ap (has_line s) none

passes_unrun : (s : ℕ) (st : State) (p : Phase) (m : Move) (new : Server) → PhasePasses st p m new
    → runs_line s m ≡ false
passes_unrun s st p m new (none, same) = ap (runs_line s) none

sends_unrun : (t : ℕ) (sent : Sent) (s : ℕ) (st : State) (told : List Told) (done : List Did) (new : State)
    → SendsSome sent s st told done new → has_line t done ≡ false
sends_unrun t (Took n) s st told done new (some, within, is, happens) =
    happens_unrun t (took s (take n (pending_of st s))) st new done refl happens
sends_unrun t Again s st told done new (is, stays) = stays_unrun t st new done stays
sends_unrun t Gone s st told done new (is, happens) =
    happens_unrun t (closed s (pending_of st s)) st new done refl happens

visit_unrun : (t s : ℕ) (st : State) (told : List Told) (done : List Did) (new : State) (to : ℕ)
    → Visits s st told done new to → has_line t done ≡ false
visit_unrun t s st told done new to (inl (some, sent, sends, place)) = sends_unrun t sent s st told done new sends
visit_unrun t s st told done new to (inr (none, cause, (is, happens), place)) =
    happens_unrun t (closed s []) st new done refl happens

-- ---- Each move, where a session is ahead.

-- a line of t is run; or none of s, and t stays ahead

abbrev StaysAhead : ℕ → ℕ → Move → Phase → Type 0
StaysAhead s t m p = (runs_line t m ≡ true) ⊎ ((runs_line s m ≡ false) × AheadAt s t p)

line_ahead : (s t from count : ℕ) (groups : List Group) (last : Last) (st : State) (m : Move) (new : Server)
    (o : Option ℕ) → next_ready st from ≡ o → RunsAt count groups last st m new o → AreRising st
    → may_run st t ≡ true → s ≢ t → IsAhead s t from → StaysAhead s t m new.phase
line_ahead s t from count groups last st m new None next g rising may other ahead =
    absurd (both_ways (may_run st t) (none_may st rising (next_none st from next) t) may)
line_ahead s t from count groups last st m new (Some u) next (none, unlogged, outcome, happens, on) rising may other
    ahead = at (u == t) refl
  where
    line_of : (v : ℕ) (b : Bool) → (u == v) ≡ b → runs_line v m ≡ b
    line_of v b e = ap (has_line v) happens.2 ∙ ap (λ (c : Bool). c || false) e ∙ or_false b
      where
        or_false : (c : Bool) → (c || false) ≡ c
        or_false true = refl
        or_false false = refl

    at : (b : Bool) → (u == t) ≡ b → StaysAhead s t m new.phase
    at true same = inl (line_of t true same)
    at false unserved =
        let k = pick_is_ahead st s t from u rising may other (λ e. both_ways (u == t) unserved (eq-eqb u t e)) ahead
        next in
        inr (line_of s false (ne_eqb u s k.0), on_ahead s t u count _ last new.phase on k.1)

flush_ahead : (s t : ℕ) (next : Next) (st : State) (m : Move) (new : Server) (o : Option ℕ)
    → FlushesAt next st m new o → AheadNext s t next → StaysAhead s t m new.phase
flush_ahead s t next st m new None passes c =
    inr (
      passes_unrun s st (after st next) m new passes,
      phase_ahead s t (after st next) new.phase (ap (λ (k : Server). k.phase) passes.1) (after_ahead s t st next c),
    )
flush_ahead s t next st m new (Some u) (unlogged, to, visits, phase) c =
    inr (
      visit_unrun s u st m.told m.done new.state to visits,
      phase_ahead s t (flushing to next) new.phase phase c,
    )

close_ahead : (s t : ℕ) (answer : Served) (st : State) (m : Move) (new : Server) (o : Option ℕ)
    → ClosesFirst answer st m new o → StaysAhead s t m new.phase
close_ahead s t answer st m new None none = absurd none
close_ahead s t answer st m new (Some u) (is, unlogged, happens, phase) =
    inr (
      happens_unrun s (closed u (pending_of st u)) st new.state m.done refl happens,
      phase_ahead s t (closing answer) new.phase phase tt,
    )

-- there is no turn where none is counted
no_taking : (left : ℕ) (st : State) (m : Move) (new : Server) → TakesTurn left st m new → turns_in m.told ≡ 0 → ⊥
no_taking left st m new (turn, piece, more, is, unlogged, brings) none =
    some_turn turn piece more (sym (ap turns_in is) ∙ none)

move_ahead : (most s t : ℕ) (p : Phase) (st : State) (m : Move) (new : Server) → ServesAt most p st m new
    → turns_in m.told ≡ 0 → AreRising st → may_run st t ≡ true → s ≢ t → AheadAt s t p → StaysAhead s t m new.phase
move_ahead most s t waiting st m new (inl passes) none rising may other c =
    inr (
      passes_unrun s st (closing TurnsUsed) m new passes,
      phase_ahead s t (closing TurnsUsed) new.phase (ap (λ (k : Server). k.phase) passes.1) tt,
    )
move_ahead most s t waiting st m new (inr taking) none rising may other c =
    absurd (no_taking (most - 1) st m new taking none)
move_ahead most s t (gathering left) st m new g none rising may other c = absurd c
move_ahead most s t (running from count groups last) st m new g none rising may other c =
    line_ahead s t from count groups last st m new (next_ready st from) refl g rising may other c
move_ahead most s t (keeping groups next) st m new (untold, undone, logged, same, stored) none rising may other c =
    inr (ap (has_line s) undone, stored_ahead s t m.stored groups next new.phase stored c)
move_ahead most s t (flushing from next) st m new g none rising may other c =
    flush_ahead s t next st m new (first_due st from) g c
move_ahead most s t (closing answer) st m new g none rising may other c =
    close_ahead s t answer st m new (first_open st) g

-- the first of the two lines
line_begins : (s t count : ℕ) (groups : List Group) (last : Last) (st : State) (m : Move) (new : Server) (o : Option ℕ)
    → RunsAt count groups last st m new o → runs_line s m ≡ true → AheadAt s t new.phase
line_begins s t count groups last st m new (Some u) (none, unlogged, outcome, happens, on) line =
    let same : u ≡ s = eqb-true u s (or_true (u == s) (sym (ap (has_line s) happens.2) ∙ line)) in
    on_ahead s t u count _ last new.phase on (subst (λ (v : ℕ). IsAhead s t (v + 1)) (sym same) (ahead_behind s t))
line_begins s t count groups last st m new None (none, unlogged, ends, phase) line =
    phase_ahead s t (keeping groups (round_over (is_last last))) new.phase phase tt

unrun : {A : Type 0} (s : ℕ) (m : Move) → runs_line s m ≡ false → runs_line s m ≡ true → A
unrun s m unran line = absurd (both_ways (runs_line s m) unran line)

flush_unrun : (s : ℕ) (next : Next) (st : State) (m : Move) (new : Server) (o : Option ℕ)
    → FlushesAt next st m new o → runs_line s m ≡ false
flush_unrun s next st m new None passes = passes_unrun s st (after st next) m new passes
flush_unrun s next st m new (Some u) (unlogged, to, visits, phase) =
    visit_unrun s u st m.told m.done new.state to visits

close_unrun : (s : ℕ) (answer : Served) (st : State) (m : Move) (new : Server) (o : Option ℕ)
    → ClosesFirst answer st m new o → runs_line s m ≡ false
close_unrun s answer st m new None none = absurd none
close_unrun s answer st m new (Some u) (is, unlogged, happens, phase) =
    happens_unrun s (closed u (pending_of st u)) st new.state m.done refl happens

begins_ahead : (most s t : ℕ) (p : Phase) (st : State) (m : Move) (new : Server) → ServesAt most p st m new
    → turns_in m.told ≡ 0 → runs_line s m ≡ true → AheadAt s t new.phase
begins_ahead most s t waiting st m new (inl passes) none line =
    unrun s m (passes_unrun s st (closing TurnsUsed) m new passes) line
begins_ahead most s t waiting st m new (inr taking) none line = absurd (no_taking (most - 1) st m new taking none)
begins_ahead most s t (gathering left) st m new (inl passes) none line =
    unrun s m (passes_unrun s st (running 0 0 [] next_round) m new passes) line
begins_ahead most s t (gathering left) st m new (inr (some, taking)) none line =
    absurd (no_taking (left - 1) st m new taking none)
begins_ahead most s t (running from count groups last) st m new g none line =
    line_begins s t count groups last st m new (next_ready st from) g line
begins_ahead most s t (keeping groups next) st m new (untold, undone, logged, same, stored) none line =
    unrun s m (ap (has_line s) undone) line
begins_ahead most s t (flushing from next) st m new g none line =
    unrun s m (flush_unrun s next st m new (first_due st from) g) line
begins_ahead most s t (closing answer) st m new g none line =
    unrun s m (close_unrun s answer st m new (first_open st) g) line

-- ---- All moves between the two lines.

stays_ahead : (most s t : ℕ) (old : Server) (moves : List Move) (new : Server) → Walk (MakesMove most) old moves new
    → turns_in (all_told moves) ≡ 0 → AreRising old.state → may_run new.state t ≡ true → s ≢ t → AheadAt s t old.phase
    → (list_any (runs_line t) moves ≡ true) ⊎ AheadAt s t new.phase
stays_ahead most s t old [] new w none rising may other c =
    inr (subst (λ (k : Server). AheadAt s t k.phase) (sym w) c)
stays_ahead most s t old (m ∷ moves) new w none rising may other c =
    at (has_earlier most t old (m ∷ moves) new w none may)
    (λ r k. stays_ahead most s t w.0 moves new w.2 (turns_parted m moves none).1 r may other k)
  where
    rest : Type 0
    rest = (list_any (runs_line t) moves ≡ true) ⊎ AheadAt s t new.phase

    goal : Type 0
    goal = (list_any (runs_line t) (m ∷ moves) ≡ true) ⊎ AheadAt s t new.phase

    later : (b : Bool) → runs_line t m ≡ b → rest → goal
    later true line r = inl (ap (λ (a : Bool). a || list_any (runs_line t) moves) line)
    later false unran (inl line) = inl (ap₂ (λ (a b : Bool). a || b) unran line)
    later false unran (inr k) = inr k

    on : StaysAhead s t m (w.0).phase → (AreRising (w.0).state → AheadAt s t (w.0).phase → rest) → goal
    on (inl line) further = inl (ap (λ (a : Bool). a || list_any (runs_line t) moves) line)
    on (inr (unran, k)) further =
        later (runs_line t m) refl (further (rises most old (m ∷ []) w.0 (w.0, w.1, refl) rising) k)

    at : (list_any (runs_line t) (m ∷ moves) ≡ true) ⊎ (may_run old.state t ≡ true)
        → (AreRising (w.0).state → AheadAt s t (w.0).phase → rest) → goal
    at (inl line) further = inl line
    at (inr had) further =
        on (move_ahead most s t old.phase old.state m w.0 w.1.0 (turns_parted m moves none).0 rising had other c)
        further

-- a walk over two lists
pub walk_parts : (most : ℕ) (old : Server) (xs ys : List Move) (new : Server) → Walk (MakesMove most) old (xs ++ ys) new
    → (mid : Server) × Walk (MakesMove most) old xs mid × Walk (MakesMove most) mid ys new
walk_parts most old [] ys new w = (old, refl, w)
walk_parts most old (m ∷ xs) ys new w =
    let k = walk_parts most w.0 xs ys new w.2 in (k.0, (w.0, w.1, k.1), k.2)

-- Between two lines of one session each other session that has a line, as the second is run, runs one.
pub serve_fair : (most : ℕ) (old : State) (moves : List Move) (new : Server) → old.sessions ≡ []
    → RunsFairly most (server old waiting) moves new
serve_fair most old moves new alone before one mid two later at cut w v s r t other may =
    let parts = walk_parts most (server old waiting) before (one ∷ mid) at w in
    let from : Server = parts.0 in
    let next : Server = parts.2.0 in
    let rising = rises most (server old waiting) before from parts.1 (none_rise old alone) in
    let apart : s ≢ t = λ e. other (sym e) in
    let start = begins_ahead most s t from.phase from.state one next parts.2.1.0
    (of_move (MoveTurnless s) (turnless_by s) most from one next parts.2.1 r.first) r.first in
    ends apart (stays_ahead most s t next mid at parts.2.2 r.one_round
    (rises most from (one ∷ []) next (next, parts.2.1, refl) rising) may apart start)
    (λ c. move_ahead most s t at.phase at.state two v.0 v.1.0
    (of_move (MoveTurnless s) (turnless_by s) most at two v.0 v.1 r.second)
    (rises most (server old waiting) (before ++ one ∷ mid) at w (none_rise old alone)) may apart c)
  where
    ends : s ≢ t → (list_any (runs_line t) mid ≡ true) ⊎ AheadAt s t at.phase
        → (AheadAt s t at.phase → StaysAhead s t two (v.0).phase) → list_any (runs_line t) mid ≡ true
    ends apart (inl line) second = line
    ends apart (inr c) second = by (second c)
      where
        by : StaysAhead s t two (v.0).phase → list_any (runs_line t) mid ≡ true
        by (inl line) = absurd (apart (of_move (MoveRunsOne s t) (one_by s t) most at two v.0 v.1 r.second line))
        by (inr (unran, k)) = absurd (both_ways (runs_line s two) unran r.second)
