-- No line waits for a round; and where a round has one turn, each begins a round.
use Rattle.std.specs.Prelude.{ℕ, List, [], ◌∷◌, ◌≡◌, ◌+◌, ◌-◌, ◌<◌, ◌≤◌, ◌==◌, Bool, true, false, Option, None, Some}
use Rattle.std.specs.Prelude.{IsSome, find, take}
use Rattle.std.proofs.Common.{refl, sym, ap, subst, inl, inr, arith}
use Rattle.std.proofs.lemmas.Bool.{both_ways, false≢true}
use Rattle.djq_io.specs.declared.hub.Turn.{Turn}
use Rattle.djq_io.specs.declared.hub.Turn.TheVariants.{Opened, Bytes as Brought, Ended, Idle, Over as HubOver, Failed}
use Rattle.djq_io.specs.declared.hub.Sent.{Sent}
use Rattle.djq_io.specs.declared.hub.Sent.TheVariants.{Took, Again, Gone}
use Rattle.djq_io.specs.declared.hub.Told.{Told}
use Rattle.djq_log.specs.declared.log.Kept.{Kept}
use Rattle.djq_log.specs.declared.log.Kept.TheVariants.{All as Stored, Failed as Unstored, Full as NoRoom}
use Rattle.djq_model.specs.Data.{Bytes}
use Rattle.djq_machine.specs.State.{State, Session, session_of}
use Rattle.djq_machine.specs.Run.{Walk, Did, Group, pending_of}
use Rattle.djq_machine.specs.Call.{first_due, may_run}
use Rattle.djq_run_laws.specs.Rising.{AreRising}
use Rattle.djq_serve.specs.declared.served.Served.{Served}
use Rattle.djq_serve.specs.declared.served.Served.TheVariants.{TurnsUsed, HubFault, DiskFault, LogFull}
use Rattle.djq_serve.specs.Told.{turns_in}
use Rattle.djq_serve.specs.Server.{Last, next_round, input_over, no_turn, Next, more_lines, round_over, Phase, waiting}
use Rattle.djq_serve.specs.Server.{gathering, running, keeping, flushing, closing, Server, server, Move, Stays}
use Rattle.djq_serve.specs.Server.{Brings, TakesTurn, RunsOn, RunsAt, is_last, EndsInputIf, EndsRound, ends_input, StoredThen}
use Rattle.djq_serve.specs.Server.{SendsSome, Visits, after_round, after, first_open, PhasePasses, FlushesAt, ClosesFirst}
use Rattle.djq_serve.specs.Server.{ServesAt, MakesMove, next_ready}
use Rattle.djq_serve.specs.Fair.{LeavesNoLine}
use Rattle.djq_serve.proofs.ReadySessions.{next_none, none_may, took_calm, ended_calm, closed_calm, ready_is_open}
use Rattle.djq_serve.proofs.Fairness.{none_rise, rises}

-- ---- Where no line is left.

-- no line may be run
abbrev NoneMay : State → Type 0
NoneMay st = (t : ℕ) → may_run st t ≡ false

abbrev NoneNext : Next → State → Type 0
NoneNext (more_lines from last) st = Unit {0}
NoneNext (round_over over) st = NoneMay st

-- so it is before a round, and in the last commit of one
abbrev Idles : Phase → State → Type 0
Idles waiting st = NoneMay st
Idles (gathering left) st = Unit {0}
Idles (running from count groups last) st = Unit {0}
Idles (keeping groups next) st = NoneNext next st
Idles (flushing from next) st = NoneNext next st
Idles (closing answer) st = Unit {0}

phase_idles : (p q : Phase) (st : State) → q ≡ p → Idles p st → Idles q st
phase_idles p q st e h = subst (λ (k : Phase). Idles k st) (sym e) h

-- a state in which no session has a line that it hadn't
abbrev Calms : State → State → Type 0
Calms old new = (t : ℕ) → may_run new t ≡ true → may_run old t ≡ true

calms_none : (old new : State) → Calms old new → NoneMay old → NoneMay new
calms_none old new calms none t = at (may_run new t) refl
  where
    at : (b : Bool) → may_run new t ≡ b → may_run new t ≡ false
    at false e = e
    at true e = absurd (both_ways (may_run old t) (none t) (calms t e))

calms_next : (old new : State) (next : Next) → Calms old new → NoneNext next old → NoneNext next new
calms_next old new (more_lines from last) calms none = tt
calms_next old new (round_over over) calms none = calms_none old new calms none

stays_calms : (old new : State) (done : List Did) → Stays old done new → Calms old new
stays_calms old new done (none, same) t may = subst (λ (st : State). may_run st t ≡ true) same may

ends_calms : (last : Last) (old : State) (done : List Did) (new : State) → EndsRound last old done new → Calms old new
ends_calms next_round old done new stays = stays_calms old new done stays
ends_calms no_turn old done new stays = stays_calms old new done stays
ends_calms (input_over s) old done new ends = at (ends_input old s) ends
  where
    at : (b : Bool) → EndsInputIf s old done new b → Calms old new
    at true (e, step, is) = λ t may. ended_calm t s old e new step may
    at false stays = stays_calms old new done stays

sends_calms : (sent : Sent) (s : ℕ) (old : State) (told : List Told) (done : List Did) (new : State)
    → SendsSome sent s old told done new → Calms old new
sends_calms (Took n) s old told done new (some, within, is, (e, step, did)) =
    λ t may. took_calm t s (take n (pending_of old s)) old e new step may
sends_calms Again s old told done new (is, stays) = stays_calms old new done stays
sends_calms Gone s old told done new (is, (e, step, did)) =
    λ t may. closed_calm t s (pending_of old s) old e new step may

visit_calms : (s : ℕ) (old : State) (told : List Told) (done : List Did) (new : State) (to : ℕ)
    → Visits s old told done new to → Calms old new
visit_calms s old told done new to (inl (some, sent, sends, place)) = sends_calms sent s old told done new sends
visit_calms s old told done new to (inr (none, cause, (is, (e, step, did)), place)) =
    λ t may. closed_calm t s [] old e new step may

-- ---- Each move.

passes_idles : (st : State) (p : Phase) (m : Move) (new : Server) → PhasePasses st p m new → Idles p st
    → Idles new.phase new.state
passes_idles st p m new (none, same) h = subst (λ (k : Server). Idles k.phase k.state) (sym same) h

turn_idles : (left : ℕ) (turn : Turn) (piece : Bytes) (st : State) (more : List Told) (done : List Did) (new : State)
    (next : Phase) → Brings left turn piece st more done new next → Idles next new
turn_idles left (Opened s class) piece st more done new next (happens, lets, phase) =
    phase_idles (gathering left) next new phase tt
turn_idles left (Brought s n) piece st more done new next (happens, none, phase, is) =
    phase_idles (gathering left) next new phase tt
turn_idles left (Ended s) piece st more done new next (stays, none, phase) =
    phase_idles (running 0 0 [] (input_over s)) next new phase tt
turn_idles left Idle piece st more done new next (stays, none, phase) =
    phase_idles (gathering left) next new phase tt
turn_idles left HubOver piece st more done new next (stays, none, phase) =
    phase_idles (running 0 0 [] no_turn) next new phase tt
turn_idles left Failed piece st more done new next (stays, none, phase) =
    phase_idles (closing HubFault) next new phase tt

taking_idles : (left : ℕ) (st : State) (m : Move) (new : Server) → TakesTurn left st m new
    → Idles new.phase new.state
taking_idles left st m new (turn, piece, more, is, unlogged, brings) =
    turn_idles left turn piece st more m.done new.state new.phase brings

on_idles : (s count : ℕ) (groups : List Group) (last : Last) (p : Phase) (st : State)
    → RunsOn s count groups last p → Idles p st
on_idles s count groups last p st (inl (few, phase)) =
    phase_idles (running (s + 1) (count + 1) groups last) p st phase tt
on_idles s count groups last p st (inr phase) =
    phase_idles (keeping groups (more_lines (s + 1) last)) p st phase tt

lines_idle : (from count : ℕ) (groups : List Group) (last : Last) (st : State) (m : Move) (new : Server)
    (o : Option ℕ) → AreRising st → next_ready st from ≡ o → RunsAt count groups last st m new o
    → Idles new.phase new.state
lines_idle from count groups last st m new (Some s) rising next (none, unlogged, outcome, happens, on) =
    on_idles s count _ last new.phase new.state on
lines_idle from count groups last st m new None rising next (none, unlogged, ends, phase) =
    phase_idles (keeping groups (round_over (is_last last))) new.phase new.state phase
    (calms_none st new.state (ends_calms last st m.done new.state ends)
    (none_may st rising (next_none st from next)))

stored_idles : (k : Kept) (groups : List Group) (next : Next) (p : Phase) (st : State) → StoredThen k groups next p
    → NoneNext next st → Idles p st
stored_idles Stored groups next p st phase h = phase_idles (flushing 0 next) p st phase h
stored_idles Unstored groups next p st (some, phase) h = phase_idles (closing DiskFault) p st phase tt
stored_idles NoRoom groups next p st (some, phase) h = phase_idles (closing LogFull) p st phase tt

after_idles : (next : Next) (st : State) → NoneNext next st → Idles (after st next) st
after_idles (more_lines from last) st h = tt
after_idles (round_over over) st h = at st.stopped over
  where
    at : (stopped over : Bool) → Idles (after_round stopped over) st
    at true over = tt
    at false true = tt
    at false false = h

flush_idles : (next : Next) (st : State) (m : Move) (new : Server) (o : Option ℕ) → FlushesAt next st m new o
    → NoneNext next st → Idles new.phase new.state
flush_idles next st m new None passes h = passes_idles st (after st next) m new passes (after_idles next st h)
flush_idles next st m new (Some s) (unlogged, to, visits, phase) h =
    phase_idles (flushing to next) new.phase new.state phase
    (calms_next st new.state next (visit_calms s st m.told m.done new.state to visits) h)

close_idles : (answer : Served) (st : State) (m : Move) (new : Server) (o : Option ℕ) → ClosesFirst answer st m new o
    → Idles new.phase new.state
close_idles answer st m new None none = absurd none
close_idles answer st m new (Some s) (is, unlogged, happens, phase) =
    phase_idles (closing answer) new.phase new.state phase tt

move_idles : (most : ℕ) (p : Phase) (st : State) (m : Move) (new : Server) → ServesAt most p st m new → AreRising st
    → Idles p st → Idles new.phase new.state
move_idles most waiting st m new (inl passes) rising h = passes_idles st (closing TurnsUsed) m new passes tt
move_idles most waiting st m new (inr taking) rising h = taking_idles (most - 1) st m new taking
move_idles most (gathering left) st m new (inl passes) rising h =
    passes_idles st (running 0 0 [] next_round) m new passes tt
move_idles most (gathering left) st m new (inr (some, taking)) rising h = taking_idles (left - 1) st m new taking
move_idles most (running from count groups last) st m new g rising h =
    lines_idle from count groups last st m new (next_ready st from) rising refl g
move_idles most (keeping groups next) st m new (untold, undone, logged, same, stored) rising h =
    stored_idles m.stored groups next new.phase new.state stored
    (subst (λ (k : State). NoneNext next k) (sym same) h)
move_idles most (flushing from next) st m new g rising h = flush_idles next st m new (first_due st from) g h
move_idles most (closing answer) st m new g rising h = close_idles answer st m new (first_open st) g

walk_idles : (most : ℕ) (old : Server) (moves : List Move) (new : Server) → Walk (MakesMove most) old moves new
    → AreRising old.state → Idles old.phase old.state → Idles new.phase new.state
walk_idles most old [] new w rising h = subst (λ (k : Server). Idles k.phase k.state) (sym w) h
walk_idles most old (m ∷ moves) new w rising h =
    walk_idles most w.0 moves new w.2 (rises most old (m ∷ []) w.0 (w.0, w.1, refl) rising)
    (move_idles most old.phase old.state m w.0 w.1.0 rising h)

-- where no session is open no line may be run
none_to_run : (st : State) → st.sessions ≡ [] → NoneMay st
none_to_run st alone t = at (may_run st t) refl
  where
    gone : session_of st t ≡ None
    gone = ap (λ (xs : List Session). find (λ (x : Session). x.id == t) xs) alone

    at : (b : Bool) → may_run st t ≡ b → may_run st t ≡ false
    at false e = e
    at true e =
        absurd (false≢true (subst (λ (o : Option Session). IsSome o) gone (ready_is_open st t e)))

-- No line waits for a round.
pub serve_prompt : (most : ℕ) (old : State) (moves : List Move) (new : Server) → old.sessions ≡ []
    → LeavesNoLine most (server old waiting) moves new
serve_prompt most old moves new alone before later at cut w v waits =
    subst (λ (p : Phase). Idles p at.state) waits
    (walk_idles most (server old waiting) before at w (none_rise old alone) (none_to_run old alone))

-- ---- Where a round has one turn.

-- a round may have no further turn
abbrev Single : Phase → Type 0
Single (gathering left) = left ≡ 0
Single waiting = Unit {0}
Single (running from count groups last) = Unit {0}
Single (keeping groups next) = Unit {0}
Single (flushing from next) = Unit {0}
Single (closing answer) = Unit {0}

phase_single : (p q : Phase) → q ≡ p → Single p → Single q
phase_single p q e h = subst Single (sym e) h

turn_single : (left : ℕ) (turn : Turn) (piece : Bytes) (st : State) (more : List Told) (done : List Did) (new : State)
    (next : Phase) → left ≡ 0 → Brings left turn piece st more done new next → Single next
turn_single left (Opened s class) piece st more done new next none (happens, lets, phase) =
    phase_single (gathering left) next phase none
turn_single left (Brought s n) piece st more done new next none (happens, untold, phase, is) =
    phase_single (gathering left) next phase none
turn_single left (Ended s) piece st more done new next none (stays, untold, phase) =
    phase_single (running 0 0 [] (input_over s)) next phase tt
turn_single left Idle piece st more done new next none (stays, untold, phase) =
    phase_single (gathering left) next phase none
turn_single left HubOver piece st more done new next none (stays, untold, phase) =
    phase_single (running 0 0 [] no_turn) next phase tt
turn_single left Failed piece st more done new next none (stays, untold, phase) =
    phase_single (closing HubFault) next phase tt

taking_single : (left : ℕ) (st : State) (m : Move) (new : Server) → left ≡ 0 → TakesTurn left st m new
    → Single new.phase
taking_single left st m new none (turn, piece, more, is, unlogged, brings) =
    turn_single left turn piece st more m.done new.state new.phase none brings

passes_single : (st : State) (p : Phase) (m : Move) (new : Server) → PhasePasses st p m new → Single p
    → Single new.phase
passes_single st p m new (none, same) h = subst (λ (k : Server). Single k.phase) (sym same) h

lines_single : (count : ℕ) (groups : List Group) (last : Last) (st : State) (m : Move) (new : Server) (o : Option ℕ)
    → RunsAt count groups last st m new o → Single new.phase
lines_single count groups last st m new (Some s) (none, unlogged, outcome, happens, inl (few, phase)) =
    phase_single (running (s + 1) (count + 1) _ last) new.phase phase tt
lines_single count groups last st m new (Some s) (none, unlogged, outcome, happens, inr phase) =
    phase_single (keeping _ (more_lines (s + 1) last)) new.phase phase tt
lines_single count groups last st m new None (none, unlogged, ends, phase) =
    phase_single (keeping groups (round_over (is_last last))) new.phase phase tt

stored_single : (k : Kept) (groups : List Group) (next : Next) (p : Phase) → StoredThen k groups next p → Single p
stored_single Stored groups next p phase = phase_single (flushing 0 next) p phase tt
stored_single Unstored groups next p (some, phase) = phase_single (closing DiskFault) p phase tt
stored_single NoRoom groups next p (some, phase) = phase_single (closing LogFull) p phase tt

after_single : (next : Next) (st : State) → Single (after st next)
after_single (more_lines from last) st = tt
after_single (round_over over) st = at st.stopped over
  where
    at : (stopped over : Bool) → Single (after_round stopped over)
    at true over = tt
    at false true = tt
    at false false = tt

flush_single : (next : Next) (st : State) (m : Move) (new : Server) (o : Option ℕ) → FlushesAt next st m new o
    → Single new.phase
flush_single next st m new None passes = passes_single st (after st next) m new passes (after_single next st)
flush_single next st m new (Some s) (unlogged, to, visits, phase) = phase_single (flushing to next) new.phase phase tt

close_single : (answer : Served) (st : State) (m : Move) (new : Server) (o : Option ℕ) → ClosesFirst answer st m new o
    → Single new.phase
close_single answer st m new None none = absurd none
close_single answer st m new (Some s) (is, unlogged, happens, phase) =
    phase_single (closing answer) new.phase phase tt

move_single : (most : ℕ) (p : Phase) (st : State) (m : Move) (new : Server) → most ≤ 1 → ServesAt most p st m new
    → Single p → Single new.phase
move_single most waiting st m new one (inl passes) h = passes_single st (closing TurnsUsed) m new passes tt
move_single most waiting st m new one (inr taking) h =
    taking_single (most - 1) st m new (omega (arith, one)) taking
move_single most (gathering left) st m new one (inl passes) h =
    passes_single st (running 0 0 [] next_round) m new passes tt
move_single most (gathering left) st m new one (inr (some, taking)) h = absurd (omega (arith, some, h))
move_single most (running from count groups last) st m new one g h =
    lines_single count groups last st m new (next_ready st from) g
move_single most (keeping groups next) st m new one (untold, undone, logged, same, stored) h =
    stored_single m.stored groups next new.phase stored
move_single most (flushing from next) st m new one g h = flush_single next st m new (first_due st from) g
move_single most (closing answer) st m new one g h = close_single answer st m new (first_open st) g

walk_single : (most : ℕ) (old : Server) (moves : List Move) (new : Server) → most ≤ 1
    → Walk (MakesMove most) old moves new → Single old.phase → Single new.phase
walk_single most old [] new one w h = subst (λ (k : Server). Single k.phase) (sym w) h
walk_single most old (m ∷ moves) new one w h =
    walk_single most w.0 moves new one w.2 (move_single most old.phase old.state m w.0 one w.1.0 h)

-- a flush is no turn
sends_turnless : (sent : Sent) (s : ℕ) (st : State) (told : List Told) (done : List Did) (new : State)
    → SendsSome sent s st told done new → turns_in told ≡ 0
sends_turnless (Took n) s st told done new (some, within, is, happens) = ap turns_in is
sends_turnless Again s st told done new (is, stays) = ap turns_in is
sends_turnless Gone s st told done new (is, happens) = ap turns_in is

flush_turnless : (next : Next) (st : State) (m : Move) (new : Server) (o : Option ℕ) → FlushesAt next st m new o
    → turns_in m.told ≡ 0
flush_turnless next st m new None (none, same) = ap (λ (k : Move). turns_in k.told) none
flush_turnless next st m new (Some s) (unlogged, to, inl (some, sent, sends, place), phase) =
    sends_turnless sent s st m.told m.done new.state sends
flush_turnless next st m new (Some s) (unlogged, to, inr (none, cause, (is, happens), place), phase) = ap turns_in is

lines_turnless : (count : ℕ) (groups : List Group) (last : Last) (st : State) (m : Move) (new : Server) (o : Option ℕ)
    → RunsAt count groups last st m new o → turns_in m.told ≡ 0
lines_turnless count groups last st m new (Some s) (none, unlogged, outcome, happens, on) = ap turns_in none
lines_turnless count groups last st m new None (none, unlogged, ends, phase) = ap turns_in none

close_turnless : (answer : Served) (st : State) (m : Move) (new : Server) (o : Option ℕ) → ClosesFirst answer st m new o
    → turns_in m.told ≡ 0
close_turnless answer st m new None none = absurd none
close_turnless answer st m new (Some s) (is, unlogged, happens, phase) = ap turns_in is

none_counted : {A : Type 0} (n : ℕ) → 0 < n → n ≡ 0 → A
none_counted n some none = absurd (omega (arith, some, none))

turn_waits : (most : ℕ) (p : Phase) (st : State) (m : Move) (new : Server) → ServesAt most p st m new → Single p
    → 0 < turns_in m.told → p ≡ waiting
turn_waits most waiting st m new g h some = refl
turn_waits most (gathering left) st m new (inl (none, same)) h some =
    none_counted (turns_in m.told) some (ap (λ (k : Move). turns_in k.told) none)
turn_waits most (gathering left) st m new (inr (more, taking)) h some = absurd (omega (arith, more, h))
turn_waits most (running from count groups last) st m new g h some =
    none_counted (turns_in m.told) some (lines_turnless count groups last st m new (next_ready st from) g)
turn_waits most (keeping groups next) st m new (untold, undone, logged, same, stored) h some =
    none_counted (turns_in m.told) some (ap turns_in untold)
turn_waits most (flushing from next) st m new g h some =
    none_counted (turns_in m.told) some (flush_turnless next st m new (first_due st from) g)
turn_waits most (closing answer) st m new g h some =
    none_counted (turns_in m.told) some (close_turnless answer st m new (first_open st) g)

-- Where a round has one turn, each is the first of a round: its lines are run, logged and sent before the next.
pub single_rounds : (most : ℕ) → most ≤ 1 → (old : State) (before : List Move) (at : Server) (m : Move) (new : Server)
    → Walk (MakesMove most) (server old waiting) before at → MakesMove most at m new → 0 < turns_in m.told
    → at.phase ≡ waiting
single_rounds most one old before at m new w g some =
    turn_waits most at.phase at.state m new g.0 (walk_single most (server old waiting) before at one w tt) some
