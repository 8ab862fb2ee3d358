-- Each answer has its cause.
use Rattle.std.specs.Prelude.{ℕ, List, [], ◌∷◌, ◌++◌, ◌≡◌, ◌||◌, ◌+◌, ◌-◌, Bool, true, false, Option, None, Some}
use Rattle.std.proofs.Common.{refl, sym, ap, ap₂, ◌∙◌, subst, inl, inr, append-nil, append_assoc}
use Rattle.std.proofs.lemmas.Bool.{both_ways}
use Rattle.std.proofs.lemmas.List.Folds.{list_any-append}
use Rattle.djq_io.specs.declared.hub.Turn.{Turn}
use Rattle.djq_io.specs.declared.hub.Turn.TheVariants.{Opened, Bytes as Brought, Ended, Idle, Over as HubOver, Failed}
use Rattle.djq_io.specs.declared.hub.Sent.{Sent}
use Rattle.djq_io.specs.declared.hub.Sent.TheVariants.{Took, Again, Gone}
use Rattle.djq_io.specs.declared.hub.Told.{Told}
use Rattle.djq_io.specs.declared.hub.Told.TheVariants.{Turning}
use Rattle.djq_log.specs.declared.log.Kept.{Kept}
use Rattle.djq_log.specs.declared.log.Kept.TheVariants.{All as Stored, Failed as Unstored, Full as NoRoom}
use Rattle.djq_model.specs.Data.{Bytes}
use Rattle.djq_machine.specs.State.{State}
use Rattle.djq_machine.specs.Step.{Event, opened, fed, closed}
use Rattle.djq_machine.specs.Run.{Walk, Did, Group, pending_of}
use Rattle.djq_machine.specs.Call.{first_due}
use Rattle.djq_run_laws.proofs.Sessions.{IsNoLine, step_stopped}
use Rattle.djq_serve.specs.declared.served.Served.{Served}
use Rattle.djq_serve.specs.declared.served.Served.TheVariants.{TurnsUsed, HubFault, DiskFault, LogFull}
use Rattle.djq_serve.specs.Told.{by_turn, turn_is_over, turn_is_failed, has_over, turn_failed}
use Rattle.djq_serve.specs.Server.{Last, next_round, input_over, no_turn, Next, more_lines, round_over, Phase, waiting}
use Rattle.djq_serve.specs.Server.{gathering, running, keeping, flushing, closing, Server, server, Move, all_told, Happens}
use Rattle.djq_serve.specs.Server.{Stays, LetsIn, Brings, TakesTurn, RunsOn, RunsAt, is_last, StoredThen, SendsSome, Visits}
use Rattle.djq_serve.specs.Server.{after_round, after, first_open, PhasePasses, FlushesAt, ClosesFirst, ServesAt, MakesMove}
use Rattle.djq_serve.specs.Server.{next_ready}
use Rattle.djq_serve.specs.Ends.{says_fault, says_lost, IsCaused}

-- ---- What is so at each place of the server.

-- whether a turn was over, and whether one failed
record Turned (told : List Told) (a b : Bool) : Type 0 where
  pub over : has_over told ≡ a
  pub failed : turn_failed told ≡ b

-- before the lines of a round: no session sent `stop`, and no turn was over or failed
abbrev Fresh : State → List Told → Type 0
Fresh st told = (st.stopped ≡ false) × Turned told false false

-- whether the hub is over as a commit ends
abbrev over_of : Next → Bool
over_of (more_lines from last) = is_last last
over_of (round_over over) = over

abbrev Stands : Phase → State → List Told → Type 0
Stands waiting st told = Fresh st told
Stands (gathering left) st told = Fresh st told
Stands (running from count groups last) st told = Turned told (is_last last) false
Stands (keeping groups next) st told = Turned told (over_of next) false
Stands (flushing from next) st told = Turned told (over_of next) false
Stands (closing answer) st told = IsCaused answer told st

phase_as : (p q : Phase) (st : State) (told : List Told) → q ≡ p → Stands p st told → Stands q st told
phase_as p q st told e h = subst (λ (k : Phase). Stands k st told) (sym e) h

-- ---- Calls among which some turn is over or failed, and calls among which none is.

turned_more : (told more : List Told) (a b c d : Bool) → Turned told a b → Turned more c d
    → Turned (told ++ more) (a || c) (b || d)
turned_more told more a b c d f g = record {
  over = list_any-append (by_turn turn_is_over) told more ∙ ap₂ (λ (x y : Bool). x || y) f.over g.over;
  failed = list_any-append (by_turn turn_is_failed) told more ∙ ap₂ (λ (x y : Bool). x || y) f.failed g.failed;
}

or_false : (x : Bool) → (x || false) ≡ x
or_false true = refl
or_false false = refl

turned_quiet : (told more : List Told) (a b : Bool) → Turned told a b → Turned more false false
    → Turned (told ++ more) a b
turned_quiet told more a b f quiet =
    let g = turned_more told more a b false false f quiet in
    record { over = g.over ∙ or_false a; failed = g.failed ∙ or_false b }

told_quietly : (more more' : List Told) → more ≡ more' → Turned more' false false → Turned more false false
told_quietly more more' is q = subst (λ (ts : List Told). Turned ts false false) (sym is) q

untold : Turned [] false false
untold = record { over = refl; failed = refl }

-- ---- What doesn't change whether a session sent `stop`.

kept_stop : (event : Event) (st new : State) (done : List Did) → IsNoLine event → Happens event st done new
    → new.stopped ≡ st.stopped
kept_stop event st new done other (e, step, is) = step_stopped st event e new step other

kept_still : (st new : State) (done : List Did) → Stays st done new → new.stopped ≡ st.stopped
kept_still st new done (none, same) = ap (λ (k : State). k.stopped) same

-- ---- Each move.

-- the hub was asked nothing, and the state stays
stands_passed : (st : State) (p q : Phase) (m : Move) (new : Server) (told : List Told) → PhasePasses st q m new
    → Stands q st told → Stands new.phase new.state (told ++ m.told)
stands_passed st p q m new told (none, same) h =
    subst (λ (k : Server). Stands k.phase k.state (told ++ m.told)) (sym same)
    (subst (λ (ts : List Told). Stands q st ts)
    (sym (ap (λ (k : Move). told ++ k.told) none ∙ append-nil told)) h)

let_in_quiet : (s : ℕ) (st new : State) (more : List Told) → LetsIn s st more new → Turned more false false
let_in_quiet s st new more (inl (there, is)) = record { over = ap has_over is; failed = ap turn_failed is }
let_in_quiet s st new more (inr (out, sent, fits, is)) = record { over = ap has_over is; failed = ap turn_failed is }

-- a turn that is neither over nor failed, and what the hub is asked with it
turn_quiet : (turn : Turn) (piece : Bytes) (more : List Told) → turn_is_over turn ≡ false → turn_is_failed turn ≡ false
    → Turned more false false → Turned (Turning turn piece ∷ more) false false
turn_quiet turn piece more over failed q = record {
  over = ap₂ (λ (x y : Bool). x || y) over q.over;
  failed = ap₂ (λ (x y : Bool). x || y) failed q.failed;
}

none_told : (more : List Told) → more ≡ [] → Turned more false false
none_told more none = told_quietly more [] none untold

fresh_after : (old new : State) (told more : List Told) → Fresh old told → new.stopped ≡ old.stopped
    → Turned more false false → Fresh new (told ++ more)
fresh_after old new told more f same q = (same ∙ f.0, turned_quiet told more false false f.1 q)

turn_stands : (left : ℕ) (turn : Turn) (piece : Bytes) (st : State) (more : List Told) (done : List Did) (new : State)
    (next : Phase) (told : List Told) → Brings left turn piece st more done new next → Fresh st told
    → Stands next new (told ++ Turning turn piece ∷ more)
turn_stands left (Opened s class) piece st more done new next told (happens, lets, phase) f =
    phase_as (gathering left) next new _ phase
    (fresh_after st new told (Turning (Opened s class) piece ∷ more) f (kept_stop (opened s) st new done tt happens)
    (turn_quiet (Opened s class) piece more refl refl (let_in_quiet s st new more lets)))
turn_stands left (Brought s n) piece st more done new next told (happens, none, phase, is) f =
    phase_as (gathering left) next new _ phase
    (fresh_after st new told (Turning (Brought s n) piece ∷ more) f (kept_stop (fed s piece) st new done tt happens)
    (turn_quiet (Brought s n) piece more refl refl (none_told more none)))
turn_stands left (Ended s) piece st more done new next told (stays, none, phase) f =
    phase_as (running 0 0 [] (input_over s)) next new _ phase
    (turned_quiet told (Turning (Ended s) piece ∷ more) false false f.1
    (turn_quiet (Ended s) piece more refl refl (none_told more none)))
turn_stands left Idle piece st more done new next told (stays, none, phase) f =
    phase_as (gathering left) next new _ phase
    (fresh_after st new told (Turning Idle piece ∷ more) f (kept_still st new done stays)
    (turn_quiet Idle piece more refl refl (none_told more none)))
turn_stands left HubOver piece st more done new next told (stays, none, phase) f =
    phase_as (running 0 0 [] no_turn) next new _ phase
    (turned_more told (Turning HubOver piece ∷ more) false false true false f.1
    (record { over = refl; failed = (none_told more none).failed }))
turn_stands left Failed piece st more done new next told (stays, none, phase) f =
    let t = turned_more told (Turning Failed piece ∷ more) false false false true f.1
    (record { over = (none_told more none).over; failed = refl }) in
    phase_as (closing HubFault) next new _ phase
    (record {
      failed = t.failed;
      stopped = λ k. kept_still st new done stays ∙ f.0;
      over = λ k going. t.over;
    })

taking_stands : (left : ℕ) (st : State) (m : Move) (new : Server) (told : List Told) → TakesTurn left st m new
    → Fresh st told → Stands new.phase new.state (told ++ m.told)
taking_stands left st m new told (turn, piece, more, is, unlogged, brings) f =
    subst (λ (ts : List Told). Stands new.phase new.state (told ++ ts)) (sym is)
    (turn_stands left turn piece st more m.done new.state new.phase told brings f)

on_stands : (s count : ℕ) (groups : List Group) (last : Last) (p : Phase) (st : State) (told : List Told)
    → RunsOn s count groups last p → Turned told (is_last last) false → Stands p st told
on_stands s count groups last p st told (inl (few, phase)) f =
    phase_as (running (s + 1) (count + 1) groups last) p st told phase f
on_stands s count groups last p st told (inr phase) f =
    phase_as (keeping groups (more_lines (s + 1) last)) p st told phase f

lines_stand : (count : ℕ) (groups : List Group) (last : Last) (st : State) (m : Move) (new : Server) (o : Option ℕ)
    (told : List Told) → RunsAt count groups last st m new o → Turned told (is_last last) false
    → Stands new.phase new.state (told ++ m.told)
lines_stand count groups last st m new (Some s) told (none, unlogged, outcome, happens, on) f =
    on_stands s count _ last new.phase new.state (told ++ m.told) on
    (turned_quiet told m.told (is_last last) false f (none_told m.told none))
lines_stand count groups last st m new None told (none, unlogged, ends, phase) f =
    phase_as (keeping groups (round_over (is_last last))) new.phase new.state _ phase
    (turned_quiet told m.told (is_last last) false f (none_told m.told none))

-- if the lines can't be logged, the log is the cause
lost_stands : (answer : Served) (st : State) (told : List Told) (over : Bool) → says_lost answer ≡ true
    → says_fault answer ≡ false → Turned told over false → IsCaused answer told st
lost_stands answer st told over lost plain f = record {
  failed = f.failed ∙ sym plain;
  stopped = λ k. absurd (both_ways (says_lost answer) k lost);
  over = λ k going. absurd (both_ways (says_lost answer) k lost);
}

stored_stands : (k : Kept) (groups : List Group) (next : Next) (p : Phase) (st : State) (told : List Told)
    → StoredThen k groups next p → Turned told (over_of next) false → Stands p st told
stored_stands Stored groups next p st told phase f = phase_as (flushing 0 next) p st told phase f
stored_stands Unstored groups next p st told (some, phase) f =
    phase_as (closing DiskFault) p st told phase (lost_stands DiskFault st told (over_of next) refl refl f)
stored_stands NoRoom groups next p st told (some, phase) f =
    phase_as (closing LogFull) p st told phase (lost_stands LogFull st told (over_of next) refl refl f)

sends_quiet : (sent : Sent) (s : ℕ) (st : State) (told : List Told) (done : List Did) (new : State)
    → SendsSome sent s st told done new → Turned told false false
sends_quiet (Took n) s st told done new (some, within, is, happens) =
    record { over = ap has_over is; failed = ap turn_failed is }
sends_quiet Again s st told done new (is, stays) = record { over = ap has_over is; failed = ap turn_failed is }
sends_quiet Gone s st told done new (is, happens) = record { over = ap has_over is; failed = ap turn_failed is }

visits_quiet : (s : ℕ) (st : State) (told : List Told) (done : List Did) (new : State) (to : ℕ)
    → Visits s st told done new to → Turned told false false
visits_quiet s st told done new to (inl (some, sent, sends, place)) = sends_quiet sent s st told done new sends
visits_quiet s st told done new to (inr (none, cause, (is, happens), place)) =
    record { over = ap has_over is; failed = ap turn_failed is }

-- after the last flush of a round
round_stands : (st : State) (told : List Told) (stopped over : Bool) → st.stopped ≡ stopped → Turned told over false
    → Stands (after_round stopped over) st told
round_stands st told true over e f = record {
  failed = f.failed;
  stopped = λ k. e;
  over = λ k going. absurd (both_ways st.stopped going e);
}
round_stands st told false true e f = record { failed = f.failed; stopped = λ k. e; over = λ k going. f.over }
round_stands st told false false e f = (e, f)

after_stands : (next : Next) (st : State) (told : List Told) → Turned told (over_of next) false
    → Stands (after st next) st told
after_stands (more_lines from last) st told f = f
after_stands (round_over over) st told f = round_stands st told st.stopped over refl f

flush_stands : (next : Next) (st : State) (m : Move) (new : Server) (o : Option ℕ) (told : List Told)
    → FlushesAt next st m new o → Turned told (over_of next) false → Stands new.phase new.state (told ++ m.told)
flush_stands next st m new None told passes f =
    stands_passed st (flushing 0 next) (after st next) m new told passes (after_stands next st told f)
flush_stands next st m new (Some s) told (unlogged, to, visits, phase) f =
    phase_as (flushing to next) new.phase new.state _ phase
    (turned_quiet told m.told (over_of next) false f (visits_quiet s st m.told m.done new.state to visits))

close_stands : (answer : Served) (st : State) (m : Move) (new : Server) (o : Option ℕ) (told : List Told)
    → ClosesFirst answer st m new o → IsCaused answer told st → Stands new.phase new.state (told ++ m.told)
close_stands answer st m new None told none f = absurd none
close_stands answer st m new (Some s) told (is, unlogged, happens, phase) f =
    let same = kept_stop (closed s (pending_of st s)) st new.state m.done tt happens in
    let t = turned_quiet told m.told (has_over told) (turn_failed told) (record { over = refl; failed = refl })
    (record { over = ap has_over is; failed = ap turn_failed is }) in
    phase_as (closing answer) new.phase new.state _ phase
    (record {
      failed = t.failed ∙ f.failed;
      stopped = λ k. same ∙ f.stopped k;
      over = λ k going. t.over ∙ f.over k (sym same ∙ going);
    })

move_stands : (most : ℕ) (p : Phase) (st : State) (m : Move) (new : Server) (told : List Told)
    → ServesAt most p st m new → Stands p st told → Stands new.phase new.state (told ++ m.told)
move_stands most waiting st m new told (inl passes) f =
    stands_passed st waiting (closing TurnsUsed) m new told passes
    (record { failed = f.1.failed; stopped = λ k. f.0; over = λ k going. f.1.over })
move_stands most waiting st m new told (inr taking) f = taking_stands (most - 1) st m new told taking f
move_stands most (gathering left) st m new told (inl passes) f =
    stands_passed st (gathering left) (running 0 0 [] next_round) m new told passes f.1
move_stands most (gathering left) st m new told (inr (some, taking)) f =
    taking_stands (left - 1) st m new told taking f
move_stands most (running from count groups last) st m new told g f =
    lines_stand count groups last st m new (next_ready st from) told g f
move_stands most (keeping groups next) st m new told (none, undone, logged, same, stored) f =
    stored_stands m.stored groups next new.phase new.state (told ++ m.told) stored
    (turned_quiet told m.told (over_of next) false f (none_told m.told none))
move_stands most (flushing from next) st m new told g f = flush_stands next st m new (first_due st from) told g f
move_stands most (closing answer) st m new told g f = close_stands answer st m new (first_open st) told g f

walk_stands : (most : ℕ) (old : Server) (moves : List Move) (new : Server) (told : List Told)
    → Walk (MakesMove most) old moves new → Stands old.phase old.state told
    → Stands new.phase new.state (told ++ all_told moves)
walk_stands most old [] new told w f =
    subst (λ (k : Server). Stands k.phase k.state (told ++ [])) (sym w)
    (subst (λ (ts : List Told). Stands old.phase old.state ts) (sym (append-nil told)) f)
walk_stands most old (m ∷ moves) new told w f =
    subst (λ (ts : List Told). Stands new.phase new.state ts) (append_assoc told m.told (all_told moves))
    (walk_stands most w.0 moves new (told ++ m.told) w.2
    (move_stands most old.phase old.state m w.0 told w.1.0 f))

-- Each answer has its cause.
pub serve_caused : (most : ℕ) (st : State) (moves : List Move) (new : State) (answer : Served) → st.stopped ≡ false
    → Walk (MakesMove most) (server st waiting) moves (server new (closing answer))
    → IsCaused answer (all_told moves) new
serve_caused most st moves new answer going w =
    walk_stands most (server st waiting) moves (server new (closing answer)) [] w (going, untold)
