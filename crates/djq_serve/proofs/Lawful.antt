-- The server's moves are a run of the machine, their sends are its takes, and sessions open with rising ids.
use Rattle.std.specs.Prelude.{ℕ, List, [], ◌∷◌, ◌++◌, ◌≡◌, Option, None, Some, length, ◌<◌, ◌-◌, Bool, true, false}
use Rattle.std.specs.Prelude.{take, IfSome, All, AllPairs, ◌==◌, cond}
use Rattle.std.proofs.Common.{refl, subst, sym, ap, ◌∙◌, arith, inl, inr, ap₂}
use Rattle.std.proofs.lemmas.Grind.{flat_map-append}
use Rattle.std.specs.List.{flat_map}
use Rattle.std.proofs.lemmas.List.Elements.{All-nil, All-cons, All-weaker, All-head, All-tail}
use Rattle.std.proofs.lemmas.List.Kept.{AllPairs-cons}
use Rattle.djq_io.specs.declared.hub.Class.{Class}
use Rattle.djq_io.specs.declared.hub.Turn.{Turn}
use Rattle.djq_io.specs.declared.hub.Sent.{Sent}
use Rattle.djq_io.specs.declared.hub.Told.{Told}
use Rattle.djq_io.specs.declared.hub.Told.TheVariants.{Turning, Closing, Listening, Sending}
use Rattle.djq_io.specs.declared.hub.Sent.TheVariants.{Took, Again, Gone}
use Rattle.djq_io.specs.declared.hub.Turn.TheVariants.{Opened, Bytes as Brought, Ended, Idle, Over as HubOver, Failed}
use Rattle.djq_io.specs.Hub.{Ids}
use Rattle.djq_io.specs.Calls.{sent_by, sent_to}
use Rattle.djq_model.specs.Data.{Bytes}
use Rattle.djq_machine.specs.Run.{Walk, Did, Group, pending_of, Run, taken_from, all_taken}
use Rattle.djq_machine.specs.State.{State}
use Rattle.djq_machine.specs.LineStep.{LineOutcome}
use Rattle.djq_machine.specs.Step.{Event, stepped, took, closed, Step, opened, fed, ended}
use Rattle.djq_machine.specs.Call.{first_due, may_run}
use Rattle.djq_machine.specs.Effect.{Effect}
use Rattle.djq_run_laws.specs.Sent.{opened_by, all_opened}
use Rattle.djq_run_laws.proofs.Courses.{walk_then}
use Rattle.djq_serve.specs.declared.served.Served.{Served}
use Rattle.djq_serve.specs.declared.served.Served.TheVariants.{TurnsUsed}
use Rattle.djq_serve.specs.Server.{Server, Move, MakesMove, all_told, all_done, Next, Last, next_round, input_over, no_turn}
use Rattle.djq_serve.specs.Server.{Phase, waiting, gathering, running, keeping, flushing, closing, Happens, Brings, TakesTurn}
use Rattle.djq_serve.specs.Server.{after, first_open, RunsAt, EndsInputIf, EndsRound, ends_input, FlushesAt, ClosesFirst, Stays}
use Rattle.djq_serve.specs.Server.{LetsIn, SendsSome, Visits, refusal_for, PhasePasses, ServesAt, next_ready}
use Rattle.djq_serve.specs.Told.{IdsShow}
use Rattle.djq_serve.specs.Ends.{refuses, NeverRefused}
use Rattle.djq_serve.proofs.ReadySessions.{next_may}

-- ---- Sessions open at a hub with rising ids.

abbrev pub opens_at : Told → List ℕ
opens_at (Turning (Opened s class) piece) = s ∷ []
opens_at _ = []

-- the sessions that open at a hub, in order
abbrev pub opened_in : List Told → List ℕ
opened_in told = flat_map opens_at told

-- Ids that rise, and are above the newest before.
record Rises (newest : Option ℕ) (ids : List ℕ) : Type 0 where
  pub above : All (λ t. IfSome newest (λ n. n < t)) ids
  pub rising : AllPairs (λ s t. s < t) ids

under : (newest : Option ℕ) (s t : ℕ) → IfSome newest (λ n. n < s) → s < t → IfSome newest (λ n. n < t)
under None s t new less = tt
under (Some n) s t new less = omega (arith, new, less)

one_more : (newest : Option ℕ) (s : ℕ) (ids : List ℕ) → IfSome newest (λ n. n < s) → Rises (Some s) ids
    → Rises newest (s ∷ ids)
one_more newest s ids new r = record {
  above = All-cons (λ t. IfSome newest (λ n. n < t)) s ids new
      (All-weaker (λ t. s < t) (λ t. IfSome newest (λ n. n < t)) (λ t less. under newest s t new less) ids r.above);
  rising = AllPairs-cons (λ i t. i < t) s ids r.above r.rising;
}

same_newest : (ids : List ℕ) (old new : Option ℕ) → new ≡ old → Rises new ids → Rises old ids
same_newest ids old new same r = subst (λ (o : Option ℕ). Rises o ids) same r

-- one call earlier
call_rises : (t : Told) (old new : Ids) (ids : List ℕ) → IdsShow old t new → Rises new.newest ids
    → Rises old.newest (opens_at t ++ ids)
call_rises (Turning (Opened s class) piece) old new ids (above, is) r =
    one_more old.newest s ids above (same_newest ids (Some s) new.newest (ap (λ (i : Ids). i.newest) is) r)
call_rises (Turning (Brought s n) piece) old new ids (some, fits, runs, is) r =
    same_newest ids old.newest new.newest (ap (λ (i : Ids). i.newest) is) r
call_rises (Turning (Ended s) piece) old new ids (runs, ends) r = same_newest ids old.newest new.newest ends.0 r
call_rises (Turning Idle piece) old new ids is r =
    same_newest ids old.newest new.newest (ap (λ (i : Ids). i.newest) is) r
call_rises (Turning HubOver piece) old new ids is r =
    same_newest ids old.newest new.newest (ap (λ (i : Ids). i.newest) is) r
call_rises (Turning Failed piece) old new ids is r =
    same_newest ids old.newest new.newest (ap (λ (i : Ids). i.newest) is) r
call_rises (Sending s offered sent taken) old new ids is r =
    same_newest ids old.newest new.newest (ap (λ (i : Ids). i.newest) is) r
call_rises (Closing s) old new ids is r = same_newest ids old.newest new.newest (ap (λ (i : Ids). i.newest) is) r
call_rises (Listening addr answer) old new ids is r = absurd is

all_rise : (told : List Told) (old new : Ids) → Walk IdsShow old told new → Rises old.newest (opened_in told)
all_rise [] old new w = record {
  above = All-nil (λ t. IfSome old.newest (λ n. n < t));
  rising = λ i j d lt within. absurd (omega (arith, within));
}
all_rise (t ∷ told) old new w = call_rises t old w.0 (opened_in told) w.1 (all_rise told w.0 new w.2)

-- of all calls
pub open_rising : (told : List Told) (old new : Ids) → Walk IdsShow old told new
    → AllPairs (λ s t. s < t) (opened_in told)
open_rising told old new w = (all_rise told old new w).rising

-- ---- What a move does, seen in parts.

-- What a move does is seen in parts: the calls of the hub, the steps, the states. A fact of each kind of
-- move is a fact of every move.
pub record OfMove (P : State → List Told → List Did → State → Type 0) : Type 0 where
  pub quiet : (st : State) → P st [] [] st
  pub opens : (st new : State) (s : ℕ) (class : Class) (piece : Bytes) (e : Effect) → Step st (opened s) e new
      → P st (Turning (Opened s class) piece ∷ []) (record { event = opened s; effect = e } ∷ []) new
  pub refuses : (st new : State) (s offered : ℕ) (class : Class) (piece taken : Bytes) (sent : Sent) (e : Effect)
      → Step st (opened s) e new
      → P st (Turning (Opened s class) piece ∷ Sending s offered sent taken ∷ Closing s ∷ [])
      (record { event = opened s; effect = e } ∷ []) new
  pub feeds : (st new : State) (s n : ℕ) (piece : Bytes) (e : Effect) → Step st (fed s piece) e new
      → P st (Turning (Brought s n) piece ∷ []) (record { event = fed s piece; effect = e } ∷ []) new
  pub idles : (st : State) (turn : Turn) (piece : Bytes) → opens_at (Turning turn piece) ≡ []
      → P st (Turning turn piece ∷ []) [] st
  pub runs : (st new : State) (s : ℕ) (outcome : LineOutcome) (e : Effect) → may_run st s ≡ true
      → Step st (stepped s outcome) e new → P st [] (record { event = stepped s outcome; effect = e } ∷ []) new
  pub ends : (st new : State) (s : ℕ) (e : Effect) → Step st (ended s) e new
      → P st [] (record { event = ended s; effect = e } ∷ []) new
  pub takes : (st new : State) (s offered n : ℕ) (piece : Bytes) (e : Effect) → Step st (took s piece) e new
      → P st (Sending s offered (Took n) piece ∷ []) (record { event = took s piece; effect = e } ∷ []) new
  pub blocked : (st : State) (s offered : ℕ) → P st (Sending s offered Again [] ∷ []) [] st
  pub gone : (st new : State) (s offered : ℕ) (bytes : Bytes) (e : Effect) → Step st (closed s bytes) e new
      → P st (Sending s offered Gone [] ∷ Closing s ∷ []) (record { event = closed s bytes; effect = e } ∷ []) new
  pub closes : (st new : State) (s : ℕ) (bytes : Bytes) (e : Effect) → Step st (closed s bytes) e new
      → P st (Closing s ∷ []) (record { event = closed s bytes; effect = e } ∷ []) new

module _ (P : State → List Told → List Did → State → Type 0) (h : OfMove P) where
  -- one step of an event, where the fact is known of such steps
  by_step : (event : Event) (st : State) (told : List Told) (done : List Did) (new : State) → Happens event st done new
      → ((e : Effect) → Step st event e new → P st told (record { event = event; effect = e } ∷ []) new)
      → P st told done new
  by_step event st told done new (e, step, is) f = subst (λ (ds : List Did). P st told ds new) (sym is) (f e step)

  by_none : (st : State) (told : List Told) (done : List Did) (new : State) → Stays st done new → P st told [] st
      → P st told done new
  by_none st told done new (none, same) f = subst (λ (ds : List Did). P st told ds new) (sym none)
      (subst (λ (k : State). P st told [] k) (sym same) f)

  by_passing : (st : State) (p : Phase) (m : Move) (new : Server) → PhasePasses st p m new
      → P st m.told m.done new.state
  by_passing st p m new (none, same) =
      subst (λ (k : Move). P st k.told k.done new.state) (sym none)
      (subst (λ (k : Server). P st [] [] k.state) (sym same) (h.quiet st))

  told_as : (st new : State) (told told' : List Told) (done : List Did) → told ≡ told' → P st told' done new
      → P st told done new
  told_as st new told told' done e f = subst (λ (ts : List Told). P st ts done new) (sym e) f

  let_in : (s : ℕ) (class : Class) (piece : Bytes) (st : State) (more : List Told) (done : List Did) (new : State)
      → Happens (opened s) st done new → LetsIn s st more new
      → P st (Turning (Opened s class) piece ∷ more) done new
  let_in s class piece st more done new happens (inl (there, none)) =
      told_as st new (Turning (Opened s class) piece ∷ more) (Turning (Opened s class) piece ∷ []) done
      (ap (λ (ts : List Told). Turning (Opened s class) piece ∷ ts) none)
      (by_step (opened s) st (Turning (Opened s class) piece ∷ []) done new happens (h.opens st new s class piece))
  let_in s class piece st more done new happens (inr (out, sent, fits, is)) =
      told_as st new (Turning (Opened s class) piece ∷ more) _ done
      (ap (λ (ts : List Told). Turning (Opened s class) piece ∷ ts) is)
      (by_step (opened s) st _ done new happens
      (h.refuses st new s (length (refusal_for st)) class piece _ sent))

  -- a turn that makes no step
  idle : (turn : Turn) (piece : Bytes) (st : State) (more : List Told) (done : List Did) (new : State)
      → Stays st done new → more ≡ [] → opens_at (Turning turn piece) ≡ [] → P st (Turning turn piece ∷ more) done new
  idle turn piece st more done new stays none unopened =
      told_as st new (Turning turn piece ∷ more) (Turning turn piece ∷ []) done
      (ap (λ (ts : List Told). Turning turn piece ∷ ts) none)
      (by_none st _ done new stays (h.idles st turn piece unopened))

  by_turn_of : (left : ℕ) (turn : Turn) (piece : Bytes) (st : State) (more : List Told) (done : List Did) (new : State)
      (next : Phase) → Brings left turn piece st more done new next → P st (Turning turn piece ∷ more) done new
  by_turn_of left (Opened s class) piece st more done new next (happens, lets, phase) =
      let_in s class piece st more done new happens lets
  by_turn_of left (Brought s n) piece st more done new next (happens, none, phase, is) =
      told_as st new (Turning (Brought s n) piece ∷ more) (Turning (Brought s n) piece ∷ []) done
      (ap (λ (ts : List Told). Turning (Brought s n) piece ∷ ts) none)
      (by_step (fed s piece) st _ done new happens (h.feeds st new s n piece))
  by_turn_of left (Ended s) piece st more done new next (stays, none, phase) =
      idle (Ended s) piece st more done new stays none refl
  by_turn_of left Idle piece st more done new next (stays, none, phase) =
      idle Idle piece st more done new stays none refl
  by_turn_of left HubOver piece st more done new next (stays, none, phase) =
      idle HubOver piece st more done new stays none refl
  by_turn_of left Failed piece st more done new next (stays, none, phase) =
      idle Failed piece st more done new stays none refl

  by_taking : (left : ℕ) (st : State) (m : Move) (new : Server) → TakesTurn left st m new
      → P st m.told m.done new.state
  by_taking left st m new (turn, piece, more, is, unlogged, brings) =
      told_as st new.state m.told (Turning turn piece ∷ more) m.done is
      (by_turn_of left turn piece st more m.done new.state new.phase brings)

  by_end : (last : Last) (st : State) (done : List Did) (new : State) → EndsRound last st done new → P st [] done new
  by_end next_round st done new stays = by_none st [] done new stays (h.quiet st)
  by_end no_turn st done new stays = by_none st [] done new stays (h.quiet st)
  by_end (input_over s) st done new ends = by (ends_input st s) ends
    where
      by : (b : Bool) → EndsInputIf s st done new b → P st [] done new
      by true happens = by_step (ended s) st [] done new happens (h.ends st new s)
      by false stays = by_none st [] done new stays (h.quiet st)

  by_lines : (from count : ℕ) (groups : List Group) (last : Last) (st : State) (m : Move) (new : Server)
      (o : Option ℕ) → next_ready st from ≡ o → RunsAt count groups last st m new o → P st m.told m.done new.state
  by_lines from count groups last st m new (Some s) next (none, unlogged, outcome, happens, on) =
      told_as st new.state m.told [] m.done none
      (by_step (stepped s outcome) st [] m.done new.state happens
      (λ e step. h.runs st new.state s outcome e (next_may st from s next) step))
  by_lines from count groups last st m new None next (none, unlogged, ends, phase) =
      told_as st new.state m.told [] m.done none (by_end last st m.done new.state ends)

  by_sending : (sent : Sent) (s : ℕ) (st : State) (told : List Told) (done : List Did) (new : State)
      → SendsSome sent s st told done new → P st told done new
  by_sending (Took n) s st told done new (some, within, is, happens) =
      let piece = take n (pending_of st s) in
      told_as st new told _ done is
      (by_step (took s piece) st _ done new happens (h.takes st new s (length (pending_of st s)) n piece))
  by_sending Again s st told done new (is, stays) =
      told_as st new told _ done is (by_none st _ done new stays (h.blocked st s (length (pending_of st s))))
  by_sending Gone s st told done new (is, happens) =
      told_as st new told _ done is
      (by_step (closed s (pending_of st s)) st _ done new happens
      (h.gone st new s (length (pending_of st s)) (pending_of st s)))

  by_visit : (s : ℕ) (st : State) (told : List Told) (done : List Did) (new : State) (to : ℕ)
      → Visits s st told done new to → P st told done new
  by_visit s st told done new to (inl (some, sent, sends, place)) = by_sending sent s st told done new sends
  by_visit s st told done new to (inr (none, cause, (is, happens), place)) = told_as st new told _ done is
      (by_step (closed s []) st _ done new happens (h.closes st new s []))

  by_flush : (next : Next) (st : State) (m : Move) (new : Server) (o : Option ℕ) → FlushesAt next st m new o
      → P st m.told m.done new.state
  by_flush next st m new None passes = by_passing st (after st next) m new passes
  by_flush next st m new (Some s) (unlogged, to, visits, phase) = by_visit s st m.told m.done new.state to visits

  by_close : (answer : Served) (st : State) (m : Move) (new : Server) (o : Option ℕ) → ClosesFirst answer st m new o
      → P st m.told m.done new.state
  by_close answer st m new None none = absurd none
  by_close answer st m new (Some s) (is, unlogged, happens, phase) =
      told_as st new.state m.told (Closing s ∷ []) m.done is
      (by_step (closed s (pending_of st s)) st _ m.done new.state happens
      (h.closes st new.state s (pending_of st s)))

  by_phase : (most : ℕ) (p : Phase) (st : State) (m : Move) (new : Server) → ServesAt most p st m new
      → P st m.told m.done new.state
  by_phase most waiting st m new (inl passes) = by_passing st (closing TurnsUsed) m new passes
  by_phase most waiting st m new (inr taking) = by_taking (most - 1) st m new taking
  by_phase most (gathering left) st m new (inl passes) = by_passing st (running 0 0 [] next_round) m new passes
  by_phase most (gathering left) st m new (inr (some, taking)) = by_taking (left - 1) st m new taking
  by_phase most (running from count groups last) st m new g =
      by_lines from count groups last st m new (next_ready st from) refl g
  by_phase most (keeping groups next) st m new (none, undone, logged, same, stored) =
      told_as st new.state m.told [] m.done none (by_none st [] m.done new.state (undone, same) (h.quiet st))
  by_phase most (flushing from next) st m new g = by_flush next st m new (first_due st from) g
  by_phase most (closing answer) st m new g = by_close answer st m new (first_open st) g

  pub of_move : (most : ℕ) (old : Server) (m : Move) (new : Server) → MakesMove most old m new
      → P old.state m.told m.done new.state
  of_move most old m new g = by_phase most old.phase old.state m new g.0

-- ---- The laws.

-- Each move is a run of the machine, and so are they all.
abbrev MoveRuns : State → List Told → List Did → State → Type 0
MoveRuns st told done new = Run st done new

runs_by : OfMove MoveRuns
runs_by = record {
  quiet = λ st. refl;
  opens = λ st new s class piece e step. (new, step, refl);
  refuses = λ st new s offered class piece taken sent e step. (new, step, refl);
  feeds = λ st new s n piece e step. (new, step, refl);
  ends = λ st new s e step. (new, step, refl);
  idles = λ st turn piece none. refl;
  runs = λ st new s outcome e may step. (new, step, refl);
  takes = λ st new s offered n piece e step. (new, step, refl);
  blocked = λ st s offered. refl;
  gone = λ st new s offered bytes e step. (new, step, refl);
  closes = λ st new s bytes e step. (new, step, refl);
}

pub serve_runs : (most : ℕ) (old : Server) (moves : List Move) (new : Server) → Walk (MakesMove most) old moves new
    → Run old.state (all_done moves) new.state
serve_runs most old [] new w = ap (λ (k : Server). k.state) w
serve_runs most old (m ∷ moves) new w =
    walk_then (λ (o : State) (d : Did) (n : State). Step o d.event d.effect n) old.state m.done (w.0).state
    (all_done moves) new.state
    (of_move MoveRuns runs_by most old m w.0 w.1) (serve_runs most w.0 moves new w.2)

-- What a move sends to a session is what it takes of its pending bytes, unless it refuses that session.
abbrev MoveSends : ℕ → State → List Told → List Did → State → Type 0
MoveSends s st told done new = refuses s told ≡ false → sent_to s told ≡ all_taken s done

none_either : (none : Bytes) (b : Bool) → none ≡ [] → cond b none none ++ [] ≡ none
none_either none true e = subst (λ (k : Bytes). k ++ [] ≡ k) (sym e) refl
none_either none false e = subst (λ (k : Bytes). k ++ [] ≡ k) (sym e) refl

other_none : (none taken : Bytes) (b : Bool) → none ≡ [] → b ≡ false → cond b taken none ++ [] ≡ none
other_none none taken b e f = rw (f, e) refl

sends_by : (s : ℕ) → OfMove (MoveSends s)
sends_by s = record {
  quiet = λ st never. refl;
  opens = λ st new t class piece e step never. refl;
  refuses = λ st new t offered class piece taken sent e step never. other_none [] taken (t == s) refl never;
  feeds = λ st new t n piece e step never. refl;
  ends = λ st new t e step never. refl;
  idles = λ st turn piece none never. refl;
  runs = λ st new t outcome e may step never. refl;
  takes = λ st new t offered n piece e step never. refl;
  blocked = λ st t offered never. none_either [] (t == s) refl;
  gone = λ st new t offered bytes e step never. none_either [] (t == s) refl;
  closes = λ st new t bytes e step never. refl;
}

pub serve_sends : (most s : ℕ) (old : Server) (moves : List Move) (new : Server) → Walk (MakesMove most) old moves new
    → NeverRefused s moves → sent_to s (all_told moves) ≡ all_taken s (all_done moves)
serve_sends most s old [] new w never = refl
serve_sends most s old (m ∷ moves) new w never =
    flat_map-append (λ t. sent_by s t) m.told (all_told moves)
    ∙ ap₂ (λ (a b : Bytes). a ++ b)
    (of_move (MoveSends s) (sends_by s) most old m w.0 w.1
    (All-head (λ (k : Move). refuses s k.told ≡ false) m moves never))
    (serve_sends most s w.0 moves new w.2 (All-tail (λ (k : Move). refuses s k.told ≡ false) m moves never))
    ∙ sym (flat_map-append (λ (d : Did). taken_from s d.event) m.done (all_done moves))

-- A session opens in the machine exactly where one opens at the hub.
abbrev MoveOpens : State → List Told → List Did → State → Type 0
MoveOpens st told done new = all_opened done ≡ opened_in told

opens_by : OfMove MoveOpens
opens_by = record {
  quiet = λ st. refl;
  opens = λ st new s class piece e step. refl;
  refuses = λ st new s offered class piece taken sent e step. refl;
  feeds = λ st new s n piece e step. refl;
  ends = λ st new s e step. refl;
  idles = λ st turn piece none. ap (λ (is : List ℕ). is ++ []) (sym none);
  runs = λ st new s outcome e may step. refl;
  takes = λ st new s offered n piece e step. refl;
  blocked = λ st s offered. refl;
  gone = λ st new s offered bytes e step. refl;
  closes = λ st new s bytes e step. refl;
}

pub serve_opens : (most : ℕ) (old : Server) (moves : List Move) (new : Server) → Walk (MakesMove most) old moves new
    → all_opened (all_done moves) ≡ opened_in (all_told moves)
serve_opens most old [] new w = refl
serve_opens most old (m ∷ moves) new w =
    flat_map-append (λ (d : Did). opened_by d.event) m.done (all_done moves)
    ∙ ap₂ (λ (a b : List ℕ). a ++ b) (of_move MoveOpens opens_by most old m w.0 w.1) (serve_opens most w.0 moves new w.2)
    ∙ sym (flat_map-append opens_at m.told (all_told moves))
