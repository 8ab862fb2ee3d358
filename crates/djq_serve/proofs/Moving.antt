-- Each move of the server, as its code makes it.
use Rattle.std.specs.Prelude.{ℕ, List, [], ◌∷◌, ◌++◌, ◌≡◌, Option, None, Some, length, ◌+◌, ◌-◌, ◌≤◌, ◌<◌}
use Rattle.std.specs.Prelude.{IsSome, take}
use Rattle.std.proofs.Common.{refl, subst, sym, arith, inl, inr}
use Rattle.std.proofs.lemmas.List.Sums.{sum_by-cons}
use Rattle.djq_disk.specs.File.{File}
use Rattle.djq_io.specs.declared.hub.Turn.{Turn}
use Rattle.djq_io.specs.declared.hub.Told.{Told}
use Rattle.djq_io.specs.declared.hub.Told.TheVariants.{Turning, Closing}
use Rattle.djq_io.specs.declared.hub.Sent.TheVariants.{Took, Again, Gone}
use Rattle.djq_log.specs.Logging.{grouped}
use Rattle.djq_log.specs.declared.log.Kept.{Kept}
use Rattle.djq_model.specs.Data.{Bytes}
use Rattle.djq_machine.specs.Run.{Did, Group, kept_group, lines_in, pending_of}
use Rattle.djq_machine.specs.State.{State}
use Rattle.djq_machine.specs.LineStep.{LineOutcome}
use Rattle.djq_machine.specs.Step.{stepped, took, closed, Step}
use Rattle.djq_machine.specs.Call.{Makes, MakesCounted, Counts, cause_of, first_due}
use Rattle.djq_serve.specs.declared.served.Served.{Served}
use Rattle.djq_serve.specs.declared.served.Served.TheVariants.{TurnsUsed}
use Rattle.djq_serve.specs.Server.{offering, Move, Last, next_round, Next, round_over, Phase, waiting}
use Rattle.djq_serve.specs.Server.{gathering, running, keeping, flushing, closing, server, move, Brings}
use Rattle.djq_serve.specs.Server.{next_ready, RunsOn, RunsAt, EndsRound, is_last, StoredThen, after, first_open, FlushesAt}
use Rattle.djq_serve.specs.Server.{ClosesFirst, TakesTurn, Server, ServesAt}
use Rattle.djq_serve.specs.Told.{Shown, HubTells, turn_in, turns_in}
use Rattle.djq_serve.specs.Goes.{LogPlace, LogsGroups, seen, GoesLogging, GoesQuietly}
use Rattle.djq_serve.proofs.Going.{tells_none, goes_by, goes_quietly, happens}

-- ---- A flush: nothing is due any more; bytes were taken; none are taken now; the session is gone; or it
-- has ended, and nothing is pending.

pub flush_over : (most : ℕ) (hub : Shown) (st : State) (from : ℕ) (next : Next) → first_due st from ≡ None
    → GoesQuietly most hub (server st (flushing from next)) hub (server st (after st next))
flush_over most hub st from next none =
    let m = move [] [] in
    goes_quietly most hub hub (server st (flushing from next)) (server st (after st next)) [] []
    (subst (λ (o : Option ℕ). FlushesAt next st m (server st (after st next)) o) (sym none) (refl, refl))
    (tells_none hub) refl

pub visit_takes : (most : ℕ) (hub hub' : Shown) (st new : State) (from : ℕ) (next : Next) (s n : ℕ) → first_due st from ≡ Some s
    → 1 ≤ n → n ≤ length (pending_of st s) → Makes st (took s (take n (pending_of st s))) new
    → HubTells hub hub' (offering s (pending_of st s) (Took n) ∷ [])
    → GoesQuietly most hub (server st (flushing from next)) hub' (server new (flushing s next))
visit_takes most hub hub' st new from next s n due some within makes told =
    let event = took s (take n (pending_of st s)) in
    let m = move (offering s (pending_of st s) (Took n) ∷ []) (record { event = event; effect = makes.effect } ∷ []) in
    let b = server new (flushing s next) in
    goes_quietly most hub hub' (server st (flushing from next)) b m.told m.done
    (subst (λ (o : Option ℕ). FlushesAt next st m b o) (sym due)
    (refl, s, inl (omega (arith, some, within), Took n, (some, within, refl, happens event st new makes), refl), refl))
    told refl

pub visit_blocked : (most : ℕ) (hub hub' : Shown) (st : State) (from : ℕ) (next : Next) (s : ℕ) → first_due st from ≡ Some s
    → 0 < length (pending_of st s)
    → HubTells hub hub' (offering s (pending_of st s) Again ∷ [])
    → GoesQuietly most hub (server st (flushing from next)) hub' (server st (flushing (s + 1) next))
visit_blocked most hub hub' st from next s due some told =
    let m = move (offering s (pending_of st s) Again ∷ []) [] in
    let b = server st (flushing (s + 1) next) in
    goes_quietly most hub hub' (server st (flushing from next)) b m.told m.done
    (subst (λ (o : Option ℕ). FlushesAt next st m b o) (sym due)
    (refl, s + 1, inl (some, Again, (refl, (refl, refl)), refl), refl)) told refl

pub visit_gone : (most : ℕ) (hub hub' : Shown) (st new : State) (from : ℕ) (next : Next) (s : ℕ) → first_due st from ≡ Some s
    → 0 < length (pending_of st s)
    → Makes st (closed s (pending_of st s)) new → HubTells hub hub' (offering s (pending_of st s) Gone ∷ Closing s ∷ [])
    → GoesQuietly most hub (server st (flushing from next)) hub' (server new (flushing (s + 1) next))
visit_gone most hub hub' st new from next s due some makes told =
    let d : Did = record { event = closed s (pending_of st s); effect = makes.effect } in
    let m = move (offering s (pending_of st s) Gone ∷ Closing s ∷ []) (d ∷ []) in
    let b = server new (flushing (s + 1) next) in
    goes_quietly most hub hub' (server st (flushing from next)) b m.told m.done
    (subst (λ (o : Option ℕ). FlushesAt next st m b o) (sym due)
    (refl, s + 1, inl (some, Gone, (refl, happens (closed s (pending_of st s)) st new makes), refl), refl)) told refl

pub visit_closes : (most : ℕ) (hub hub' : Shown) (st new : State) (from : ℕ) (next : Next) (s : ℕ) → first_due st from ≡ Some s
    → pending_of st s ≡ [] → IsSome (cause_of st s)
    → Makes st (closed s (pending_of st s)) new → HubTells hub hub' (Closing s ∷ [])
    → GoesQuietly most hub (server st (flushing from next)) hub' (server new (flushing (s + 1) next))
visit_closes most hub hub' st new from next s due none has_ended makes told =
    let m = move (Closing s ∷ []) (record { event = closed s []; effect = makes.effect } ∷ []) in
    let b = server new (flushing (s + 1) next) in
    let quiet : Step st (closed s []) makes.effect new = subst
    (λ (bytes : Bytes). Step st (closed s bytes) makes.effect new) none makes.step in
    goes_quietly most hub hub' (server st (flushing from next)) b m.told m.done
    (subst (λ (o : Option ℕ). FlushesAt next st m b o) (sym due)
    (refl, s + 1, inr (none, has_ended, (refl, (makes.effect, quiet, refl)), refl), refl)) told refl

-- ---- The lines of a round.

-- a line of a session comes to something
pub line_goes : (most : ℕ) (hub : Shown) (before now : Counts) (turns : ℕ) (log : LogPlace) (st new : State)
    (from count s : ℕ) (groups : List Group) (last : Last) (p : Phase) (outcome : LineOutcome)
    → next_ready st from ≡ Some s → (makes : MakesCounted st (stepped s outcome) new before now)
    → RunsOn s count (groups ++ kept_group (stepped s outcome) makes.effect.kept) last p
    → GoesLogging most (seen hub before turns) (server st (running from count groups last)) log
    (seen hub now turns) (server new p) log
line_goes most hub before now turns log st new from count s groups last p outcome ready makes on =
    let d : Did = record { event = stepped s outcome; effect = makes.effect } in
    let m : Move = record (move [] (d ∷ [])) { listed = now.listing - before.listing } in
    let a = server st (running from count groups last) in
    let b = server new p in
    goes_by most (seen hub before turns) a log (seen hub now turns) b log m (
      subst (λ (o : Option ℕ). RunsAt count groups last st m b o) (sym ready)
          (refl, refl, outcome, (makes.effect, makes.step, refl), on),
      omega (arith, makes.listing, sum_by-cons (λ (x : Did). x.effect.cost) d []),
    )
    (tells_none hub) refl (omega arith) (refl, refl)

-- none is left
pub lines_over : (most : ℕ) (hub : Shown) (st new : State) (from count : ℕ) (groups : List Group) (last : Last)
    (done : List Did) → next_ready st from ≡ None → EndsRound last st done new
    → GoesQuietly most hub (server st (running from count groups last)) hub
    (server new (keeping groups (round_over (is_last last))))
lines_over most hub st new from count groups last done none ends =
    let b = server new (keeping groups (round_over (is_last last))) in
    goes_quietly most hub hub (server st (running from count groups last)) b [] done
    (subst (λ (o : Option ℕ). RunsAt count groups last st (move [] done) b o) (sym none) (refl, refl, ends, refl))
    (tells_none hub) refl

-- ---- The commit: what the log answers.

pub commit_goes : (most : ℕ) (hub : Shown) (counted : Counts) (turns : ℕ) (log log' : LogPlace) (st : State)
    (groups : List Group) (next : Next) (p : Phase) (answer : Kept) (moments : List File)
    → LogsGroups (grouped (lines_in groups)) answer moments log log' → StoredThen answer groups next p
    → GoesLogging most (seen hub counted turns) (server st (keeping groups next)) log
    (seen hub counted turns) (server st p) log'
commit_goes most hub counted turns log log' st groups next p answer moments logs then_it =
    let m : Move = record {
      told = [];
      done = [];
      logged = grouped (lines_in groups);
      stored = answer;
      listed = 0;
      moments = moments;
    } in
    goes_by most (seen hub counted turns) (server st (keeping groups next)) log (seen hub counted turns) (server st p)
    log' m ((refl, refl, refl, refl, then_it), omega arith) (tells_none hub) (omega arith) (omega arith) logs

-- ---- A turn, or none any more.

pub turns_over : (most : ℕ) (hub : Shown) (st : State)
    → GoesQuietly most hub (server st waiting) hub (server st (closing TurnsUsed))
turns_over most hub st =
    goes_quietly most hub hub (server st waiting) (server st (closing TurnsUsed)) [] [] (inl (refl, refl))
    (tells_none hub) refl

-- the round has no further turn
pub gathered : (most left : ℕ) (hub : Shown) (st : State)
    → GoesQuietly most hub (server st (gathering left)) hub (server st (running 0 0 [] next_round))
gathered most left hub st =
    goes_quietly most hub hub (server st (gathering left)) (server st (running 0 0 [] next_round)) [] []
    (inl (refl, refl)) (tells_none hub) refl

none_in_more : (more : List Told) → turns_in more ≡ 0 → (turn : Turn) (piece : Bytes)
    → turns_in (Turning turn piece ∷ more) ≡ 1
none_in_more more none turn piece = omega (arith, sum_by-cons turn_in (Turning turn piece) more, none)

-- a turn is the first of a round, or a further one
pub turn_goes : (most left : ℕ) (p : Phase) (hub hub' : Shown) (counted : Counts) (turns : ℕ) (log : LogPlace)
    (st new : State) (turn : Turn) (piece : Bytes) (more : List Told) (done : List Did) (next : Phase)
    → ((m : Move) (b : Server) → TakesTurn left st m b → ServesAt most p st m b)
    → Brings left turn piece st more done new next → turns_in more ≡ 0 → HubTells hub hub' (Turning turn piece ∷ more)
    → GoesLogging most (seen hub counted turns) (server st p) log (seen hub' counted (turns + 1)) (server new next) log
turn_goes most left p hub hub' counted turns log st new turn piece more done next takes brings none told =
    let m = move (Turning turn piece ∷ more) done in
    goes_by most (seen hub counted turns) (server st p) log (seen hub' counted (turns + 1)) (server new next) log m
    (takes m (server new next) (turn, piece, more, refl, refl, brings), omega arith) told (omega arith)
    (omega (arith, none_in_more more none turn piece)) (refl, refl)

-- ---- A session is closed at the end.

pub closing_goes : (most : ℕ) (hub hub' : Shown) (st new : State) (answer : Served) (s : ℕ) → first_open st ≡ Some s
    → Makes st (closed s (pending_of st s)) new → HubTells hub hub' (Closing s ∷ [])
    → GoesQuietly most hub (server st (closing answer)) hub' (server new (closing answer))
closing_goes most hub hub' st new answer s first makes told =
    let m = move (Closing s ∷ []) (record { event = closed s (pending_of st s); effect = makes.effect } ∷ []) in
    let b = server new (closing answer) in
    goes_quietly most hub hub' (server st (closing answer)) b m.told m.done
    (subst (λ (o : Option ℕ). ClosesFirst answer st m b o) (sym first)
    (refl, refl, happens (closed s (pending_of st s)) st new makes, refl)) told refl
