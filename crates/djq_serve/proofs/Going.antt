-- How what a hub tells composes, and how the server goes from place to place.
use Rattle.std.specs.Prelude.{ℕ, List, [], ◌∷◌, ◌++◌, ◌≡◌, Option, None, Some, length, ◌+◌, ◌-◌, ◌≤◌, sum_by}
use Rattle.std.proofs.Common.{refl, subst, sym, ap, ◌∙◌, append-nil, arith}
use Rattle.std.proofs.lemmas.Grind.{flat_map-append}
use Rattle.std.proofs.lemmas.List.Sums.{sum_by-append, sum_by-cons}
use Rattle.djq_io.specs.declared.hub.Turn.{Turn}
use Rattle.djq_io.specs.declared.hub.Sent.{Sent}
use Rattle.djq_io.specs.declared.hub.Told.{Told}
use Rattle.djq_io.specs.declared.hub.Told.TheVariants.{Turning, Closing}
use Rattle.djq_io.specs.declared.limits.TheConstants.{READ_BYTES}
use Rattle.djq_io.specs.Sink.{Gains}
use Rattle.djq_io.specs.Hub.{Ids, Turns, brought, without}
use Rattle.djq_io.specs.Script.{Script, WhereTold, AnswersByScript, Sends}
use Rattle.djq_io.proofs.Streams.{gains_none, gains_more}
use Rattle.djq_model.specs.Data.{Bytes}
use Rattle.djq_machine.specs.Run.{Walk, Did, cost_of}
use Rattle.djq_machine.specs.State.{State}
use Rattle.djq_machine.specs.Step.{Event}
use Rattle.djq_machine.specs.Call.{Makes}
use Rattle.djq_run_laws.specs.Holding.{HoldLines}
use Rattle.djq_run_laws.proofs.Courses.{walk_then}
use Rattle.djq_run_laws.proofs.BatchLines.{step_hold_lines}
use Rattle.djq_serve.specs.Server.{offering, Server, Move, MakesMove, ServesAt, all_told, all_done, move, Happens}
use Rattle.djq_serve.specs.Told.{Shown, hub_shown, hub_place, IsAnswered, IdsShow, HubTells, turn_in, turns_in}
use Rattle.djq_serve.specs.Goes.{Seen, seen, LogPlace, LogsMove, ListsMove, Goes, GoesLogging, GoesQuietly}

-- ---- How what a hub tells composes, and what each of its calls tells.

played_none : (script : Option Script) (ids : Ids)
    → WhereTold script script (λ a b. Walk IsAnswered (hub_place a ids) [] (hub_place b ids))
played_none None ids = tt
played_none (Some s) ids = refl

-- no call
pub tells_none : (hub : Shown) → HubTells hub hub []
tells_none hub = record { past = gains_none hub.past; ids = refl; played = played_none hub.script hub.ids }

played_more : (a b c : Option Script) (i j k : Ids) (told more : List Told)
    → WhereTold a b (λ x y. Walk IsAnswered (hub_place x i) told (hub_place y j))
    → WhereTold b c (λ x y. Walk IsAnswered (hub_place x j) more (hub_place y k))
    → WhereTold a c (λ x y. Walk IsAnswered (hub_place x i) (told ++ more) (hub_place y k))
played_more a b None i j k told more h l = tt
played_more a None (Some z) i j k told more h l = absurd l
played_more None (Some y) (Some z) i j k told more h l = absurd h
played_more (Some x) (Some y) (Some z) i j k told more h l =
    walk_then IsAnswered (hub_place x i) told (hub_place y j) more (hub_place z k) h l

-- some calls, and then others
pub tells_more : (a b c : Shown) (told more : List Told) → HubTells a b told → HubTells b c more
    → HubTells a c (told ++ more)
tells_more a b c told more h l = record {
  past = gains_more a.past b.past c.past told more h.past l.past;
  ids = walk_then IdsShow a.ids told b.ids more c.ids h.ids l.ids;
  played = played_more a.script b.script c.script a.ids b.ids c.ids told more h.played l.played;
}

where_as : (a b : Option Script) (P Q : Script → Script → Type 0) → ((x y : Script) → P x y → Q x y) → WhereTold a b P
    → WhereTold a b Q
where_as a None P Q f h = tt
where_as None (Some y) P Q f h = absurd h
where_as (Some x) (Some y) P Q f h = f x y h

-- a turn
pub tells_turn : (past past' : Option (List Told)) (script script' : Option Script) (ids ids' : Ids) (turn : Turn)
    (buf : Bytes)
    → length buf ≡ READ_BYTES → Gains past past' (Turning turn (brought turn buf) ∷ [])
    → WhereTold script script' (λ x y. AnswersByScript ids turn buf x y) → Turns turn (length buf) ids ids'
    → HubTells (hub_shown past script ids) (hub_shown past' script' ids') (Turning turn (brought turn buf) ∷ [])
tells_turn past past' script script' ids ids' turn buf room gains follows turns = record {
  past = gains;
  ids = (ids', subst (λ (n : ℕ). Turns turn n ids ids') room turns, refl);
  played = where_as script script' (λ x y. AnswersByScript ids turn buf x y)
      (λ x y. Walk IsAnswered (hub_place x ids) (Turning turn (brought turn buf) ∷ []) (hub_place y ids'))
      (λ x y f. (hub_place y ids', (buf, room, refl, f, subst (λ (n : ℕ). Turns turn n ids ids') room turns), refl))
      follows;
}

-- a send
pub tells_send : (past past' : Option (List Told)) (script script' : Option Script) (ids ids' : Ids) (s : ℕ)
    (sent : Sent) (text : Bytes) → Gains past past' (offering s text sent ∷ []) → WhereTold script script'
    (λ x y. Sends s (length text) sent x y)
    → ids' ≡ ids → HubTells (hub_shown past script ids) (hub_shown past' script' ids') (offering s text sent ∷ [])
tells_send past past' script script' ids ids' s sent text gains sends same = record {
  past = gains;
  ids = (ids', same, refl);
  played = where_as script script' (λ x y. Sends s (length text) sent x y)
      (λ x y. Walk IsAnswered (hub_place x ids) (offering s text sent ∷ []) (hub_place y ids'))
      (λ x y f. (hub_place y ids', (f, same), refl)) sends;
}

-- a close
pub tells_close : (past past' : Option (List Told)) (script script' : Option Script) (ids ids' : Ids) (s : ℕ)
    → Gains past past' (Closing s ∷ []) → WhereTold script script' (λ x y. y ≡ x) → ids' ≡ without ids s
    → HubTells (hub_shown past script ids) (hub_shown past' script' ids') (Closing s ∷ [])
tells_close past past' script script' ids ids' s gains same without_it = record {
  past = gains;
  ids = (ids', without_it, refl);
  played = where_as script script' (λ x y. y ≡ x)
      (λ x y. Walk IsAnswered (hub_place x ids) (Closing s ∷ []) (hub_place y ids'))
      (λ x y f. (hub_place y ids', (f, without_it), refl)) same;
}

-- ---- How the server goes on: not at all, by one move, or from place to place.

-- nothing was done
pub goes_none : (most : ℕ) (o : Seen) (a : Server) (l : LogPlace) → GoesLogging most o a l o a l
goes_none most o a l = record {
  goes = record { moves = []; walk = refl; told = tells_none o.hub; listing = refl; turned = omega arith };
  logs = refl;
}

-- one move
pub goes_by : (most : ℕ) (o : Seen) (a : Server) (l : LogPlace) (o' : Seen) (b : Server) (l' : LogPlace) (m : Move)
    → MakesMove most a m b → HubTells o.hub o'.hub m.told → m.listed ≡ o'.counted.listing - o.counted.listing
    → o'.turns ≡ o.turns + turns_in m.told → LogsMove l m l' → GoesLogging most o a l o' b l'
goes_by most o a l o' b l' m serves told listing turned logs = record {
  goes = record {
    moves = m ∷ [];
    walk = (b, serves, refl);
    told = subst (λ (ts : List Told). HubTells o.hub o'.hub ts) (sym (append-nil m.told)) told;
    listing = (o'.counted.listing, listing, refl);
    turned = turned ∙ ap (λ (ts : List Told). o.turns + turns_in ts) (sym (append-nil m.told));
  };
  logs = (l', logs, refl);
}

-- one move that counts nothing, is no turn and logs nothing
pub goes_quietly : (most : ℕ) (hub hub' : Shown) (a b : Server) (told : List Told) (done : List Did)
    → ServesAt most a.phase a.state (move told done) b → HubTells hub hub' told → turns_in told ≡ 0
    → GoesQuietly most hub a hub' b
goes_quietly most hub hub' a b told done serves tells none counted turns log =
    goes_by most (seen hub counted turns) a log (seen hub' counted turns) b log (move told done) (serves, omega arith)
    tells (omega arith) (omega (arith, none)) (refl, refl)

-- some moves, and then others
pub goes_then : (most : ℕ) (o : Seen) (a : Server) (l : LogPlace) (o' : Seen) (b : Server) (l' : LogPlace) (o'' : Seen)
    (c : Server) (l'' : LogPlace) → GoesLogging most o a l o' b l' → GoesLogging most o' b l' o'' c l''
    → GoesLogging most o a l o'' c l''
goes_then most o a l o' b l' o'' c l'' p q =
    let g = p.goes in
    let h = q.goes in
    record {
      goes = record {
        moves = g.moves ++ h.moves;
        walk = walk_then (MakesMove most) a g.moves b h.moves c g.walk h.walk;
        told = subst (λ (ts : List Told). HubTells o.hub o''.hub ts)
            (sym (flat_map-append (λ (m : Move). m.told) g.moves h.moves))
            (tells_more o.hub o'.hub o''.hub (all_told g.moves) (all_told h.moves) g.told h.told);
        listing = walk_then ListsMove o.counted.listing g.moves o'.counted.listing h.moves o''.counted.listing g.listing
            h.listing;
        turned = omega (
          arith,
          g.turned,
          h.turned,
          ap turns_in (flat_map-append (λ (m : Move). m.told) g.moves h.moves),
          sum_by-append turn_in (all_told g.moves) (all_told h.moves),
        );
      };
      logs = walk_then LogsMove l g.moves l' h.moves l'' p.logs q.logs;
    }

-- some moves, and then others, that count nothing, are no turns and log nothing
pub quietly_then : (most : ℕ) (x : Shown) (a : Server) (y : Shown) (b : Server) (z : Shown) (c : Server)
    → GoesQuietly most x a y b → GoesQuietly most y b z c → GoesQuietly most x a z c
quietly_then most x a y b z c g h counted turns log =
    goes_then most (seen x counted turns) a log (seen y counted turns) b log (seen z counted turns) c log
    (g counted turns log) (h counted turns log)

pub quietly_none : (most : ℕ) (x : Shown) (a : Server) → GoesQuietly most x a x a
quietly_none most x a counted turns log = goes_none most (seen x counted turns) a log

pub happens : (event : Event) (old new : State) (m : Makes old event new)
    → Happens event old (record { event = event; effect = m.effect } ∷ []) new
happens event old new m = (m.effect, m.step, refl)

-- what batches hold are lines after a step
pub made_holds_lines : (old : State) (event : Event) (new : State) → Makes old event new → HoldLines old → HoldLines new
made_holds_lines old event new m hold = step_hold_lines old event m.effect new m.step hold

-- ---- What was counted in all.

-- how much the count of listings rose in some moves
abbrev pub all_listed : List Move → ℕ
all_listed moves = sum_by (λ (m : Move). m.listed) moves

pub counted_all : (before : ℕ) (moves : List Move) (now : ℕ) → Walk ListsMove before moves now
    → now ≤ before + all_listed moves
counted_all before [] now w = omega (arith, w)
counted_all before (m ∷ moves) now w =
    let more = counted_all w.0 moves now w.2 in
    omega (arith, more, w.1, sum_by-cons (λ (k : Move). k.listed) m moves)

pub counted_cost : (most : ℕ) (old : Server) (moves : List Move) (new : Server) → Walk (MakesMove most) old moves new
    → all_listed moves ≤ cost_of (all_done moves)
counted_cost most old [] new w = omega arith
counted_cost most old (m ∷ moves) new w =
    let more = counted_cost most w.0 moves new w.2 in
    omega (
      arith,
      more,
      w.1.1,
      sum_by-cons (λ (k : Move). k.listed) m moves,
      sum_by-append (λ (d : Did). d.effect.cost) m.done (all_done moves),
    )

-- no more was counted than the steps may cost
pub goes_cost : (most : ℕ) (o : Seen) (a : Server) (o' : Seen) (b : Server) (g : Goes most o a o' b)
    → o'.counted.listing ≤ o.counted.listing + cost_of (all_done g.moves)
goes_cost most o a o' b g = omega (
  arith,
  counted_all o.counted.listing g.moves o'.counted.listing g.listing,
  counted_cost most a g.moves b g.walk,
)
