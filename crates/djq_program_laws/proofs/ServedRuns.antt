-- What holds of every serving holds of `serve` and of `replay`; and what does: of cursors, listings and mirrors.
use Rattle.std.specs.Prelude.{ℕ, List, ◌≡◌, ◌++◌, Option}
use Rattle.std.proofs.Common.{refl, sym, subst}
use Rattle.djq_io.specs.Calls.{sent_to}
use Rattle.djq_model.specs.Listed.{Listed}
use Rattle.djq_machine.specs.State.{State}
use Rattle.djq_machine.specs.Run.{lines_in, out}
use Rattle.djq_run_laws.specs.Sound.{IsStart}
use Rattle.djq_run_laws.proofs.Starts.{runs_have_listed, runs_stay_live}
use Rattle.djq_mirror_laws.specs.Sayable.{IsSayableStore}
use Rattle.djq_mirror_laws.specs.Whole.{ReadsSinceOpened}
use Rattle.djq_mirror_laws.proofs.SayableStates.{loaded_are_sayable}
use Rattle.djq_serve.specs.Server.{Move, all_told, all_done}
use Rattle.djq_serve.specs.Ends.{RunsThrough}
use Rattle.djq_program_laws.specs.declared.limits.TheConstants.{ROUND_TURNS}
use Rattle.djq_program_laws.specs.Logged.{LogSeen}
use Rattle.djq_program_laws.specs.Mirrored.{IsMirroredBack}
use Rattle.djq_program_laws.specs.Served.{Serving, HaveListed, StayLive, AreReadBack, OfServing, OfServe, OfReplay}
use Rattle.djq_program_laws.proofs.ProgramRuns.{starts, serving_is_read_back, serving_was_read_back}

-- ---- `serve` and `replay` are servings

pub serve_too : (Holds : State → List Move → State → Type 0) → OfServing Holds → OfServe Holds
serve_too Holds every log status addr turns hub counted hub' counted' serves =
    every log serves.start serves.ends.goes.moves serves.state (record {
      found = serves.found;
      first = serves.first;
      counted = counted;
      loaded = serves.loaded;
      begins = serves.begins;
      answer = serves.answer;
      turns = turns;
      most = ROUND_TURNS;
      hub = serves.ready;
      hub_left = hub'.shown;
      used = counted';
      ends = serves.ends;
      by_moves = refl;
    })

pub replay_too : (Holds : State → List Move → State → Type 0) → OfServing Holds → OfReplay Holds
replay_too Holds every log turns most counted counted' past plays =
    every log plays.start plays.ends.goes.moves plays.state (record {
      found = plays.found;
      first = plays.first;
      counted = counted;
      loaded = plays.loaded;
      begins = plays.begins;
      answer = plays.answer;
      turns = most;
      most = 1;
      hub = _;
      hub_left = _;
      used = counted';
      ends = plays.ends;
      by_moves = refl;
    })

-- ---- what holds of every serving

-- it started from a state to start from, whose names and values lines can say
served_start : (log : Option LogSeen) (start : State) (moves : List Move) (state : State)
    → Serving log start moves state → IsStart start
served_start log start moves state v = starts log v.found v.first v.counted start v.loaded v.begins

served_sayable : (log : Option LogSeen) (start : State) (moves : List Move) (state : State)
    → Serving log start moves state → IsSayableStore start.store
served_sayable log start moves state v =
    loaded_are_sayable (v.found ++ lines_in v.first) start.store (v.begins).loads

pub served_have_listed : OfServing HaveListed
served_have_listed log start moves state v m =
    runs_have_listed start (served_start log start moves state v) m.done m.at m.passed.1

pub served_stay_live : OfServing StayLive
served_stay_live log start moves state v m =
    runs_stay_live start (served_start log start moves state v) m.done m.at m.passed.1

pub served_are_read_back : OfServing AreReadBack
served_are_read_back log start moves state v =
    let begun = served_start log start moves state v in
    let said = served_sayable log start moves state v in record {
      moments = λ m q s at reads same.
          serving_was_read_back start begun said v.answer v.turns v.most v.hub v.loaded v.hub_left v.used state v.ends m.done
          m.at m.later
          (subst (λ (ms : List Move). RunsThrough start (all_done ms) m.done m.at m.later state) (sym v.by_moves)
          m.passed) q s at reads same;
      end = subst
          (λ (ms : List Move). (q : Listed) (s : ℕ) (at : State) → ReadsSinceOpened q s start (all_done ms) at state
          → sent_to s (all_told ms) ≡ out s (all_done ms) → IsMirroredBack q (sent_to s (all_told ms)) at) v.by_moves
          (λ q s at reads same. serving_is_read_back start begun said v.answer v.turns v.most v.hub v.loaded v.hub_left v.used
          state v.ends q s at reads same);
    }
