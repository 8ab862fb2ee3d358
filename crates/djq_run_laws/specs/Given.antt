-- What open cursors have given along runs, and the headline of a course.
use Rattle.std.specs.Prelude.{List, [], ◌≡◌, ◌++◌, ◌+◌, ◌≤◌}
use Rattle.djq_io.specs.Sink.{bytes_of}
use Rattle.djq_machine.specs.State.{State}
use Rattle.djq_machine.specs.Run.{Did, Run, Walk, out, all_taken, cost_of, pending_of}
use Rattle.djq_machine.specs.Gives.{CursorsGive}
use Rattle.djq_run_laws.specs.Lines.{TakesInOrder}
use Rattle.djq_run_laws.specs.Course.{RunNext, Outside, Course}

-- Along every run each open cursor continues to give different answers of its query over the present
-- rows, and all of them, each once, if the end was sent.
abbrev pub RunsGive : Type 0
RunsGive = (old : State) (done : List Did) (new : State) → Run old done new → CursorsGive old
    → CursorsGive new

-- a state that a course passes through on its way
abbrev pub PassedThrough : State → List Did → State → State → Type 0
PassedThrough start done mid state = (earlier : List Did) × (later : List Did)
    × (done ≡ earlier ++ later) × Walk RunNext start earlier mid × Walk RunNext mid later state

-- **The headline** of a course, as far as it got. What the sink accepted and what is pending still is
-- all that the run queued, in order. The lines that were removed from the input are those that the
-- bytes fed are cut into, in order. What was counted of listings in all is no more than the run may
-- cost. And at each moment each open cursor gives what it should.
pub record Headline (start : State) (before now : Outside) (state : State)
    (course : Course start before now state) : Type 0 where
  pub written : bytes_of course.writes ≡ all_taken 1 course.done
  pub sent : all_taken 1 course.done ++ pending_of state 1 ≡ out 1 course.done
  pub lines : TakesInOrder 1 start course.done state
  pub listing : now.counted.listing ≤ before.counted.listing + cost_of course.done
  pub cursors : (mid : State) → PassedThrough start course.done mid state → CursorsGive mid

-- Every course from a state in which no session is open has the headline.
abbrev pub CoursesGive : Type 0
CoursesGive = (start : State) (before now : Outside) (state : State) (course : Course start before now state)
    → start.sessions ≡ [] → Headline start before now state course
