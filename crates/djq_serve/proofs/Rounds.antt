-- How a round ends, and rounds one after another.
use Rattle.std.specs.Prelude.{ℕ, List, [], ◌≡◌, ◌⊎◌, ◌≤◌, ◌+◌, ◌&&◌, Bool, true, false, not, Option, None, Some}
use Rattle.std.specs.Prelude.{is_some, IsSome, nat_eq}
use Rattle.std.specs.List.{list_any}
use Rattle.std.proofs.Common.{refl, sym, ap, ap₂, ◌∙◌, subst, inl, inr}
use Rattle.djq_io.specs.Hub.{Ids}
use Rattle.djq_model.specs.Data.{Bytes}
use Rattle.djq_machine.specs.State.{State, session_of}
use Rattle.djq_machine.specs.Step.{ended, is_dry}
use Rattle.djq_machine.specs.Run.{Did, Group, lines_in}
use Rattle.djq_machine.specs.Call.{IsOpen, Makes, Counts, first_ready, cause_of, held_of, state_ids}
use Rattle.djq_run_laws.specs.Holding.{HoldLines}
use Rattle.djq_run_laws.proofs.Sessions.{step_ids}
use Rattle.djq_serve.specs.declared.served.Served.{Served}
use Rattle.djq_serve.specs.declared.served.Served.TheVariants.{Stopped, Over, TurnsUsed, HubFault, DiskFault, LogFull}
use Rattle.djq_serve.specs.declared.rest.Rest.{Rest}
use Rattle.djq_serve.specs.declared.rest.Rest.TheVariants.{Nothing, Ends, Over as HubOver, Failed}
use Rattle.djq_serve.specs.Told.{Shown}
use Rattle.djq_serve.specs.Server.{Last, next_round, input_over, no_turn, round_over, waiting, running, keeping}
use Rattle.djq_serve.specs.Server.{closing, server, next_ready, EndsRound, EndsInputIf, ends_input, is_last, after_round}
use Rattle.djq_serve.specs.Goes.{LogPlace, seen, GoesLogging}
use Rattle.djq_serve.specs.Kept.{Agrees}
use Rattle.djq_serve.specs.Ends.{TurnsTaken, FaultsCount}
use Rattle.djq_serve.specs.Parts.{phase_of, rest_to_last, EndsInputOf, MakesCommit, FinishesRound, RunsLines, EndsRoundBy}
use Rattle.djq_serve.specs.Parts.{MayLose, MayFinish, MayEnd, RestCounts, Gathers, after_turns, after_commit, Took}
use Rattle.djq_serve.proofs.Going.{goes_none, goes_then, happens, made_holds_lines}
use Rattle.djq_serve.proofs.Moving.{lines_over, turns_over}
use Rattle.djq_serve.proofs.Sessions.{agrees_same, open_by}
use Rattle.djq_serve.proofs.Working.{none_dry}

-- ---- The input of a session ends with the round.

-- whether it can be ended, as the code asks
pub input_by : (st : State) (s : ℕ) (has : Bool) → has ≡ list_any (λ i. nat_eq i s) (state_ids st)
    → st.stopped ≡ false → has ≡ ends_input st s
input_by st s has is going = rw going (is ∙ sym (open_by st s))

pub no_input : (st : State) (s : ℕ) → st.stopped ≡ true → false ≡ ends_input st s
no_input st s stopped = rw stopped refl

-- it is open, where it can
pub input_open : (st : State) (s : ℕ) → ends_input st s ≡ true → IsOpen st s
input_open st s can = by_parts st.stopped (is_some (session_of st s)) can
  where
    by_parts : (a b : Bool) → (not a && b) ≡ true → b ≡ true
    by_parts true b e = absurd cc
    by_parts false b e = e

pub input_going : (st : State) (s : ℕ) → ends_input st s ≡ true → st.stopped ≡ false
input_going st s can = by_parts st.stopped (is_some (session_of st s)) can
  where
    by_parts : (a b : Bool) → (not a && b) ≡ true → a ≡ false
    by_parts true b e = absurd cc
    by_parts false b e = refl

-- it holds no line that may be run
pub input_dry : (st : State) (s : ℕ) → first_ready st 0 ≡ None → ends_input st s ≡ true
    → IsSome (cause_of st s) ⊎ (is_dry (held_of st s) ≡ true)
input_dry st s none can = none_dry st none (input_going st s can) s (input_open st s can)

record EndsIt (last : Last) (old new : State) : Type 0 where
  pub done : List Did
  pub ends : EndsRound last old done new

ends_if : (s : ℕ) (old new : State) (b : Bool) → ends_input old s ≡ b → EndsInputOf (input_over s) old new
    → (done : List Did) × EndsInputIf s old done new b
ends_if s old new true is (inl makes) = (_, happens (ended s) old new makes.1)
ends_if s old new false is (inl makes) = absurd (differ (sym makes.0 ∙ is))
  where
    differ : true ≡ false → ⊥
    differ e = cc
ends_if s old new true is (inr stays) = absurd (differ (sym is ∙ stays.0))
  where
    differ : true ≡ false → ⊥
    differ e = cc
ends_if s old new false is (inr stays) = ([], (refl, stays.1))

ends_it : (last : Last) (old new : State) → EndsInputOf last old new → EndsIt last old new
ends_it next_round old new same = record { done = []; ends = (refl, same) }
ends_it no_turn old new same = record { done = []; ends = (refl, same) }
ends_it (input_over s) old new h =
    let ends = ends_if s old new (ends_input old s) refl h in
    record { done = ends.0; ends = ends.1 }

-- what holds of a state holds after that, where it holds after a step
pub ends_keeps : (last : Last) (old new : State) (P : State → Type 0) → EndsInputOf last old new
    → ((s : ℕ) → Makes old (ended s) new → P new) → P old → P new
ends_keeps next_round old new P same made h = subst P (sym same) h
ends_keeps no_turn old new P same made h = subst P (sym same) h
ends_keeps (input_over s) old new P (inl makes) made h = made s makes.1
ends_keeps (input_over s) old new P (inr stays) made h = subst P (sym stays.1) h

pub ends_agrees : (last : Last) (old new : State) (ids : Ids) → EndsInputOf last old new → Agrees old ids
    → Agrees new ids
ends_agrees last old new ids ends agrees =
    ends_keeps last old new (λ (st : State). Agrees st ids) ends
    (λ s makes. agrees_same old new ids ids (step_ids old (ended s) makes.effect new makes.step) refl agrees)
    agrees

pub ends_holds : (last : Last) (old new : State) → EndsInputOf last old new → HoldLines old → HoldLines new
ends_holds last old new ends hold =
    ends_keeps last old new HoldLines ends (λ s makes. made_holds_lines old (ended s) new makes hold) hold

-- ---- The last commit of a round.

-- up to the flush
finish_goes : (rest : Rest) (result : Option Served) (x y : Shown) (old mid new : State) (the_lines : List Bytes)
    (log log' : LogPlace) → EndsInputOf (rest_to_last rest) old mid → MakesCommit result x mid the_lines y new log log'
    → (groups : List Group) → lines_in groups ≡ the_lines → (from : ℕ) → next_ready old from ≡ None
    → (most count : ℕ) (counted : Counts) (turns : ℕ)
    → GoesLogging most (seen x counted turns) (server old (running from count groups (rest_to_last rest))) log
    (seen y counted turns) (server new (after_commit result new (round_over (is_last (rest_to_last rest))))) log'
finish_goes rest result x y old mid new the_lines log log' ends commits groups are from none most count counted turns =
    let last = rest_to_last rest in
    let next = round_over (is_last last) in
    let it = ends_it last old mid ends in
    goes_then most (seen x counted turns) (server old (running from count groups last)) log (seen x counted turns)
    (server mid (keeping groups next)) log (seen y counted turns) (server new (after_commit result new next)) log'
    (lines_over most x old mid from count groups last it.done none it.ends counted turns log)
    (commits.goes groups are most next counted turns)

pub finish_lost : (answer : Served) (rest : Rest) (x y : Shown) (old mid new : State) (the_lines : List Bytes)
    (log log' : LogPlace) → EndsInputOf (rest_to_last rest) old mid
    → MakesCommit (Some answer) x mid the_lines y new log log'
    → FinishesRound (Some answer) rest x old the_lines log y new log'
finish_lost answer rest x y old mid new the_lines log log' ends commits = record {
  goes = finish_goes rest (Some answer) x y old mid new the_lines log log' ends commits;
}

finish_as : (result : Option Served) (rest : Rest) (x y : Shown) (old mid new : State) (the_lines : List Bytes)
    (log log' : LogPlace) → EndsInputOf (rest_to_last rest) old mid → MakesCommit None x mid the_lines y new log log'
    → after_round new.stopped (is_last (rest_to_last rest)) ≡ phase_of result
    → FinishesRound result rest x old the_lines log y new log'
finish_as result rest x y old mid new the_lines log log' ends commits is = record {
  goes = λ groups are from none most count counted turns.
      subst (λ p. GoesLogging most (seen x counted turns) (server old (running from count groups (rest_to_last rest))) log
      (seen y counted turns) (server new p) log') is
      (finish_goes rest None x y old mid new the_lines log log' ends commits groups are from none most count counted
      turns);
}

pub finish_stopped : (rest : Rest) (x y : Shown) (old mid new : State) (the_lines : List Bytes) (log log' : LogPlace)
    → EndsInputOf (rest_to_last rest) old mid → MakesCommit None x mid the_lines y new log log' → new.stopped ≡ true
    → FinishesRound (Some Stopped) rest x old the_lines log y new log'
finish_stopped rest x y old mid new the_lines log log' ends commits stopped =
    finish_as (Some Stopped) rest x y old mid new the_lines log log' ends commits
    (ap (λ (b : Bool). after_round b (is_last (rest_to_last rest))) stopped)

pub finish_over : (rest : Rest) (x y : Shown) (old mid new : State) (the_lines : List Bytes) (log log' : LogPlace)
    → EndsInputOf (rest_to_last rest) old mid → MakesCommit None x mid the_lines y new log log' → new.stopped ≡ false
    → rest ≡ HubOver → FinishesRound (Some Over) rest x old the_lines log y new log'
finish_over rest x y old mid new the_lines log log' ends commits going over =
    finish_as (Some Over) rest x y old mid new the_lines log log' ends commits
    (ap₂ (λ (b : Bool) (r : Rest). after_round b (is_last (rest_to_last r))) going over)

goes_on : (rest : Rest) → (rest ≡ HubOver → ⊥) → is_last (rest_to_last rest) ≡ false
goes_on Nothing out = refl
goes_on (Ends s) out = refl
goes_on HubOver out = absurd (out refl)
goes_on Failed out = refl

pub finish_round : (rest : Rest) (x y : Shown) (old mid new : State) (the_lines : List Bytes) (log log' : LogPlace)
    → EndsInputOf (rest_to_last rest) old mid → MakesCommit None x mid the_lines y new log log' → new.stopped ≡ false
    → (rest ≡ HubOver → ⊥) → FinishesRound None rest x old the_lines log y new log'
finish_round rest x y old mid new the_lines log log' ends commits going out =
    finish_as None rest x y old mid new the_lines log log' ends commits
    (ap₂ after_round going (goes_on rest out))

-- ---- A round is ended.

begun : (rest : Rest) → (rest ≡ Failed → ⊥) → after_turns rest ≡ running 0 0 [] (rest_to_last rest)
begun Nothing well = refl
begun (Ends s) well = refl
begun HubOver well = refl
begun Failed well = absurd (well refl)

pub round_fails : (rest : Rest) (x : Shown) (counted : Counts) (st : State) (log : LogPlace) → rest ≡ Failed
    → EndsRoundBy (Some HubFault) rest x counted st log x counted st log
round_fails rest x counted st log is = subst
    (λ (r : Rest). EndsRoundBy (Some HubFault) r x counted st log x counted st log) (sym is)
    (record { goes = λ most turns. goes_none most (seen x counted turns) (server st (closing HubFault)) log })

pub round_stops : (answer : Served) (rest : Rest) (x y : Shown) (before now : Counts) (old new : State)
    (log log' : LogPlace) (the_lines : List Bytes) → (rest ≡ Failed → ⊥)
    → RunsLines (Some answer) x before old log y now new log' the_lines
    → EndsRoundBy (Some answer) rest x before old log y now new log'
round_stops answer rest x y before now old new log log' the_lines well runs = record {
  goes = λ most turns. subst (λ p. GoesLogging most (seen x before turns) (server old p) log (seen y now turns)
      (server new (closing answer)) log') (sym (begun rest well)) (runs.goes most (rest_to_last rest) turns);
}

pub round_ends : (result : Option Served) (rest : Rest) (x y z : Shown) (before now : Counts) (old mid new : State)
    (log log' log'' : LogPlace) (the_lines : List Bytes) → (rest ≡ Failed → ⊥)
    → RunsLines None x before old log y now mid log' the_lines
    → FinishesRound result rest y mid the_lines log' z new log''
    → EndsRoundBy result rest x before old log z now new log''
round_ends result rest x y z before now old mid new log log' log'' the_lines well runs finishes =
    let left = runs.none_left refl in
    record {
      goes = λ most turns. subst (λ p. GoesLogging most (seen x before turns) (server old p) log (seen z now turns)
          (server new (phase_of result)) log'') (sym (begun rest well))
          (goes_then most (seen x before turns) (server old (running 0 0 [] (rest_to_last rest))) log (seen y now turns)
          (server mid (running runs.from runs.count runs.groups (rest_to_last rest))) log' (seen z now turns)
          (server new (phase_of result)) log'' (runs.goes most (rest_to_last rest) turns)
          (finishes.goes runs.groups left.1 runs.from left.0 most runs.count now turns));
    }

-- what a round answers
pub lost_finishes : (result : Option Served) → MayLose result → MayFinish result
lost_finishes None may = tt
lost_finishes (Some Stopped) may = tt
lost_finishes (Some Over) may = tt
lost_finishes (Some TurnsUsed) may = absurd may
lost_finishes (Some HubFault) may = absurd may
lost_finishes (Some DiskFault) may = tt
lost_finishes (Some LogFull) may = tt

pub finish_ends : (rest : Rest) (result : Option Served) → (rest ≡ Failed → ⊥) → MayFinish result → MayEnd rest result
finish_ends Nothing result well may = may
finish_ends (Ends s) result well may = may
finish_ends HubOver result well may = may
finish_ends Failed result well may = absurd (well refl)

pub fails_ends : (rest : Rest) → rest ≡ Failed → MayEnd rest (Some HubFault)
fails_ends rest is = subst (λ (r : Rest). MayEnd r (Some HubFault)) (sym is) refl

-- ---- Rounds, one after another.

-- What serving rounds keeps from the first on.
pub record Taking (most : ℕ) (x y : Shown) (before now : Counts) (old st : State) (log log' : LogPlace) (taken : ℕ)
    : Type 0 where
  pub goes : GoesLogging most (seen x before 0) (server old waiting) log (seen y now taken) (server st waiting) log'

pub taking_begun : (most : ℕ) (x : Shown) (counted : Counts) (st : State) (log : LogPlace) (taken : ℕ) → taken ≡ 0
    → Taking most x x counted counted st st log log taken
taking_begun most x counted st log taken none = subst (λ (n : ℕ). Taking most x x counted counted st st log log n)
    (sym none) (record { goes = goes_none most (seen x counted 0) (server st waiting) log })

-- the turns of a round, and all that ends it
round_goes : (most limit taken more : ℕ) (rest : Rest) (result : Option Served) (x y z w : Shown)
    (before mid now : Counts) (old st gathered new : State) (log log' log'' : LogPlace)
    → Taking most x y before mid old st log log' taken → limit ≤ most → Gathers limit more rest y st z gathered
    → EndsRoundBy result rest z mid gathered log' w now new log''
    → GoesLogging most (seen x before 0) (server old waiting) log (seen w now (taken + more))
    (server new (phase_of result)) log''
round_goes most limit taken more rest result x y z w before mid now old st gathered new log log' log'' so_far within
    gathers ends =
    goes_then most (seen x before 0) (server old waiting) log (seen y mid taken) (server st waiting) log'
    (seen w now (taken + more)) (server new (phase_of result)) log'' so_far.goes
    (goes_then most (seen y mid taken) (server st waiting) log' (seen z mid (taken + more))
    (server gathered (after_turns rest)) log' (seen w now (taken + more)) (server new (phase_of result)) log''
    (gathers.goes most within mid taken log') (ends.goes most (taken + more)))

pub round_more : (most limit taken more taken' : ℕ) (rest : Rest) (x y z w : Shown) (before mid now : Counts)
    (old st gathered new : State) (log log' log'' : LogPlace) → Taking most x y before mid old st log log' taken
    → limit ≤ most → Gathers limit more rest y st z gathered → EndsRoundBy None rest z mid gathered log' w now new log''
    → taken' ≡ taken + more → Taking most x w before now old new log log'' taken'
round_more most limit taken more taken' rest x y z w before mid now old st gathered new log log' log'' so_far within
    gathers ends all =
    subst (λ (n : ℕ). Taking most x w before now old new log log'' n) (sym all) (record {
      goes = round_goes most limit taken more rest None x y z w before mid now old st gathered new log log' log'' so_far
          within gathers ends;
    })

-- a round ends the serving
fewer_taken : (answer : Served) (rest : Rest) (turns taken : ℕ) → MayEnd rest (Some answer) → taken ≤ turns
    → TurnsTaken answer turns taken
fewer_taken Stopped rest turns taken h few = few
fewer_taken Over rest turns taken h few = few
fewer_taken HubFault rest turns taken h few = few
fewer_taken DiskFault rest turns taken h few = few
fewer_taken LogFull rest turns taken h few = few
fewer_taken TurnsUsed Nothing turns taken h few = absurd h
fewer_taken TurnsUsed (Ends s) turns taken h few = absurd h
fewer_taken TurnsUsed HubOver turns taken h few = absurd h
fewer_taken TurnsUsed Failed turns taken h few = absurd cc

pub round_stops_it : (answer : Served) (turns most limit taken more : ℕ) (rest : Rest) (x y z w : Shown)
    (before mid now : Counts) (old st gathered new : State) (log log' log'' : LogPlace)
    → Taking most x y before mid old st log log' taken → limit ≤ most → Gathers limit more rest y st z gathered
    → EndsRoundBy (Some answer) rest z mid gathered log' w now new log'' → MayEnd rest (Some answer)
    → taken + more ≤ turns → Took answer turns most x before old log w now new log''
round_stops_it answer turns most limit taken more rest x y z w before mid now old st gathered new log log' log'' so_far
    within gathers ends may few = record {
      taken = taken + more;
      goes = round_goes most limit taken more rest (Some answer) x y z w before mid now old st gathered new log log'
          log'' so_far within gathers ends;
      has_taken = fewer_taken answer rest turns (taken + more) may few;
    }

-- no turn is left
pub all_taken : (turns most taken : ℕ) (x y : Shown) (before now : Counts) (old st : State) (log log' : LogPlace)
    → Taking most x y before now old st log log' taken → taken ≡ turns
    → Took TurnsUsed turns most x before old log y now st log'
all_taken turns most taken x y before now old st log log' so_far all = record {
  taken = taken;
  goes = goes_then most (seen x before 0) (server old waiting) log (seen y now taken) (server st waiting) log'
      (seen y now taken) (server st (closing TurnsUsed)) log' so_far.goes (turns_over most y st now taken log');
  has_taken = all;
}

-- the hub's faults over a round that goes on, or ends the serving
pub faults_stay : (rest : Rest) (before now : ℕ) → RestCounts rest before now → MayEnd rest None → now ≡ before
faults_stay Nothing before now h may = h
faults_stay (Ends s) before now h may = h
faults_stay HubOver before now h may = h
faults_stay Failed before now h may = absurd cc

plain_counts : (answer : Served) (before now : ℕ) → MayFinish (Some answer) → now ≡ before
    → FaultsCount answer before now
plain_counts Stopped before now may h = h
plain_counts Over before now may h = h
plain_counts TurnsUsed before now may h = absurd may
plain_counts HubFault before now may h = absurd may
plain_counts DiskFault before now may h = h
plain_counts LogFull before now may h = h

inside : (a b : Served) → Some a ≡ Some b → a ≡ b
inside a b e = cc

answer_counts : (answer : Served) (rest : Rest) (before now : ℕ) → RestCounts rest before now
    → MayEnd rest (Some answer) → FaultsCount answer before now
answer_counts answer Nothing before now h may = plain_counts answer before now may h
answer_counts answer (Ends s) before now h may = plain_counts answer before now may h
answer_counts answer HubOver before now h may = plain_counts answer before now may h
answer_counts answer Failed before now h may =
    subst (λ (a : Served). FaultsCount a before now) (sym (inside answer HubFault may)) h

pub round_counts : (answer : Served) (rest : Rest) (entry before mid now : ℕ) → before ≡ entry
    → RestCounts rest before mid → now ≡ mid → MayEnd rest (Some answer) → FaultsCount answer entry now
round_counts answer rest entry before mid now same counts still may =
    answer_counts answer rest entry now
    (subst (λ (n : ℕ). RestCounts rest n now) same
    (subst (λ (n : ℕ). RestCounts rest before n) (sym still) counts)) may
