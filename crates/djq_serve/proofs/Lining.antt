-- The lines of a round, one after another, and the commits between them.
use Rattle.std.specs.Prelude.{ℕ, List, [], ◌∷◌, ◌++◌, ◌≡◌, ◌<◌, ◌+◌, codes, Option, None, Some}
use Rattle.std.proofs.Common.{refl, sym, ap, ap₂, ◌∙◌, subst, inl, inr, arith}
use Rattle.std.proofs.lemmas.Grind.{flat_map-append}
use Rattle.std.specs.List.{AllByRecursion}
use Rattle.djq_disk.specs.File.{File}
use Rattle.djq_disk.proofs.Files.{all_append}
use Rattle.djq_io.specs.Hub.{Ids}
use Rattle.djq_journal.specs.Format.{IsJournalLine}
use Rattle.djq_log.specs.Logging.{grouped, FillsLog}
use Rattle.djq_log.specs.declared.end.LogEnd.{LogEnd}
use Rattle.djq_log.specs.declared.log.Kept.TheVariants.{All, Failed, Full}
use Rattle.djq_model.specs.Data.{Bytes}
use Rattle.djq_machine.specs.State.{State}
use Rattle.djq_machine.specs.Keeping.{Keeping, no_line, the_line, the_batch}
use Rattle.djq_machine.specs.LineStep.{LineOutcome, long, blank, slow, no_room, run}
use Rattle.djq_machine.specs.Step.{stepped, Step}
use Rattle.djq_machine.specs.Effect.{Effect}
use Rattle.djq_machine.specs.Run.{Group, kept_group, groups_in, lines_in}
use Rattle.djq_machine.specs.Call.{Counts, StepsLine}
use Rattle.djq_run_laws.specs.Holding.{HoldLines}
use Rattle.djq_run_laws.proofs.BatchLines.{kept_lines, step_hold_lines}
use Rattle.djq_run_laws.proofs.Sessions.{step_ids}
use Rattle.djq_serve.specs.declared.served.Served.{Served}
use Rattle.djq_serve.specs.declared.served.Served.TheVariants.{DiskFault, LogFull}
use Rattle.djq_serve.specs.declared.limits.TheConstants.{COMMIT_LINES}
use Rattle.djq_serve.specs.Told.{Shown}
use Rattle.djq_serve.specs.Server.{Last, more_lines, running, keeping, flushing, closing, server, next_ready, after}
use Rattle.djq_serve.specs.Goes.{LogPlace, LogsGroups, seen, GoesLogging}
use Rattle.djq_serve.specs.Kept.{Agrees, Spares, work}
use Rattle.djq_serve.specs.Parts.{Flushes, MakesCommit, RunsLines}
use Rattle.djq_serve.proofs.Going.{goes_none, goes_then}
use Rattle.djq_serve.proofs.Moving.{line_goes, commit_goes}
use Rattle.djq_serve.proofs.Sessions.{agrees_same}
use Rattle.djq_serve.proofs.Working.{next_open, line_works}
use Rattle.djq_serve.proofs.LoggedGroups.{full_some}

-- ---- A commit: its lines are handed to the log.

pub commit_stored : (hub hub' : Shown) (st new : State) (the_lines : List Bytes) (log log' : LogPlace)
    → (moments : List File) × LogsGroups (grouped the_lines) All moments log log' → Flushes hub st hub' new
    → MakesCommit None hub st the_lines hub' new log log'
commit_stored hub hub' st new the_lines log log' logs flushed = record {
  goes = λ groups is most next counted turns.
      goes_then most (seen hub counted turns) (server st (keeping groups next)) log (seen hub counted turns)
      (server st (flushing 0 next)) log' (seen hub' counted turns) (server new (after new next)) log'
      (commit_goes most hub counted turns log log' st groups next (flushing 0 next) All logs.0
      (subst (λ (ls : List Bytes). LogsGroups (grouped ls) All logs.0 log log') (sym is) logs.1) refl)
      (flushed.goes most next counted turns log');
}

pub commit_fails : (hub : Shown) (st : State) (the_lines : List Bytes) (log log' : LogPlace) (end : Option LogEnd)
    → (moments : List File) × LogsGroups (grouped the_lines) Failed moments log log' → FillsLog Failed end the_lines
    → MakesCommit (Some DiskFault) hub st the_lines hub st log log'
commit_fails hub st the_lines log log' end logs fills = record {
  goes = λ groups is most next counted turns.
      commit_goes most hub counted turns log log' st groups next (closing DiskFault) Failed logs.0
      (subst (λ (ls : List Bytes). LogsGroups (grouped ls) Failed logs.0 log log') (sym is) logs.1)
      ((λ none. fills.1 (sym is ∙ none)), refl);
}

pub commit_fills : (hub : Shown) (st : State) (the_lines : List Bytes) (log log' : LogPlace) (end : Option LogEnd)
    → (moments : List File) × LogsGroups (grouped the_lines) Full moments log log' → FillsLog Full end the_lines
    → MakesCommit (Some LogFull) hub st the_lines hub st log log'
commit_fills hub st the_lines log log' end logs fills = record {
  goes = λ groups is most next counted turns.
      commit_goes most hub counted turns log log' st groups next (closing LogFull) Full logs.0
      (subst (λ (ls : List Bytes). LogsGroups (grouped ls) Full logs.0 log log') (sym is) logs.1)
      ((λ none. full_some end the_lines fills (sym is ∙ none)), refl);
}

-- ---- What a step logs are lines that a log takes.

by_keeping : (old : State) (s : ℕ) (l : Bytes) (e : Effect) (new : State) → Step old (stepped s (run l)) e new
    → HoldLines old → (k : Keeping) → e.kept ≡ k → AllByRecursion IsJournalLine (lines_in (groups_in l k))
by_keeping old s l e new h hold no_line is = tt
by_keeping old s l e new h hold the_line is =
    kept_lines old s l e h.mid h.acts hold (l ∷ []) (ap (λ (k : Keeping). groups_in l k) is)
by_keeping old s l e new h hold (the_batch held) is =
    all_append IsJournalLine (codes "batch" ∷ held ++ codes "done" ∷ []) []
    (kept_lines old s l e h.mid h.acts hold (codes "batch" ∷ held ++ codes "done" ∷ [])
    (ap (λ (k : Keeping). groups_in l k) is)) tt

step_lines : (old : State) (s : ℕ) (outcome : LineOutcome) (e : Effect) (new : State) → Step old (stepped s outcome) e new
    → HoldLines old → AllByRecursion IsJournalLine (lines_in (kept_group (stepped s outcome) e.kept))
step_lines old s long e new h hold = tt
step_lines old s (blank l) e new h hold = tt
step_lines old s (slow l) e new h hold = tt
step_lines old s (no_room l) e new h hold = tt
step_lines old s (run l) e new h hold = by_keeping old s l e new h hold e.kept refl

-- so they are after those of the commit
pub lines_more : (st : State) (s : ℕ) (ran : State) (mid now : Counts) (lines lines' : List Bytes) → HoldLines st
    → StepsLine st s ran mid now lines lines' → AllByRecursion IsJournalLine lines → AllByRecursion IsJournalLine lines'
lines_more st s ran mid now lines lines' hold step are =
    subst (λ (ls : List Bytes). AllByRecursion IsJournalLine ls) (sym step.logs)
    (all_append IsJournalLine lines _ are (step_lines st s step.outcome step.makes.effect ran step.makes.step hold))

-- and what batches hold are lines still
pub line_holds : (st : State) (s : ℕ) (ran : State) (mid now : Counts) (lines lines' : List Bytes)
    → StepsLine st s ran mid now lines lines' → HoldLines st → HoldLines ran
line_holds st s ran mid now lines lines' step hold =
    step_hold_lines st (stepped s step.outcome) step.makes.effect ran step.makes.step hold

-- ---- Lines that are run one after another.

-- What is so of the lines of a round from the first on: with these groups in the open commit.
pub record Lining (x y : Shown) (before now : Counts) (old st : State) (from count : ℕ) (log log' : LogPlace)
    (lines : List Bytes) : Type 0 where
  pub groups : List Group
  pub are : lines_in groups ≡ lines
  pub goes : (most : ℕ) (last : Last) (turns : ℕ)
      → GoesLogging most (seen x before turns) (server old (running 0 0 [] last)) log (seen y now turns)
      (server st (running from count groups last)) log'

pub lines_begun : (x : Shown) (counted : Counts) (old st : State) (log : LogPlace) (lines : List Bytes) → st ≡ old
    → lines ≡ [] → Lining x x counted counted old st 0 0 log log lines
lines_begun x counted old st log lines same none = record {
  groups = [];
  are = sym none;
  goes = λ most last turns.
      subst (λ (k : State). GoesLogging most (seen x counted turns) (server old (running 0 0 [] last)) log
      (seen x counted turns) (server k (running 0 0 [] last)) log) (sym same)
      (goes_none most (seen x counted turns) (server old (running 0 0 [] last)) log);
}

-- a step stays that of a line, of a machine that is asked for room
pub line_still : (st : State) (s : ℕ) (ran ran' : State) (mid now : Counts) (lines lines' lines'' : List Bytes)
    → StepsLine st s ran mid now lines lines' → ran' ≡ ran → lines'' ≡ lines' → StepsLine st s ran' mid now lines lines''
line_still st s ran ran' mid now lines lines' lines'' step same also =
    subst (λ (ls : List Bytes). StepsLine st s ran' mid now lines ls) (sym also)
    (subst (λ (k : State). StepsLine st s k mid now lines lines') (sym same) step)

-- less is to be run
pub line_smaller : (st : State) (from s : ℕ) (ran new : State) (mid now : Counts) (lines lines' : List Bytes)
    → next_ready st from ≡ Some s → StepsLine st s ran mid now lines lines' → Spares ran new → work new < work st
line_smaller st from s ran new mid now lines lines' ready step spares =
    let less = line_works st s step.outcome step.makes.effect ran step.makes.step (next_open st from s ready) in
    omega (arith, less, spares.fewer)

lines_then : (groups more : List Group) (lines lines' : List Bytes) → lines_in groups ≡ lines
    → lines' ≡ lines ++ lines_in more → lines_in (groups ++ more) ≡ lines'
lines_then groups more lines lines' are is =
    flat_map-append (λ (group : Group). group) groups more ∙ ap (λ (ls : List Bytes). ls ++ lines_in more) are ∙ sym is

-- a line more, and the commit goes on
pub line_more : (x y : Shown) (before mid now : Counts) (old st ran : State) (from count s from' count' : ℕ)
    (log log' : LogPlace) (lines lines' : List Bytes) → Lining x y before mid old st from count log log' lines
    → next_ready st from ≡ Some s → StepsLine st s ran mid now lines lines' → from' ≡ s + 1 → count' ≡ count + 1
    → count' < COMMIT_LINES → Lining x y before now old ran from' count' log log' lines'
line_more x y before mid now old st ran from count s from' count' log log' lines lines' so_far ready step at many few =
    let more = kept_group (stepped s step.outcome) step.makes.effect.kept in
    let all = so_far.groups ++ more in
    let few_so : count + 1 < COMMIT_LINES = subst (λ (n : ℕ). n < COMMIT_LINES) many few in
    record {
      groups = all;
      are = lines_then so_far.groups more lines lines' so_far.are step.logs;
      goes = λ most last turns.
          goes_then most (seen x before turns) (server old (running 0 0 [] last)) log (seen y mid turns)
          (server st (running from count so_far.groups last)) log' (seen y now turns)
          (server ran (running from' count' all last)) log' (so_far.goes most last turns)
          (line_goes most y mid now turns log' st ran from count s so_far.groups last (running from' count' all last)
          step.outcome ready step.makes
          (inl (few_so, ap₂ (λ (a b : ℕ). running a b all last) at many)));
    }

-- a line more, and the commit ends
line_last : (x y : Shown) (before mid now : Counts) (old st ran : State) (from count s : ℕ) (log log' : LogPlace)
    (lines lines' : List Bytes) → (so_far : Lining x y before mid old st from count log log' lines)
    → next_ready st from ≡ Some s → (step : StepsLine st s ran mid now lines lines') → (most : ℕ) (last : Last) (turns : ℕ)
    → GoesLogging most (seen x before turns) (server old (running 0 0 [] last)) log (seen y now turns)
    (server ran (keeping (so_far.groups ++ kept_group (stepped s step.outcome) step.makes.effect.kept)
    (more_lines (s + 1) last))) log'
line_last x y before mid now old st ran from count s log log' lines lines' so_far ready step most last turns =
    let all = so_far.groups ++ kept_group (stepped s step.outcome) step.makes.effect.kept in
    goes_then most (seen x before turns) (server old (running 0 0 [] last)) log (seen y mid turns)
    (server st (running from count so_far.groups last)) log' (seen y now turns)
    (server ran (keeping all (more_lines (s + 1) last))) log' (so_far.goes most last turns)
    (line_goes most y mid now turns log' st ran from count s so_far.groups last (keeping all (more_lines (s + 1) last))
    step.outcome ready step.makes (inr refl))

pub line_commits : (x y z : Shown) (before mid now : Counts) (old st ran new : State) (from count s from' count' : ℕ)
    (log log' log'' : LogPlace) (lines lines' lines'' : List Bytes)
    → Lining x y before mid old st from count log log' lines → next_ready st from ≡ Some s
    → StepsLine st s ran mid now lines lines' → from' ≡ s + 1 → count' ≡ 0 → MakesCommit None y ran lines' z new log' log''
    → lines'' ≡ [] → Lining x z before now old new from' count' log log'' lines''
line_commits x y z before mid now old st ran new from count s from' count' log log' log'' lines lines' lines'' so_far ready
    step at many commits none =
    let more = kept_group (stepped s step.outcome) step.makes.effect.kept in
    let all = so_far.groups ++ more in
    record {
      groups = [];
      are = sym none;
      goes = λ most last turns.
          subst (λ (b : ℕ). GoesLogging most (seen x before turns) (server old (running 0 0 [] last)) log
          (seen z now turns) (server new (running from' b [] last)) log'') (sym many)
          (subst (λ (a : ℕ). GoesLogging most (seen x before turns) (server old (running 0 0 [] last)) log
          (seen z now turns) (server new (running a 0 [] last)) log'') (sym at)
          (goes_then most (seen x before turns) (server old (running 0 0 [] last)) log (seen y now turns)
          (server ran (keeping all (more_lines (s + 1) last))) log' (seen z now turns)
          (server new (running (s + 1) 0 [] last)) log''
          (line_last x y before mid now old st ran from count s log log' lines lines' so_far ready step most last turns)
          (commits.goes all (lines_then so_far.groups more lines lines' so_far.are step.logs) most
          (more_lines (s + 1) last) now turns)));
    }

-- a line more, and the commit can't be logged
pub line_stops : (answer : Served) (x y z : Shown) (before mid now : Counts) (old st ran new : State) (from count s : ℕ)
    (log log' log'' : LogPlace) (lines lines' lines'' : List Bytes)
    → Lining x y before mid old st from count log log' lines → next_ready st from ≡ Some s
    → StepsLine st s ran mid now lines lines' → MakesCommit (Some answer) y ran lines' z new log' log''
    → RunsLines (Some answer) x before old log z now new log'' lines''
line_stops answer x y z before mid now old st ran new from count s log log' log'' lines lines' lines'' so_far ready step
    commits =
    let more = kept_group (stepped s step.outcome) step.makes.effect.kept in
    let all = so_far.groups ++ more in
    record {
      from = 0;
      count = 0;
      groups = [];
      goes = λ most last turns.
          goes_then most (seen x before turns) (server old (running 0 0 [] last)) log (seen y now turns)
          (server ran (keeping all (more_lines (s + 1) last))) log' (seen z now turns) (server new (closing answer)) log''
          (line_last x y before mid now old st ran from count s log log' lines lines' so_far ready step most last turns)
          (commits.goes all (lines_then so_far.groups more lines lines' so_far.are step.logs) most
          (more_lines (s + 1) last) now turns);
      none_left = λ goes_on. absurd (is_some goes_on);
    }
  where
    is_some : Some answer ≡ None → ⊥
    is_some e = cc

-- none is left
pub lines_done : (x y : Shown) (before now : Counts) (old st : State) (from count : ℕ) (log log' : LogPlace)
    (lines : List Bytes) → Lining x y before now old st from count log log' lines → next_ready st from ≡ None
    → RunsLines None x before old log y now st log' lines
lines_done x y before now old st from count log log' lines so_far none = record {
  from = from;
  count = count;
  groups = so_far.groups;
  goes = so_far.goes;
  none_left = λ goes_on. (none, so_far.are);
}

-- the hub has the machine's sessions after a line too
pub line_agrees : (st : State) (s : ℕ) (ran : State) (mid now : Counts) (lines lines' : List Bytes) (ids : Ids)
    → StepsLine st s ran mid now lines lines' → Agrees st ids → Agrees ran ids
line_agrees st s ran mid now lines lines' ids step agrees =
    agrees_same st ran ids ids (step_ids st (stepped s step.outcome) step.makes.effect ran step.makes.step) refl agrees
