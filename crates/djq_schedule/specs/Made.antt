-- The hub that a schedule is.
use Rattle.std.specs.Prelude.{ℕ, List, [], ◌∷◌, ◌++◌, ◌≡◌, ◌+◌, Bool, true, false, nat_le, Option}
use Rattle.std.specs.Prelude.{None, Some, IsSomeAnd, if◌then◌else◌, length, Result, Ok, Err}
use Rattle.djq_io.specs.Hub.{no_ids}
use Rattle.djq_io.specs.MemHub.{Recorded, with_coming}
use Rattle.djq_io.specs.declared.hub.Coming.{Coming}
use Rattle.djq_model.specs.Data.{Bytes}
use Rattle.djq_schedule.specs.declared.schedule.ScheduleRefusal.{ScheduleRefusal}
use Rattle.djq_schedule.specs.declared.schedule.ScheduleRefusal.TheVariants.{Outside, NoMem}
use Rattle.djq_schedule.specs.Schedule.{Order, Stage, schedule_lines, order_of, may_stand, stage_after}
use Rattle.djq_schedule.specs.Schedule.{blocked_after, turn_of_line}

-- the meaning of a line, if it is in the grammar at this stage
abbrev pub standing : Stage → Option Order → Option Order
standing st None = None
standing st (Some o) = if may_stand st o.0 o.1.0 then Some o else None

-- the meaning of a line of at most 8192 bytes, if it is in the grammar at this stage
abbrev pub in_grammar : Stage → Bytes → Option Order
in_grammar st line = if nat_le (length line) 8192 then standing st (order_of line) else None

-- the turn of a line, with the sessions that are blocked after it
abbrev pub coming_of : Stage → Order → Coming
coming_of st o = record {
  turn = turn_of_line o.0 o.1.0 o.1.1;
  blocked =
      blocked_after o.0 o.1.0 st.blocked;
}

-- the stage after a line
abbrev pub next_stage : Stage → Order → Stage
next_stage st o = stage_after o.0 o.1.0 st

-- turns in front of what follows them
abbrev pub behind_turns : List Coming → Result (List Coming) ℕ → Result (List Coming) ℕ
behind_turns turns (Ok more) = Ok (turns ++ more)
behind_turns turns (Err n) = Err n

-- the turn of a line, and then others; or that it is outside
abbrev pub turns_by : Stage → ℕ → Option Order → (Order → Result (List Coming) ℕ)
    → Result (List Coming) ℕ
turns_by st n None more = Err n
turns_by st n (Some o) more = behind_turns (coming_of st o ∷ []) (more o)

-- The turns of lines, the first of which has this number; or the number of the first that is
-- outside the grammar.
abbrev pub turns_from : Stage → ℕ → List Bytes → Result (List Coming) ℕ
turns_from st n [] = Ok []
turns_from st n (l ∷ ls) = turns_by st n (in_grammar st l)
    (λ o. turns_from (next_stage st o) (n + 1) ls)

-- the stage before the first line, as nothing was opened
abbrev pub first_stage : Stage
first_stage = record { newest = None; opened = []; ended = []; blocked = [] }

-- The turns of a schedule, or the number of its first line outside the grammar.
abbrev pub turns_of : Bytes → Result (List Coming) ℕ
turns_of bytes = turns_from first_stage 1 (schedule_lines bytes)

-- A hub that was asked nothing yet, with the turns of this schedule as its script.
pub record ScheduleIsMade (bytes : Bytes) (hub : Recorded) : Type 0 where
  pub turns : turns_of bytes ≡ Ok hub.script.turns
  pub blocked : hub.script.blocked ≡ []
  pub past : hub.past ≡ Some []
  pub ids : hub.ids ≡ no_ids
  pub listens : hub.failing_listens ≡ []
  pub fails : hub.failing_turns ≡ []
  pub sends : hub.failing_sends ≡ []

-- This line is the first outside the grammar, or memory was wanted.
abbrev pub ScheduleRefuses : Bytes → ScheduleRefusal → Type 0
ScheduleRefuses bytes (Outside n) = turns_of bytes ≡ Err n
ScheduleRefuses bytes NoMem = Unit {0}

-- A line was added, with its turn; or it is outside the grammar, and nothing changed.
abbrev pub AddsLine : Bool → Stage → Recorded → Bytes → Stage → Recorded → Type 0
AddsLine true st hub line st' hub' = IsSomeAnd (in_grammar st line)
    (λ o. (st' ≡ next_stage st o) × (hub' ≡ with_coming hub (coming_of st o)))
AddsLine false st hub line st' hub' = in_grammar st line ≡ None
