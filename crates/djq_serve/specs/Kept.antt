-- What the loops of the server preserve.
use Rattle.std.specs.Prelude.{ℕ, [], ◌∷◌, ◌+◌, ◌-◌, ◌++◌, ◌≡◌, ◌<◌, ◌≤◌, Option, None}
use Rattle.std.specs.Prelude.{Some, IsSomeAnd, length, sum_by, All}
use Rattle.djq_io.specs.Hub.{Ids}
use Rattle.djq_model.specs.Data.{Bytes}
use Rattle.djq_protocol.specs.declared.answer.EndCause.{EndCause}
use Rattle.djq_machine.specs.State.{State, Session}
use Rattle.djq_machine.specs.Call.{cause_of, held_of, state_ids}
use Rattle.djq_run_laws.specs.Holding.{HoldLines}

-- The machine has the sessions that are open at the hub, and none has an id above the newest.
pub record Agrees (st : State) (ids : Ids) : Type 0 where
  pub same : ids.open_ids ≡ state_ids st
  pub newest : All (λ s. IsSomeAnd ids.newest (λ n. s ≤ n)) (state_ids st)

-- The hub has opened one session more than the machine, with an id above all before.
pub record IsNewSession (st : State) (ids : Ids) (s : ℕ) : Type 0 where
  pub same : ids.open_ids ≡ state_ids st ++ s ∷ []
  pub newest : ids.newest ≡ Some s
  pub above : All (λ t. t < s) (state_ids st)

-- how much a flush may do still: ids that it passes, and bytes that it sends
abbrev pub flush_ahead : State → ℕ → ℕ
flush_ahead st from = (18446744073709551616 - from) + sum_by (λ (x : Session). length x.pending)
    st.sessions

-- what may still be run of a session with this cause, which holds these bytes: each of them, and its end
abbrev pub work_by : Option EndCause → Bytes → ℕ
work_by None held = 1 + length held
work_by (Some c) held = 0

-- what may still be run of a session
abbrev pub work_left_of : State → ℕ → ℕ
work_left_of st s = work_by (cause_of st s) (held_of st s)

-- what may still be run of all
abbrev pub work : State → ℕ
work st = sum_by (work_left_of st) (state_ids st)

-- What a flush leaves: no more is to be run, and what batches hold are lines still.
pub record Spares (old new : State) : Type 0 where
  pub fewer : work new ≤ work old
  pub lines : HoldLines old → HoldLines new
