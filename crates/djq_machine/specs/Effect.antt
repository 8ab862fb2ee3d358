-- The effect of an event beside the state: bytes queued, what it may cost, and what is logged.
use Rattle.std.specs.Prelude.{ℕ, Bool, List, [], ◌∷◌, ◌≡◌, ◌++◌}
use Rattle.djq_model.specs.Data.{Bytes}
use Rattle.djq_protocol.specs.declared.answer.EndCause.{EndCause}
use Rattle.djq_protocol.specs.declared.answer.Refusal.{Refusal}
use Rattle.djq_protocol.specs.Reply.{refusal_line}
pub use Rattle.djq_store_spec.specs.Held.{lost_line}
use Rattle.djq_machine.specs.State.{State, with_session, ended_by}
use Rattle.djq_machine.specs.Keeping.{Keeping, no_line, kept_where}

-- What an event brings about beside the state.
pub record Effect : Type 0 where
  -- The parts that are queued, in order: to which session, and which bytes. Whether a part is queued may depend on
  -- those before it.
  pub queued : List (ℕ × Bytes)
  -- the most lookups and links of listings that may be counted
  pub cost : ℕ
  -- what is logged of the line that is run
  pub kept : Keeping

-- no bytes and no cost, and nothing is logged
abbrev pub nothing : Effect
nothing = record { queued = []; cost = 0; kept = no_line }

-- bytes for one session
abbrev pub says : ℕ → Bytes → Effect
says s text = record { queued = (s, text) ∷ []; cost = 0; kept = no_line }

-- bytes for one session, which answer a line that is logged if this holds
abbrev pub answers : ℕ → Bytes → Bool → Effect
answers s text test = record { queued = (s, text) ∷ []; cost = 0; kept = kept_where test }

-- bytes for one session, if there are any
abbrev pub says_any : ℕ → Bytes → Effect
says_any s [] = nothing
says_any s (b ∷ bs) = says s (b ∷ bs)

-- A session ends with a line: the line is queued, the cause stored, and its cursors and watches are closed.
abbrev pub EndsWith : Bytes → EndCause → State → ℕ → Effect → State → Type 0
EndsWith text cause old s e new = (e ≡ says s text) × (new ≡ with_session old s (ended_by cause))

-- A session ends with a line if one is run that is logged if this holds.
abbrev pub EndsAnswering : Bytes → EndCause → Bool → State → ℕ → Effect → State → Type 0
EndsAnswering text cause test old s e new =
    (e ≡ answers s text test) × (new ≡ with_session old s (ended_by cause))

-- A refused command is answered by its line, and changes nothing.
abbrev pub RefusedStep : State → ℕ → Refusal → Effect → State → Type 0
RefusedStep old s r e new = (e ≡ says s (refusal_line r)) × (new ≡ old)

-- the state with a part queued after what is pending for its session
abbrev pub queue : State → ℕ × Bytes → State
queue st q = with_session st q.0 (λ x. record x { pending = x.pending ++ q.1 })

-- the state with all parts queued
abbrev pub queue_all : State → List (ℕ × Bytes) → State
queue_all st [] = st
queue_all st (q ∷ qs) = queue_all (queue st q) qs
