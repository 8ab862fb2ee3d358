-- Which commands are never refused for memory.
use Rattle.std.specs.Prelude.{ℕ, ◌≡◌, Bool, true, false, Option, is_none, Some, Contains}
use Rattle.djq_model.specs.Data.{Bytes}
use Rattle.djq_protocol.specs.declared.answer.Refusal.TheVariants.{NoMemory}
use Rattle.djq_protocol.specs.declared.command.Command.{Command}
use Rattle.djq_protocol.specs.declared.command.Command.TheVariants.{Del, Drop, Next, Close, Has, Unwatch, Explain, Shape, Abandon, Quit, Stop}
use Rattle.djq_protocol.specs.Grammar.{says_command, reading_of, takes_memory_to_read}
use Rattle.djq_protocol.specs.Reply.{refusal_line}
use Rattle.djq_store_spec.specs.Held.{HeldTransaction}
use Rattle.djq_machine.specs.State.{Session, State, session_of}
use Rattle.djq_machine.specs.Effect.{Effect}
use Rattle.djq_machine.specs.LineStep.{run}
use Rattle.djq_machine.specs.Step.{stepped, Step}
use Rattle.djq_machine.specs.Command.{CommandStep}

-- A command that takes away, asks or ends is carried out without memory once it is read. With a batch open the row of
-- a `del` is held, and so isn't among them.
abbrev pub needs_none : Option HeldTransaction → Command → Bool
needs_none batch (Del name row) = is_none batch
needs_none batch (Drop q) = true
needs_none batch (Next c count) = true
needs_none batch (Close c) = true
needs_none batch (Has q row) = true
needs_none batch (Unwatch q) = true
needs_none batch (Explain q) = true
needs_none batch (Shape q) = true
needs_none batch Abandon = true
needs_none batch Quit = true
needs_none batch Stop = true
needs_none batch _ = false

-- nothing is queued that refuses a command for memory
abbrev pub RefusesNone : Effect → Type 0
RefusesNone e = (s : ℕ) → Contains e.queued (s, refusal_line NoMemory) → ⊥

-- **Never refused for memory.** Such a command isn't, once it is read. Nor is its line, unless it has values or columns
-- to read, as `del` and `has` have.
pub record NeverRefusedForMemory : Type 0 where
  pub once_read : (old : State) (s : ℕ) (x : Session) (l : Bytes) (c : Command) (e : Effect) (new : State)
      → needs_none x.batch c ≡ true → CommandStep old s x l c e new → RefusesNone e
  pub whole : (old : State) (s : ℕ) (x : Session) (l : Bytes) (c : Command) (e : Effect) (new : State)
      → session_of old s ≡ Some x → reading_of l ≡ says_command c → takes_memory_to_read c ≡ false
      → needs_none x.batch c ≡ true → Step old (stepped s (run l)) e new → RefusesNone e
