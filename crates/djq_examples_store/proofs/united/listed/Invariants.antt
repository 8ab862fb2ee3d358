use Rattle.std.specs.Prelude.{IsSome}
use Rattle.djq_united.specs.Slots.{slot_at}
use Rattle.djq_united.specs.United.{IsUnited}
use Rattle.djq_examples_store.proofs.united.listed.Given as goal

abbrev pub invariant-loop-call : goal.invariant-loop-call
invariant-loop-call g l = IsUnited l.queries l.union × IsSome (slot_at l.union.cursors l.slot)
