-- The bytes that are replayed are those that were read to the end of the source.
use Rattle.std.proofs.Common.{ℕ, List, sym, subst, inl}
use Rattle.djq_program_laws.specs.Replay.{SourceReadsWhole}
use Rattle.djq_program.proofs.replay.replay.Goals as goal

pub returns-in-Ok : goal.returns-in-Ok
returns-in-Ok g c = inl (record {
  bytes = c.deref.result.now;
  reads = subst (λ (bytes : List ℕ). SourceReadsWhole (g.S.Source.told c.args.source.now)
      (g.S.Source.told c.read_whole.new.source) (g.S.Source.faults c.args.source.now)
      (g.S.Source.faults c.read_whole.new.source) bytes) (sym c.deref.ensures.value) c.in-Ok.ensures;
  writes = c.replay_schedule.ensures;
})
