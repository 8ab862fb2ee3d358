-- Answers are few, and a reading that hasn't ended has read some more each time, so the reading ends.
use Rattle.std.proofs.Common.{◌+◌, rules}
use Rattle.djq_load.specs.Totals.{next_line}
use Rattle.djq_load.proofs.WholeLoads.{read_few, fewer_left, read_all}
use Rattle.djq_load.proofs.IdleSessions.{loads_again}
use Rattle.djq_load.proofs.loading.list_answers.Goals as goal

pub reads-smaller : goal.reads-smaller
reads-smaller g c =
    let so_far = c.reads.invariant.read in
    let few = read_few _ _ _ _ c.reads.invariant.idle c.in_ok-reading.ensures.loads c.reads.invariant.few in
    fewer_left _ _ c.reads.reading c.in_ok-reading.reading so_far.0 c.reads.invariant.few few (search rules) so_far.2
    (c.in_ok-reading.ensures.read so_far.0 so_far.2)

pub reads-preserved : goal.reads-preserved
reads-preserved g c =
    let so_far = c.reads.invariant.read in
    record {
      idle = c.in_ok-reading.ensures.idle;
      few = read_few _ _ _ _ c.reads.invariant.idle c.in_ok-reading.ensures.loads c.reads.invariant.few;
      read = (
        so_far.0 + 1,
        loads_again next_line so_far.0 _ _ _ _ _ _ so_far.1 c.in_ok-reading.ensures.loads,
        c.in_ok-reading.ensures.read so_far.0 so_far.2,
      );
    }

pub returns-clause-told : goal.returns-clause-told
returns-clause-told g c =
    let so_far = c.reads.invariant.read in (
      so_far.0,
      so_far.1,
      read_all _ c.reads.reading so_far.0 c.reads.invariant.few so_far.2 (search rules),
    )
