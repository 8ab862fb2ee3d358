use Rattle.std.proofs.Common.{◌≡◌, ◌-◌, List, true}
use Rattle.std.specs.Prelude.{IfSome}
use Rattle.djq_disk.specs.History.{WhereHistoryTold}
use Rattle.djq_log.specs.Reading.{HasReadLines, source_place}
use Rattle.djq_model.specs.Data.{Bytes}
use Rattle.djq_machine.specs.State.{opening}
use Rattle.djq_machine.specs.Loading.{loading, Loads}
use Rattle.djq_commands.specs.Views.{loading_in}
use Rattle.djq_program.proofs.log.load_lines.Given as goal

-- The lines so far were found, and are loaded.
abbrev pub invariant-lines : goal.invariant-lines
invariant-lines g l =
    let told = g.D.Disk.told in
    record {
      loading : (found : List Bytes) × Loads (loading opening.store) found (loading_in l.machine)
          × IfSome (told l.disk) (λ h. HasReadLines found l.source h.file);
      fresh : l.machine.state ≡ record opening { store = l.machine.state.store };
      faults : g.D.Disk.faults l.disk ≡ g.D.Disk.faults l.fn.disk;
      same : WhereHistoryTold (told l.fn.disk) (told l.disk) (λ o n. n ≡ o);
      unlisted : l.steps.listing ≡ l.fn.steps.listing;
      is_open : g.D.Disk.is_open l.disk ≡ true;
    }

-- Each line brings the reader nearer to the last place.
abbrev pub decreases-lines : goal.decreases-lines
decreases-lines g l = 18446744073709551615 - source_place l.source
