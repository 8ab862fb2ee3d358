-- The lines found make a state without sessions, and what is loaded and kept lasts while the hub is served.
use Rattle.std.proofs.Common.{◌∙◌, ap, inl, inr, refl, arith}
use Rattle.djq_io.specs.Hub.{Ids}
use Rattle.djq_machine.specs.State.{State}
use Rattle.djq_machine.specs.Call.{counts}
use Rattle.djq_serve.specs.Told.{hub_shown}
use Rattle.djq_program_laws.specs.Logged.{disk_seen}
use Rattle.djq_program_laws.proofs.Logs.{logs_kept, is_stored, never_began, begins_still}
use Rattle.djq_program_laws.proofs.ProgramRuns.{faults_from}
use Rattle.djq_program.proofs.program.serve_hub.Goals as goal

pub returns-in_default : goal.returns-in_default
returns-in_default g c = inr (inr (never_began c.args.path _ _, refl))

pub returns-in_default-vec : goal.returns-in_default-vec
returns-in_default-vec g c = inr (inr (never_began c.args.path _ _, refl))

pub open_log-requires : goal.open_log-requires
open_log-requires g c = record { fresh = c.in-Ok.ensures.state; closed = c.in-Ok.ensures.batch }

pub returns-in-Err : goal.returns-in-Err
returns-in-Err g c = inr (inr (c.in-Err.ensures.opens, refl))

pub serve_logged-served-requires-clause-room : goal.serve_logged-served-requires-clause-room
serve_logged-served-requires-clause-room g c = omega (arith, c.in-Ok-vec.ensures.len, c.deref_mut.ensures.len)

pub serve_logged-served-requires-clause-none : goal.serve_logged-served-requires-clause-none
serve_logged-served-requires-clause-none g c = ap (λ (st : State). st.sessions) (c.in-Ok-open_log.ensures.opens.2).fresh

pub serve_logged-served-requires-clause-alone : goal.serve_logged-served-requires-clause-alone
serve_logged-served-requires-clause-alone g c = ap (λ (ids : Ids). ids.open_ids) c.in-Ready.ensures.ids ∙ c.requires

pub serve_logged-served-requires-clause-going : goal.serve_logged-served-requires-clause-going
serve_logged-served-requires-clause-going g c = ap (λ (st : State). st.stopped) (c.in-Ok-open_log.ensures.opens.2).fresh

pub returns-in-Ready : goal.returns-in-Ready
returns-in-Ready g c =
    let past = g.H.Hub.past in
    let script = g.H.Hub.script in
    let ids = g.H.Hub.ids in
    let told = g.D.Disk.told in
    let faults = g.D.Disk.faults in
    let heard = c.in-Ready.ensures in
    let begun = c.in-Ok-open_log.ensures.opens in
    let served = c.serve_logged-served.ensures in
    let before = c.args.steps.now in
    let now = c.open_log.new.steps in
    let first = disk_seen (told c.args.disk.now) (faults c.args.disk.now) in
    let then = disk_seen (told c.open_log.new.disk) (faults c.open_log.new.disk) in
    let last = disk_seen (told c.serve_logged-served.new.disk) (faults c.serve_logged-served.new.disk) in
    inl (record {
      found = begun.0;
      first = begun.1;
      start = c.open_log.new.machine.state;
      loaded = counts now.listing now.update now.rows;
      begins = begins_still c.args.path first then last begun.0 begun.1
          (counts before.listing before.update before.rows) c.open_log.new.machine.state
          (counts now.listing now.update now.rows) begun.2;
      ready = hub_shown (past c.listen.new.self) (script c.listen.new.self) (ids c.listen.new.self);
      listens = record { past = heard.past; script = heard.script; ids = heard.ids };
      state = c.serve_logged-served.new.machine.state;
      answer = c.serve_logged-served.result;
      ends = (served.logs).ends;
      faults = faults_from c.serve_logged-served.result _ _ _ heard.faults served.faults;
      logs = logs_kept c.args.path begun.0 begun.1 c.serve_logged-served.result _ c.in-Ok-open_log.log
          c.serve_logged-served.new.log
          first then last begun.3 (served.logs).kept served.disk served.nowhere;
      stored = is_stored c.args.path begun.0 begun.1 c.in-Ok-open_log.log c.serve_logged-served.new.log first then last
          _ begun.3 (served.logs).logs;
      silent = (served.logs).silent;
      is = c.ended_status.ensures;
    })

pub returns : goal.returns
returns g c =
    let begun = c.in-Ok-open_log.ensures.opens in
    let unheard = c.in-Failed.ensures in
    inr (inl (record {
      found = begun.0;
      first = begun.1;
      start = c.open_log.new.machine.state;
      begins = begun.2;
      end = c.in-Ok-open_log.log;
      lines = begun.3;
      listens = record { past = unheard.past; script = unheard.script; ids = unheard.ids };
      faults = unheard.faults;
      is = refl;
    }))
