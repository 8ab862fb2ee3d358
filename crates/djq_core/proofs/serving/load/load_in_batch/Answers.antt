-- What the line says is read as for a session's batch.
use Rattle.std.proofs.Common.{◌∙◌, Some, sym, subst}
use Rattle.djq_model.specs.Data.{Bytes, Tuple}
use Rattle.djq_protocol.specs.Grammar.{reading_of}
use Rattle.djq_machine.specs.Keeping.{is_done}
use Rattle.djq_machine.specs.Loading.{ReadingLoads}
use Rattle.djq_machine.specs.declared.machine.Loaded.{Loaded}
use Rattle.djq_commands.specs.Batching.{ReadsInBatch}
use Rattle.djq_core.specs.Loading.{HoldsInBatch, loading_by}
use Rattle.djq_commands.specs.declared.reading.BatchLine.{BatchLine}
use Rattle.djq_core.proofs.Loads.{comes_by, idle_outdated, said_abandon, said_done, said_hold, said_nothing, said_quit}
use Rattle.djq_core.proofs.Loads.{said_stop}
use Rattle.djq_commands.proofs.Replies.{ok_done}
use Rattle.djq_core.proofs.serving.load.load_in_batch.Goals as goal

pub returns-in-Abandon-clause-loads : goal.returns-in-Abandon-clause-loads
returns-in-Abandon-clause-loads g c = record {
  loads = said_abandon c.args.engine.now c.args.line.now c.args.held
      (subst (λ (b : BatchLine). ReadsInBatch c.args.line.now b c.read_in_batch.new.row.items) c.in-Abandon.is
      c.read_in_batch.ensures);
  idle = c.requires.idle;
  suits = λ h. tt;
}

pub returns-in-Quit-clause-loads : goal.returns-in-Quit-clause-loads
returns-in-Quit-clause-loads g c = record {
  loads = said_quit c.args.engine.now c.args.line.now c.args.held
      (subst (λ (b : BatchLine). ReadsInBatch c.args.line.now b c.read_in_batch.new.row.items) c.in-Quit.is
      c.read_in_batch.ensures);
  idle = c.requires.idle;
  suits = λ h. h;
}

pub returns-in-Stop-clause-loads : goal.returns-in-Stop-clause-loads
returns-in-Stop-clause-loads g c = record {
  loads = said_stop c.args.engine.now c.args.line.now c.args.held
      (subst (λ (b : BatchLine). ReadsInBatch c.args.line.now b c.read_in_batch.new.row.items) c.in-Stop.is
      c.read_in_batch.ensures);
  idle = c.requires.idle;
  suits = λ h. h;
}

pub returns-in-Refused-clause-loads : goal.returns-in-Refused-clause-loads
returns-in-Refused-clause-loads g c = record {
  loads = subst (λ (how : Loaded). ReadingLoads (loading_by c.args.engine.now (Some c.args.held)) c.args.line.now
      (reading_of c.args.line.now) how (loading_by c.args.engine.now (Some c.args.held))) (sym c.refused.ensures)
      (said_nothing c.args.engine.now c.args.line.now c.args.held c.in-Refused.refusal
      (subst (λ (b : BatchLine). ReadsInBatch c.args.line.now b c.read_in_batch.new.row.items) c.in-Refused.is
      c.read_in_batch.ensures));
  idle = c.requires.idle;
  suits = λ h. h;
}

pub returns-in-Hold-clause-loads : goal.returns-in-Hold-clause-loads
returns-in-Hold-clause-loads g c =
    let st = (c.args.engine.now).store in
    let line = c.args.line.now in
    let row = c.read_in_batch.new.row.items in
    let outcome = c.hold-outcome.result in
    let new = c.hold-outcome.new.held in
    let said = subst (λ (b : BatchLine). ReadsInBatch line b row) c.in-Hold.is c.read_in_batch.ensures in
    let named = subst (λ (n : Bytes). HoldsInBatch st c.args.held line c.in-Hold.verb n c.as_slice.result.now
    outcome new) c.new-name.ensures c.hold-outcome.ensures in
    let holds = subst (λ (values : Tuple). HoldsInBatch st c.args.held line c.in-Hold.verb c.in-Hold.name.now values
    outcome new) c.as_slice.ensures.value named in
    let held = said_hold c.args.engine.now line c.args.held c.in-Hold.verb c.in-Hold.name.now row outcome
    c.loaded.result new said.0 holds
    (comes_by is_done outcome c.loaded.result c.is_ok.result (c.is_ok.ensures.value ∙ ok_done outcome)
    c.loaded.ensures) in
    record { loads = held.0; idle = c.requires.idle; suits = held.1 }

pub returns-in-Done-clause-loads : goal.returns-in-Done-clause-loads
returns-in-Done-clause-loads g c =
    let said = subst (λ (b : BatchLine). ReadsInBatch c.args.line.now b c.read_in_batch.new.row.items) c.in-Done.is
    c.read_in_batch.ensures in
    record {
      loads = said_done c.args.engine.now c.args.line.now c.args.held c.done-outcome.new.self c.in-Done.given
          c.done-outcome.result c.done_loaded.result said c.done-outcome.ensures.does c.done_loaded.ensures;
      idle = idle_outdated c.args.engine.now c.done-outcome.new.self _ c.requires.idle c.done-outcome.ensures.outdates
          c.done-outcome.ensures.watches;
      suits = λ h. tt;
    }
