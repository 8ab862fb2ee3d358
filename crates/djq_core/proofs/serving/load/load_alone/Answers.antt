-- A line that is read says a command that can be run, and one that opens a batch leaves it without lines.
use Rattle.std.proofs.Common.{◌∙◌, sym, subst, None, Some, Err}
use Rattle.djq_store_spec.specs.Held.{HeldTransaction}
use Rattle.djq_machine.specs.declared.machine.Loaded.TheVariants.{Ran}
use Rattle.djq_core.specs.Loading.{LoadsLine}
use Rattle.djq_parser.specs.declared.refusal.LineRefusal.{LineRefusal}
use Rattle.djq_parser.specs.declared.refusal.LineRefusal.TheVariants.{Syntax, Range, NoMem}
use Rattle.djq_parser.specs.Reading.{LineReadsAs}
use Rattle.djq_core.proofs.Loads.{opens_batch, said_alone, unread_alone}
use Rattle.djq_commands.proofs.ReadLines.{runnable}
use Rattle.djq_core.proofs.BatchRows.{none_held}
use Rattle.djq_core.proofs.serving.load.load_alone.Goals as goal

pub load_command-requires-clause-runnable : goal.load_command-requires-clause-runnable
load_command-requires-clause-runnable g c = runnable c.args.line.now c.in-Ok.command c.in-Ok.ensures

pub returns-then-is_batch-clause-loads : goal.returns-then-is_batch-clause-loads
returns-then-is_batch-clause-loads g c =
    subst (λ (held : HeldTransaction). LoadsLine c.args.line.now Ran c.args.engine.now None c.args.engine.now
    (Some held)) (sym c.new.ensures) (record {
      loads = opens_batch c.args.engine.now c.args.line.now c.in-Ok.command c.in-Ok.ensures
          (sym c.is_batch.ensures ∙ c.if-is_batch.true);
      idle = c.requires;
      suits = λ h. none_held (c.args.engine.now).store;
    })

pub returns-else-is_batch-clause-loads : goal.returns-else-is_batch-clause-loads
returns-else-is_batch-clause-loads g c = record {
  loads = said_alone c.args.engine.now c.args.line.now c.load_command.new.engine c.in-Ok.command c.load_command.result
      c.in-Ok.ensures (sym c.is_batch.ensures ∙ c.if-is_batch.false) c.load_command.ensures.loads;
  idle = c.load_command.ensures.idle;
  suits = λ h. tt;
}

pub returns-in-Err-Syntax-clause-loads : goal.returns-in-Err-Syntax-clause-loads
returns-in-Err-Syntax-clause-loads g c = record {
  loads = unread_alone c.args.engine.now c.args.line.now Syntax
      (subst (λ (r : LineRefusal). LineReadsAs c.args.line.now (Err r)) c.in-Err-Syntax.field-0-is
      c.in-Err-Syntax.ensures);
  idle = c.requires;
  suits = λ h. tt;
}

pub returns-in-Err-Range-clause-loads : goal.returns-in-Err-Range-clause-loads
returns-in-Err-Range-clause-loads g c = record {
  loads = unread_alone c.args.engine.now c.args.line.now Range
      (subst (λ (r : LineRefusal). LineReadsAs c.args.line.now (Err r)) c.in-Err-Range.field-0-is
      c.in-Err-Range.ensures);
  idle = c.requires;
  suits = λ h. tt;
}

pub returns-in-Err-NoMem-clause-loads : goal.returns-in-Err-NoMem-clause-loads
returns-in-Err-NoMem-clause-loads g c = record {
  loads = unread_alone c.args.engine.now c.args.line.now NoMem
      (subst (λ (r : LineRefusal). LineReadsAs c.args.line.now (Err r)) c.in-Err-NoMem.field-0-is
      c.in-Err-NoMem.ensures);
  idle = c.requires;
  suits = λ h. tt;
}
