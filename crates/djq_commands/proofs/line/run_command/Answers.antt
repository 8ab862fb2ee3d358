-- Of these commands only those that change relations, queries or unions are kept; all others leave no line.
use Rattle.std.proofs.Common.{false, true, refl, sym, subst, arith}
use Rattle.djq_protocol.specs.declared.command.Command.{Command}
use Rattle.djq_protocol.specs.declared.command.Command.TheVariants.{Open, Next, Close, Has, Watch, Unwatch, Explain}
use Rattle.djq_protocol.specs.declared.command.Command.TheVariants.{Shape, Batch, Quit, Stop}
use Rattle.djq_model.specs.Data.{Tuple}
use Rattle.djq_commands.specs.Performs.{Executes, ExecutesKeeping}
use Rattle.djq_commands.proofs.CursorCommands.{counting}
use Rattle.djq_commands.proofs.LoggedLines.{unkept}
use Rattle.djq_commands.proofs.line.run_command.Goals as goal

pub returns-in-Open : goal.returns-in-Open
returns-in-Open g c =
    subst (λ (command : Command). ExecutesKeeping command false false c.args.engine.now c.args.session.now
    c.run_open.new.engine c.run_open.new.session c.args.steps.now.listing c.args.steps.now.listing)
    (sym c.in-Open.is)
    (unkept (Open c.in-Open.cursor c.in-Open.query) false c.args.engine.now c.args.session.now c.run_open.new.engine
    c.run_open.new.session c.args.steps.now.listing c.args.steps.now.listing refl
    (counting _ false c.args.engine.now c.args.session.now c.run_open.new.engine c.run_open.new.session
    c.args.steps.now.listing c.args.steps.now.listing (omega arith) c.run_open.ensures))

pub returns-in-Next : goal.returns-in-Next
returns-in-Next g c =
    subst (λ (command : Command). ExecutesKeeping command false false c.args.engine.now c.args.session.now
    c.run_next.new.engine c.run_next.new.session c.args.steps.now.listing c.run_next.new.listing) (sym c.in-Next.is)
    (unkept (Next c.in-Next.cursor c.in-Next.count) false c.args.engine.now c.args.session.now c.run_next.new.engine
    c.run_next.new.session c.args.steps.now.listing c.run_next.new.listing refl
    c.run_next.ensures)

pub returns-in-Close : goal.returns-in-Close
returns-in-Close g c =
    subst (λ (command : Command). ExecutesKeeping command false false c.args.engine.now c.args.session.now
    c.run_close.new.engine c.run_close.new.session c.args.steps.now.listing c.args.steps.now.listing)
    (sym c.in-Close.is)
    (unkept (Close c.in-Close.cursor) false c.args.engine.now c.args.session.now c.run_close.new.engine
    c.run_close.new.session c.args.steps.now.listing c.args.steps.now.listing refl
    (counting _ false c.args.engine.now c.args.session.now c.run_close.new.engine c.run_close.new.session
    c.args.steps.now.listing c.args.steps.now.listing (omega arith) c.run_close.ensures))

pub returns-in-Has : goal.returns-in-Has
returns-in-Has g c =
    subst (λ (command : Command). ExecutesKeeping command false false c.args.engine.now c.args.session.now
    c.args.engine.now c.run_has.new.session c.args.steps.now.listing c.run_has.new.listing) (sym c.in-Has.is)
    (unkept (Has c.in-Has.query c.in-Has.row) false c.args.engine.now c.args.session.now c.args.engine.now
    c.run_has.new.session c.args.steps.now.listing c.run_has.new.listing refl
    (subst (λ (row : Tuple). Executes (Has c.in-Has.query row) false c.args.engine.now c.args.session.now
    c.args.engine.now c.run_has.new.session c.args.steps.now.listing c.run_has.new.listing) c.as_slice.ensures
    c.run_has.ensures))

pub returns-in-Watch : goal.returns-in-Watch
returns-in-Watch g c =
    subst (λ (command : Command). ExecutesKeeping command false false c.args.engine.now c.args.session.now
    c.run_watch.new.engine c.run_watch.new.session c.args.steps.now.listing c.args.steps.now.listing)
    (sym c.in-Watch.is)
    (unkept (Watch c.in-Watch.query) false c.args.engine.now c.args.session.now c.run_watch.new.engine
    c.run_watch.new.session c.args.steps.now.listing c.args.steps.now.listing refl
    (counting _ false c.args.engine.now c.args.session.now c.run_watch.new.engine c.run_watch.new.session
    c.args.steps.now.listing c.args.steps.now.listing (omega arith) c.run_watch.ensures))

pub returns-in-Unwatch : goal.returns-in-Unwatch
returns-in-Unwatch g c =
    subst (λ (command : Command). ExecutesKeeping command false false c.args.engine.now c.args.session.now
    c.run_unwatch.new.engine c.run_unwatch.new.session c.args.steps.now.listing c.args.steps.now.listing)
    (sym c.in-Unwatch.is)
    (unkept (Unwatch c.in-Unwatch.query) false c.args.engine.now c.args.session.now c.run_unwatch.new.engine
    c.run_unwatch.new.session c.args.steps.now.listing c.args.steps.now.listing refl
    (counting _ false c.args.engine.now c.args.session.now c.run_unwatch.new.engine c.run_unwatch.new.session
    c.args.steps.now.listing c.args.steps.now.listing (omega arith) c.run_unwatch.ensures))

pub returns-in-Explain : goal.returns-in-Explain
returns-in-Explain g c =
    subst (λ (command : Command). ExecutesKeeping command false false c.args.engine.now c.args.session.now
    c.run_explain.new.engine c.run_explain.new.session c.args.steps.now.listing c.args.steps.now.listing)
    (sym c.in-Explain.is)
    (unkept (Explain c.in-Explain.query) false c.args.engine.now c.args.session.now c.run_explain.new.engine
    c.run_explain.new.session c.args.steps.now.listing c.args.steps.now.listing refl
    (counting _ false c.args.engine.now c.args.session.now c.run_explain.new.engine c.run_explain.new.session
    c.args.steps.now.listing c.args.steps.now.listing (omega arith) c.run_explain.ensures))

pub returns-in-Shape : goal.returns-in-Shape
returns-in-Shape g c =
    subst (λ (command : Command). ExecutesKeeping command false false c.args.engine.now c.args.session.now
    c.args.engine.now c.run_shape.new.session c.args.steps.now.listing c.args.steps.now.listing) (sym c.in-Shape.is)
    (unkept (Shape c.in-Shape.query) false c.args.engine.now c.args.session.now c.args.engine.now
    c.run_shape.new.session c.args.steps.now.listing c.args.steps.now.listing refl
    (counting _ false c.args.engine.now c.args.session.now c.args.engine.now c.run_shape.new.session
    c.args.steps.now.listing c.args.steps.now.listing (omega arith) c.run_shape.ensures))

pub returns-in-Batch : goal.returns-in-Batch
returns-in-Batch g c =
    subst (λ (command : Command). ExecutesKeeping command false false c.args.engine.now c.args.session.now
    c.args.engine.now c.run_batch.new.session c.args.steps.now.listing c.args.steps.now.listing) (sym c.in-Batch.is)
    (unkept Batch false c.args.engine.now c.args.session.now c.args.engine.now c.run_batch.new.session
    c.args.steps.now.listing c.args.steps.now.listing refl
    (counting _ false c.args.engine.now c.args.session.now c.args.engine.now c.run_batch.new.session
    c.args.steps.now.listing c.args.steps.now.listing (omega arith) c.run_batch.ensures))

pub returns-in-Quit : goal.returns-in-Quit
returns-in-Quit g c =
    subst (λ (command : Command). ExecutesKeeping command false false c.args.engine.now c.args.session.now
    c.run_quit.new.engine c.run_quit.new.session c.args.steps.now.listing c.args.steps.now.listing)
    (sym c.in-Quit.is)
    (unkept Quit false c.args.engine.now c.args.session.now c.run_quit.new.engine c.run_quit.new.session
    c.args.steps.now.listing c.args.steps.now.listing refl
    (counting _ false c.args.engine.now c.args.session.now c.run_quit.new.engine c.run_quit.new.session
    c.args.steps.now.listing c.args.steps.now.listing (omega arith) c.run_quit.ensures))

pub returns-in-Stop : goal.returns-in-Stop
returns-in-Stop g c =
    subst (λ (command : Command). ExecutesKeeping command false true c.args.engine.now c.args.session.now
    c.run_stop.new.engine c.run_stop.new.session c.args.steps.now.listing c.args.steps.now.listing)
    (sym c.in-Stop.is)
    (unkept Stop true c.args.engine.now c.args.session.now c.run_stop.new.engine c.run_stop.new.session
    c.args.steps.now.listing c.args.steps.now.listing refl
    (counting _ true c.args.engine.now c.args.session.now c.run_stop.new.engine c.run_stop.new.session
    c.args.steps.now.listing c.args.steps.now.listing (omega arith) c.run_stop.ensures))

pub returns-in-Rel : goal.returns-in-Rel
returns-in-Rel g c =
    subst (λ (command : Command). ExecutesKeeping command c.run_rel.result false c.args.engine.now c.args.session.now
    c.run_rel.new.engine c.run_rel.new.session c.args.steps.now.listing c.args.steps.now.listing) (sym c.in-Rel.is)
    (counting _ false c.args.engine.now c.args.session.now c.run_rel.new.engine c.run_rel.new.session
    c.args.steps.now.listing c.args.steps.now.listing (omega arith) c.run_rel.ensures)

pub returns-in-Union : goal.returns-in-Union
returns-in-Union g c =
    subst (λ (command : Command). ExecutesKeeping command c.run_union.result false c.args.engine.now c.args.session.now
    c.run_union.new.engine c.run_union.new.session c.args.steps.now.listing c.args.steps.now.listing)
    (sym c.in-Union.is)
    (counting _ false c.args.engine.now c.args.session.now c.run_union.new.engine c.run_union.new.session
    c.args.steps.now.listing c.args.steps.now.listing (omega arith) c.run_union.ensures)

pub returns-in-Drop : goal.returns-in-Drop
returns-in-Drop g c =
    subst (λ (command : Command). ExecutesKeeping command c.run_drop.result false c.args.engine.now c.args.session.now
    c.run_drop.new.engine c.run_drop.new.session c.args.steps.now.listing c.args.steps.now.listing)
    (sym c.in-Drop.is)
    (counting _ false c.args.engine.now c.args.session.now c.run_drop.new.engine c.run_drop.new.session
    c.args.steps.now.listing c.args.steps.now.listing (omega arith) c.run_drop.ensures)
