-- A search among numbers that rise ends where the lower ones do.
use Rattle.std.proofs.Common.{sym, subst}
use Rattle.djq_commands.specs.Logging.{IsPlace}
use Rattle.djq_commands.proofs.CommitLines.{place_here, place_found, place_before}
use Rattle.djq_commands.proofs.commit.place_of.Goals as goal

pub returns-then-firsts-near : goal.returns-then-firsts-near
returns-then-firsts-near c = place_here c.args.firsts.now c.args.i c.args.i c.requires c.if-i-firsts.true
    c.if-firsts-near.true

pub returns-in-Ok : goal.returns-in-Ok
returns-in-Ok c = place_found c.args.firsts.now c.args.i c.in-Ok.at c.requires c.in-Ok.ensures.position

pub returns-in-Err : goal.returns-in-Err
returns-in-Err c = subst (IsPlace c.args.firsts.now c.args.i) (sym c.saturating_sub.ensures)
    (place_before c.args.firsts.now c.args.i c.in-Err.at c.requires c.in-Err.ensures.position)
