-- Those popped so far are closed and the rest are still held, so the next one popped is held, by GivingUp.
use Rattle.djq_commands.proofs.CutReplies.{giving_starts, popped_held, giving_goes_on}
use Rattle.djq_commands.proofs.ending.give_up_cursors.Goals as goal

pub loop-id-init : goal.loop-id-init
loop-id-init c = giving_starts c.args.engine.now c.args.session.now c.requires

pub close-requires : goal.close-requires
close-requires c = popped_held c.loop-id.engine c.loop-id.session c.pop_cursor.new.self c.in-Some.id
    c.loop-id.invariant.own c.in-Some.ensures

pub loop-id-preserved : goal.loop-id-preserved
loop-id-preserved c = giving_goes_on c.args.engine.now c.args.session.now c.loop-id.engine c.loop-id.session
    c.pop_cursor.new.self c.close.new.self c.in-Some.id
    c.loop-id.invariant c.in-Some.ensures c.close.ensures
