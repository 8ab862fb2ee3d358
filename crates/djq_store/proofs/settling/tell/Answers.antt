-- The members that read a changed relation were picked out of all the members, so they are among them.
use Rattle.std.proofs.Common.{take}
use Rattle.djq_store.proofs.Readers.{touched_among}
use Rattle.djq_store.proofs.settling.tell.Goals as goal

pub tell_gains-requires-clause-among : goal.tell_gains-requires-clause-among
tell_gains-requires-clause-among g c =
    touched_among c.places.result.now c.args.relations.now c.members-members.result.now
    (take c.touched_members-count.result c.touched_members-count.new.touched) c.touched_members-count.ensures.touched
