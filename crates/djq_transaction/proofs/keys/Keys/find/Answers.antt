-- Without an arena no key is there.
use Rattle.std.proofs.Common.{sym, subst}
use Rattle.djq_arena.specs.Rows.{SlotRows, IsAbsent}
use Rattle.djq_transaction.proofs.Slotted.{no_keys, none_absent}
use Rattle.djq_transaction.proofs.keys.Keys.find.Goals as goal

pub returns-in-None : goal.returns-in-None
returns-in-None c = subst (λ (a : SlotRows). IsAbsent a.rows c.args.key.now)
    (sym (no_keys c.self.inside.width c.self.inside.arena c.args.self.now c.self.view_is c.in-None.is))
    (none_absent c.args.key.now)
