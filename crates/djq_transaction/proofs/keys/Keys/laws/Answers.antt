-- Without an arena there is no row.
use Rattle.std.proofs.Common.{sym, subst}
use Rattle.djq_arena.specs.Rows.{SlotRows, AreRows}
use Rattle.djq_transaction.proofs.Slotted.{no_keys, none_left, no_rows}
use Rattle.djq_transaction.proofs.keys.Keys.laws.Goals as goal

pub returns-in_default : goal.returns-in_default
returns-in_default c = subst (λ (a : SlotRows). AreRows a)
    (sym (no_keys c.self.inside.width c.self.inside.arena c.args.self.now c.self.view_is
    (none_left c.self.inside.arena c.in_default.not-Some))) (no_rows c.self.inside.width)
