-- A slot that holds a key is one of an arena.
use Rattle.std.proofs.Common.{ap}
use Rattle.djq_arena.specs.Rows.{SlotRows}
use Rattle.djq_transaction.proofs.Slotted.{no_keys, nothing_in}
use Rattle.djq_transaction.proofs.keys.Keys.cells.Goals as goal

pub unreachable-requires : goal.unreachable-requires
unreachable-requires c = nothing_in c.args.self.now.rows c.requires.row.front c.requires.row.back _
    (ap (λ (a : SlotRows). a.rows)
    (no_keys c.self.inside.width c.self.inside.arena c.args.self.now c.self.view_is c.in-None.is)) c.requires.row.is
