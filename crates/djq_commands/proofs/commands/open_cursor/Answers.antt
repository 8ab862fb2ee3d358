-- No cursor has the name yet, and the engine has an id for just the names that the store has queries for.
use Rattle.std.proofs.Common.{sym, ap, ◌∙◌, ◌≡◌, false, Option, is_some, subst, ℕ, ◌≤◌}
use Rattle.djq_protocol.specs.declared.limits.TheConstants.{CURSORS}
use Rattle.djq_session.specs.Dialog.{named}
use Rattle.djq_engine.specs.declared.cursor.CursorId.{CursorId}
use Rattle.djq_commands.proofs.WatchCommands.{cursor_named, opens_limit, opens_none}
use Rattle.djq_commands.proofs.commands.open_cursor.Goals as goal

pub returns-then-is_some-2 : goal.returns-then-is_some-2
returns-then-is_some-2 c =
    let fresh : is_some (named c.args.session.now.cursors c.args.name.now) ≡ false
    = cursor_named (named c.args.session.now.cursors c.args.name.now)
    ∙ ap (λ (o : Option CursorId). is_some o) (sym c.cursor.ensures) ∙ sym c.if-is_some.ensures in
    opens_limit c.args.engine.now c.args.session.now c.args.name.now c.args.query.now c.query_id.result fresh
    c.laws.ensures.queries c.query_id.ensures (sym c.if-is_some-2.ensures)
    (subst (λ (n : ℕ). CURSORS ≤ n) c.cursors.ensures c.if-cursors-ge-CURSORS.true)

pub returns-else-is_some-2 : goal.returns-else-is_some-2
returns-else-is_some-2 c =
    let fresh : is_some (named c.args.session.now.cursors c.args.name.now) ≡ false
    = cursor_named (named c.args.session.now.cursors c.args.name.now)
    ∙ ap (λ (o : Option CursorId). is_some o) (sym c.cursor.ensures) ∙ sym c.if-is_some.ensures in
    opens_none c.args.engine.now c.args.session.now c.args.name.now c.args.query.now c.query_id.result fresh
    c.laws.ensures.queries c.query_id.ensures (sym c.if-is_some-2.ensures)
