-- There is room for an entry more, which has the lines.
use Rattle.std.proofs.Common.{ℕ, ◌+◌, ◌++◌, ◌∙◌, sym, ap, subst, List, arith}
use Rattle.djq_store_spec.specs.Held.{log_lines}
use Rattle.djq_commands.specs.Logging.{OpenCommit, HasRoom, lines_of_entries}
use Rattle.djq_commands.specs.declared.commit.Entry.{Entry}
use Rattle.djq_commands.specs.declared.commit.Entry.TheVariants.{Batch}
use Rattle.djq_commands.proofs.CommitLines.{room_of, kept_pushed, logged_batch}
use Rattle.djq_commands.proofs.commit.Commit.log_batch.Goals as goal

pub push_reserved-requires : goal.push_reserved-requires
push_reserved-requires c =
    let room = room_of _ _ _ _ _ _ _ _ _ c.self.invariant (subst HasRoom (sym c.self.view_is) c.requires.room) in
    omega (arith, room.first, c.self.inside.firsts.ok.0)

pub push_reserved-requires-2 : goal.push_reserved-requires-2
push_reserved-requires-2 c =
    let room = room_of _ _ _ _ _ _ _ _ _ c.self.invariant (subst HasRoom (sym c.self.view_is) c.requires.room) in
    omega (arith, room.entry, c.self.inside.entries.ok.0)

pub overflow_add-self-2 : goal.overflow_add-self-2
overflow_add-self-2 c =
    let room = room_of _ _ _ _ _ _ _ _ _ c.self.invariant (subst HasRoom (sym c.self.view_is) c.requires.room) in
    omega (arith, room.few, c.len-rows.type_inv)

pub invariant_of-self : goal.invariant_of-self
invariant_of-self c =
    kept_pushed c.self.inside.bytes.items c.self.inside.bytes.spare c.self.inside.end c.self.inside.end
    c.self.inside.entries.items (Batch c.args.held) _ c.self.inside.firsts.items _
    c.self.inside.lines c.self.inside.room _ _ _ _ _ c.self.invariant
    (omega arith) c.self.invariant.within tt
    c.push_reserved-2.ensures.items c.push_reserved.ensures.items
    c.push_reserved-2.ensures.capacity c.push_reserved.ensures.capacity
    (ap (λ (n : ℕ). c.self.inside.lines + (n + 2)) c.len-rows.ensures.logged)

pub returns : goal.returns
returns c =
    ap (λ (es : List Entry). lines_of_entries c.self.inside.bytes.items es) c.push_reserved-2.ensures.items
    ∙ logged_batch c.self.inside.bytes.items c.self.inside.entries.items c.args.held
    ∙ ap (λ (v : OpenCommit). v.lines ++ log_lines c.args.held) c.self.view_is
