-- There is room for an entry more, and the line stands between the logged ones and the end of the buffer.
use Rattle.std.proofs.Common.{append-nil, Bool, ℕ, ◌++◌, ◌∷◌, [], ◌∙◌, refl, sym, ap, subst, List, arith}
use Rattle.djq_commands.specs.Logging.{OpenCommit, HasRoom, lines_of_entries, line_where}
use Rattle.djq_commands.specs.declared.commit.Entry.{Entry}
use Rattle.djq_commands.specs.declared.commit.Entry.TheVariants.{Line}
use Rattle.djq_commands.proofs.CommitLines.{room_of, kept_pushed, logged_one}
use Rattle.djq_commands.proofs.commit.Commit.log_line.Goals as goal

pub push_reserved-requires : goal.push_reserved-requires
push_reserved-requires c =
    let room = room_of _ _ _ _ _ _ _ _ _ c.self.invariant (subst HasRoom (sym c.self.view_is) c.requires.room) in
    omega (arith, room.first, c.self.inside.firsts.ok.0)

pub push_reserved-requires-then-logged : goal.push_reserved-requires-then-logged
push_reserved-requires-then-logged c =
    let room = room_of _ _ _ _ _ _ _ _ _ c.self.invariant (subst HasRoom (sym c.self.view_is) c.requires.room) in
    omega (arith, room.entry, c.self.inside.entries.ok.0)

pub overflow_add-self : goal.overflow_add-self
overflow_add-self c =
    let room = room_of _ _ _ _ _ _ _ _ _ c.self.invariant (subst HasRoom (sym c.self.view_is) c.requires.room) in
    omega (arith, room.few)

pub invariant_of-self : goal.invariant_of-self
invariant_of-self c =
    kept_pushed c.self.inside.bytes.items c.self.inside.bytes.spare c.self.inside.end c.len-end.result
    c.self.inside.entries.items (Line c.self.inside.end c.len-end.result) _ c.self.inside.firsts.items _
    c.self.inside.lines c.self.inside.room _ _ _ _ _ c.self.invariant
    (omega (arith, c.len-end.ensures.value, c.self.invariant.within)) (omega (arith, c.len-end.ensures.value))
    (omega (arith, c.len-end.ensures.value, c.self.invariant.within), omega arith, tt)
    c.push_reserved-then-logged.ensures.items c.push_reserved.ensures.items
    c.push_reserved-then-logged.ensures.capacity c.push_reserved.ensures.capacity refl

pub returns-then-logged : goal.returns-then-logged
returns-then-logged c =
    ap (λ (es : List Entry). lines_of_entries c.self.inside.bytes.items es) c.push_reserved-then-logged.ensures.items
    ∙ ap (λ (n : ℕ). lines_of_entries c.self.inside.bytes.items (c.self.inside.entries.items ++ Line c.self.inside.end n ∷ []))
    c.len-end.ensures.value
    ∙ logged_one c.self.inside.bytes.items c.self.inside.end c.self.inside.entries.items c.self.invariant.within
    ∙ ap (λ (v : OpenCommit). v.lines ++ v.line ∷ []) c.self.view_is
    ∙ ap (λ (b : Bool). c.args.self.now.lines ++ line_where b c.args.self.now.line) (sym c.if-logged.true)

pub returns-else-logged : goal.returns-else-logged
returns-else-logged c =
    sym (append-nil c.args.self.now.lines)
    ∙ ap (λ (b : Bool). c.args.self.now.lines ++ line_where b c.args.self.now.line) (sym c.if-logged.false)
