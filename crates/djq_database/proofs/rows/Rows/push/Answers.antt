-- The slot that came is no other row's, so the others keep their copies; the new row was absent before.
use Rattle.std.proofs.Common.{◌≡◌, ◌<◌, ◌≤◌, ◌∙◌, ap, subst, sym, length, arith, List, ℕ}
use Rattle.djq_index.specs.Entries.{count_of}
use Rattle.djq_database.specs.Rows.{Rows, copies_at}
use Rattle.djq_database.proofs.Slots.{entries_long, came, came_kept}
use Rattle.djq_database.proofs.rows.Rows.push.Goals as goal

pub push_hashed-requires-clause-few : goal.push_hashed-requires-clause-few
push_hashed-requires-clause-few g c =
    subst (λ n. n < 4294967295) (sym (entries_long c.self.inside.copies.items
    c.self.inside.arena.rows ∙ ap (λ (r : Rows). length r.entries) c.self.view_is)) c.requires.few

pub invariant_of-self-2 : goal.invariant_of-self-2
invariant_of-self-2 g c =
    let arena = c.self.inside.arena in
    let copies = c.self.inside.copies.items in
    let new = c.push_hashed.new.self in
    let more = c.count_one.new.copies.items in
    let room : new.room ≤ length more = omega (
      arith,
      c.in_ok-slot.ensures.room,
      c.self.invariant.copied,
      ap (λ (l : List ℕ). length l) c.make_room.ensures.same,
      c.count_one.ensures.covered,
      c.count_one.ensures.longer,
    ) in
    came_kept arena new copies more c.args.cells.now c.self.invariant c.laws.ensures
    (came arena new copies more c.in_ok-slot.slot c.args.cells.now c.laws.ensures
    c.in_ok-slot.ensures.pushed c.count_one.ensures.one
    (λ k h. c.count_one.ensures.others k h ∙ ap (λ (l : List ℕ). copies_at l k)
    c.make_room.ensures.same)) room
    (subst (λ (r : Rows). count_of r.entries c.args.cells.now ≡ 0) (sym c.self.view_is)
    c.requires.absent)

pub returns-clause-came : goal.returns-clause-came
returns-clause-came g c =
    rw (← c.self.view_is) (came c.self.inside.arena c.push_hashed.new.self
    c.self.inside.copies.items c.count_one.new.copies.items c.in_ok-slot.slot c.args.cells.now
    c.laws.ensures c.in_ok-slot.ensures.pushed c.count_one.ensures.one
    (λ k h. c.count_one.ensures.others k h ∙ ap (λ (l : List ℕ). copies_at l k)
    c.make_room.ensures.same))

pub returns-clause-apart : goal.returns-clause-apart
returns-clause-apart g c = (invariant_of-self-2 g c).apart
