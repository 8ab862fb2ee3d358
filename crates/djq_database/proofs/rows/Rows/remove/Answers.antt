-- Without the slot's row the entries are the others, which keep their copies and still differ.
use Rattle.std.proofs.Common.{subst, sym, arith}
use Rattle.djq_index.specs.Table.{IsAt, IsOccupied}
use Rattle.djq_database.specs.Rows.{Rows, row_place, entries_with_copies}
use Rattle.djq_database.specs.Tuples.{Dropped}
use Rattle.djq_database.proofs.Slots.{live_held, went, went_apart}
use Rattle.djq_database.proofs.rows.Rows.remove.Goals as goal

pub remove-requires : goal.remove-requires
remove-requires g c =
    live_held c.self.inside.copies.items c.self.inside.arena.rows c.args.slot
    (subst (λ (r : Rows). IsOccupied r.entries (row_place c.args.slot)) (sym c.self.view_is) c.requires)

pub returns-clause-apart : goal.returns-clause-apart
returns-clause-apart g c =
    let a = c.self.inside.arena in
    let live : IsOccupied (entries_with_copies c.self.inside.copies.items a.rows) (row_place c.args.slot) =
    subst (λ (r : Rows). IsOccupied r.entries (row_place c.args.slot)) (sym c.self.view_is) c.requires in
    went_apart (entries_with_copies c.self.inside.copies.items a.rows)
    (entries_with_copies c.self.inside.copies.items c.remove.new.self.rows) live.tuple
    (went a c.remove.new.self c.self.inside.copies.items c.args.slot live.tuple live.is_at
    c.remove.ensures.removed) c.self.invariant.apart

pub invariant_of-self : goal.invariant_of-self
invariant_of-self g c =
    let a = c.self.inside.arena in
    let live : IsOccupied (entries_with_copies c.self.inside.copies.items a.rows) (row_place c.args.slot) =
    subst (λ (r : Rows). IsOccupied r.entries (row_place c.args.slot)) (sym c.self.view_is) c.requires in
    record {
      rows = c.laws.ensures;
      copied = omega (arith, c.remove.ensures.room, c.self.invariant.copied);
      apart = went_apart (entries_with_copies c.self.inside.copies.items a.rows)
          (entries_with_copies c.self.inside.copies.items c.remove.new.self.rows) live.tuple
          (went a c.remove.new.self c.self.inside.copies.items c.args.slot live.tuple live.is_at
          c.remove.ensures.removed) c.self.invariant.apart;
    }

pub returns-clause-went : goal.returns-clause-went
returns-clause-went g c = λ u at.
    subst (λ (r : Rows). Dropped r.entries
    (entries_with_copies c.self.inside.copies.items c.remove.new.self.rows) u) c.self.view_is
    (went c.self.inside.arena c.remove.new.self c.self.inside.copies.items c.args.slot u
    (subst (λ (r : Rows). IsAt r.entries (row_place c.args.slot) u) (sym c.self.view_is) at)
    c.remove.ensures.removed)
