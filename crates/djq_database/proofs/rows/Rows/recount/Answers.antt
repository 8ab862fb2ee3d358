-- Slots differ, so only the entry in this one has other supports; the tuples stay, and none stands twice.
use Rattle.std.proofs.Common.{subst, sym, arith, slice_set}
use Rattle.djq_index.specs.Entries.{supports_of}
use Rattle.djq_index.specs.Table.{IsAt, IsOccupied}
use Rattle.djq_index.specs.Changes.{Supported}
use Rattle.djq_database.specs.Rows.{Rows, row_place, entries_with_copies, CopiesAreKept}
use Rattle.djq_database.proofs.Slots.{live_below, recounted, recounted_kept}
use Rattle.djq_database.proofs.rows.Rows.recount.Goals as goal

pub index_mut-requires : goal.index_mut-requires
index_mut-requires g c =
    omega (
      arith,
      c.self.inside.copies.ok.0,
      live_below c.self.inside.arena
          c.self.inside.copies.items c.args.slot c.self.invariant (subst (λ (r : Rows). IsOccupied r.entries
          (row_place c.args.slot)) (sym c.self.view_is) c.requires),
    )

pub invariant_of-self : goal.invariant_of-self
invariant_of-self g c =
    recounted_kept c.self.inside.arena c.self.inside.copies.items c.args.slot c.args.copies
    c.self.invariant
    (subst (λ (r : Rows). IsOccupied r.entries (row_place c.args.slot)) (sym c.self.view_is) c.requires)

pub returns-clause-apart : goal.returns-clause-apart
returns-clause-apart g c =
    let k : CopiesAreKept c.self.inside.arena
    (slice_set c.self.inside.copies.items c.args.slot c.args.copies) =
    recounted_kept c.self.inside.arena c.self.inside.copies.items c.args.slot c.args.copies
    c.self.invariant
    (subst (λ (r : Rows). IsOccupied r.entries (row_place c.args.slot)) (sym c.self.view_is) c.requires) in
    k.apart

pub returns-clause-recounted : goal.returns-clause-recounted
returns-clause-recounted g c = λ u at.
    subst (λ (r : Rows). Supported r.entries (entries_with_copies
    (slice_set c.self.inside.copies.items c.args.slot c.args.copies) c.self.inside.arena.rows) u
    (supports_of r.entries u) c.args.copies) c.self.view_is
    (recounted c.self.inside.arena c.self.inside.copies.items c.args.slot c.args.copies u
    c.self.invariant
    (live_below c.self.inside.arena c.self.inside.copies.items c.args.slot c.self.invariant
    (subst (λ (r : Rows). IsOccupied r.entries (row_place c.args.slot)) (sym c.self.view_is) c.requires))
    (subst (λ (r : Rows). IsAt r.entries (row_place c.args.slot) u) (sym c.self.view_is) at))
