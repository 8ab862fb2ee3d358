-- An entry's slot is below the room, so it has copies, and they are the entry's supports, as slots differ.
use Rattle.std.proofs.Common.{◌∙◌, ap, refl, subst, sym, arith, length}
use Rattle.std.proofs.lemmas.List.{get_or_read_under}
use Rattle.djq_index.specs.Entries.{supports_of}
use Rattle.djq_index.specs.Table.{IsAt, IsOccupied}
use Rattle.djq_database.specs.Rows.{Rows, row_place}
use Rattle.djq_database.proofs.Slots.{live_below, its_copies}
use Rattle.djq_database.proofs.rows.Rows.copies.Goals as goal

pub index-requires : goal.index-requires
index-requires c =
    omega (
      arith,
      c.self.inside.copies.ok.0,
      live_below c.self.inside.arena
          c.self.inside.copies.items c.args.slot c.self.invariant (subst (λ (r : Rows). IsOccupied r.entries
          (row_place c.args.slot)) (sym c.self.view_is) c.requires),
    )

pub returns : goal.returns
returns c = λ u at.
    get_or_read_under c.self.inside.copies.items c.args.slot (length c.self.inside.copies.items)
    c.index.result.now 0 c.index.ensures (live_below c.self.inside.arena
    c.self.inside.copies.items c.args.slot c.self.invariant (subst (λ (r : Rows). IsOccupied r.entries
    (row_place c.args.slot)) (sym c.self.view_is) c.requires)) refl
    ∙ its_copies c.self.inside.arena c.self.inside.copies.items c.args.slot u c.self.invariant
    (subst (λ (r : Rows). IsAt r.entries (row_place c.args.slot) u) (sym c.self.view_is) at)
    ∙ ap (λ (r : Rows). supports_of r.entries u) c.self.view_is
