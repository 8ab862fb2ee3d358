-- By the arena's laws a slot is below its room, so it has marks, which are those of the tuple there.
use Rattle.std.proofs.Common.{◌<◌, ℕ, List, ap, sym, subst, ◌∙◌, arith}
use Rattle.std.proofs.lemmas.List.{get_or_read}
use Rattle.djq_arena.specs.Chains.{AreBelow}
use Rattle.djq_arena.specs.Rows.{SlotRows, slots}
use Rattle.djq_gains.specs.declared.marks.Marks.{Marks}
use Rattle.djq_gains.specs.Gathered.{Gain, Gathered, IsIn, marks_at, gains_in, in_no_delta}
use Rattle.djq_gains.proofs.DeltaTuples.{cut_rows, held_by, row_below}
use Rattle.djq_gains.proofs.gains.Gains.marks.Goals as goal

below : (marks : List Marks) (a : SlotRows) (slot : ℕ) → AreBelow a.room (slots a.rows)
    → IsIn (gains_in marks a.rows) slot → slot < a.room
below marks a slot are lies =
    let h = held_by marks a.rows slot lies in
    row_below a.rows slot h.cells a.room are h.row

pub index-requires : goal.index-requires
index-requires c =
    let low = below c.self.inside.marks.items c.self.inside.tuples c.args.slot c.laws.ensures.below
    (subst (λ (a : Gathered). IsIn a.gains c.args.slot) (sym c.self.view_is) c.requires) in
    let room = c.self.invariant.0 in
    omega (arith, low)

pub returns : goal.returns
returns c xs g ys is at =
    let marks = c.self.inside.marks.items in
    let cut = cut_rows marks c.self.inside.tuples.rows xs g ys
    (ap (λ (a : Gathered). a.gains) c.self.view_is ∙ is) in
    let low = below c.self.inside.marks.items c.self.inside.tuples c.args.slot c.laws.ensures.below
    (subst (λ (a : Gathered). IsIn a.gains c.args.slot) (sym c.self.view_is) c.requires) in
    let room = c.self.invariant.0 in
    get_or_read marks _ _ (omega (arith, low)) c.index.ensures in_no_delta
    ∙ ap (marks_at marks) (sym (ap (λ (a : Gain). a.slot) cut.gain ∙ at)) ∙ ap (λ (a : Gain). a.marks) cut.gain
