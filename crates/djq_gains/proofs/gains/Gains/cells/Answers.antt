-- The tuple in a slot is the arena's row there, since tuples and rows stand in the same order.
use Rattle.std.proofs.Common.{ap, sym, subst, ◌∙◌}
use Rattle.djq_gains.specs.Gathered.{Gain, Gathered, IsIn}
use Rattle.djq_gains.proofs.DeltaTuples.{cut_rows, held_by}
use Rattle.djq_gains.proofs.gains.Gains.cells.Goals as goal

pub cells-requires : goal.cells-requires
cells-requires c =
    held_by c.self.inside.marks.items c.self.inside.tuples.rows c.args.slot
    (subst (λ (g : Gathered). IsIn g.gains c.args.slot) (sym c.self.view_is) c.requires)

pub returns : goal.returns
returns c xs g ys is at =
    let cut = cut_rows c.self.inside.marks.items c.self.inside.tuples.rows xs g ys
    (ap (λ (a : Gathered). a.gains) c.self.view_is ∙ is) in
    c.cells.ensures cut.before cut.row cut.behind cut.is (ap (λ (a : Gain). a.slot) cut.gain ∙ at)
    ∙ ap (λ (a : Gain). a.cells) cut.gain
