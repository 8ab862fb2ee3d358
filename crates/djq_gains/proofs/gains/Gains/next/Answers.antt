-- Tuples and rows stand in the same order, so what is behind a tuple is behind its row.
use Rattle.std.proofs.Common.{ℕ, List, ap, sym, subst, ◌∙◌}
use Rattle.djq_arena.specs.Chains.{first_of}
use Rattle.djq_gains.specs.Gathered.{Gain, Gathered, IsIn, slots_in}
use Rattle.djq_gains.proofs.DeltaTuples.{cut_rows, held_by, slots_are}
use Rattle.djq_gains.proofs.gains.Gains.next.Goals as goal

pub next-requires : goal.next-requires
next-requires c =
    held_by c.self.inside.marks.items c.self.inside.tuples.rows c.args.slot
    (subst (λ (g : Gathered). IsIn g.gains c.args.slot) (sym c.self.view_is) c.requires)

pub returns : goal.returns
returns c xs g ys is at =
    let marks = c.self.inside.marks.items in
    let cut = cut_rows marks c.self.inside.tuples.rows xs g ys
    (ap (λ (a : Gathered). a.gains) c.self.view_is ∙ is) in
    c.next.ensures cut.before cut.row cut.behind cut.is (ap (λ (a : Gain). a.slot) cut.gain ∙ at)
    ∙ ap (λ (ns : List ℕ). first_of ns) (sym (slots_are marks cut.behind))
    ∙ ap (λ (gs : List Gain). first_of (slots_in gs)) cut.rest
