-- A tuple has the cells of a row of the arena, and each of these is as wide as the arena.
use Rattle.std.proofs.Common.{◌≡◌, length, subst}
use Rattle.std.specs.Prelude.{Contains}
use Rattle.djq_gains.specs.Gathered.{Gain, Gathered}
use Rattle.djq_gains.proofs.DeltaTuples.{wide_gain}
use Rattle.djq_gains.proofs.gains.Gains.laws.Goals as goal

pub returns-clause-wide : goal.returns-clause-wide
returns-clause-wide c =
    subst (λ (a : Gathered). (g : Gain) → Contains a.gains g → length g.cells ≡ a.width) c.self.view_is
    (wide_gain c.self.inside.tuples.width c.self.inside.marks.items c.self.inside.tuples.rows
    c.laws.ensures.wide)
