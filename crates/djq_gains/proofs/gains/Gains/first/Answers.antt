-- The tuples lie in the slots of the arena's rows, in the same order.
use Rattle.std.proofs.Common.{ℕ, List, ap, sym, ◌∙◌}
use Rattle.djq_arena.specs.Chains.{first_of}
use Rattle.djq_gains.specs.Gathered.{Gathered, slots_in}
use Rattle.djq_gains.proofs.DeltaTuples.{slots_are}
use Rattle.djq_gains.proofs.gains.Gains.first.Goals as goal

pub returns : goal.returns
returns c =
    c.first.ensures
    ∙ ap (λ (ns : List ℕ). first_of ns) (sym (slots_are c.self.inside.marks.items c.self.inside.tuples.rows))
    ∙ ap (λ (g : Gathered). first_of (slots_in g.gains)) c.self.view_is
