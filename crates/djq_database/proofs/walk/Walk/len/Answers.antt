-- The entries left are the last of all, as many as the walk says, which are no more than there are.
use Rattle.std.proofs.Common.{◌∙◌, ap, sym, List, ℕ, length}
use Rattle.djq_database.proofs.Entries.{left_long}
use Rattle.djq_database.proofs.walk.Walk.len.Goals as goal

pub returns : goal.returns
returns c = sym (left_long c.self.inside.rows.now c.self.inside.left c.self.invariant.within) ∙ ap
    (λ (l : List (List ℕ)). length l) c.self.view_is
