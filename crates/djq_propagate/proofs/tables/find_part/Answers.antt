-- By a key of one column a tuple's part is the one cell there.
use Rattle.std.proofs.Common.{◌≡◌, ℕ, List, MatchOption, subst}
use Rattle.djq_index.specs.Entries.{count_of}
use Rattle.djq_index.specs.Table.{IsAt}
use Rattle.djq_reduct.specs.Tables.{entries_at, key_at}
use Rattle.djq_propagate.proofs.Families.{part_one}
use Rattle.djq_propagate.proofs.tables.find_part.Goals as goal

pub returns-in-Some-clause-found : goal.returns-in-Some-clause-found
returns-in-Some-clause-found g c =
    subst
    (λ (w : List ℕ). MatchOption c.find_at.result (count_of (entries_at c.args.tables.now.items c.args.to) w ≡ 0)
    (λ p. IsAt (entries_at c.args.tables.now.items c.args.to) p w))
    (part_one (key_at c.args.tables.now.items c.args.at) c.in-Some.column c.args.tuple.now c.in-Some.ensures.key)
    c.find_at.ensures.found
