-- The entries of the table that is read are the node's.
use Rattle.std.proofs.Common.{◌≡◌, MatchOption}
use Rattle.djq_index.specs.Entries.{count_of}
use Rattle.djq_index.specs.Table.{IsAt}
use Rattle.djq_propagate.proofs.Families.{is_read, of_read}
use Rattle.djq_propagate.proofs.tables.find_at.Goals as goal

pub returns-clause-found : goal.returns-clause-found
returns-clause-found g c = of_read
    (λ es. MatchOption c.find.result (count_of es c.args.tuple.now ≡ 0) (λ p. IsAt es p c.args.tuple.now))
    (is_read c.args.tables.now.items c.args.at c.index.result.now c.requires c.index.ensures) c.find.ensures.found
