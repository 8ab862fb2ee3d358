-- The counters stand on the ledgers that the blanks are of.
use Rattle.djq_examples_store.proofs.union.gives_each_once_of_three_members.Given as goal

abbrev pub ghosts-each_agrees : goal.ghosts-each_agrees
ghosts-each_agrees g a = record {
  listing = a.blanks.listing.name;
  update = a.blanks.update.name;
  rows = a.blanks.rows.name;
}
