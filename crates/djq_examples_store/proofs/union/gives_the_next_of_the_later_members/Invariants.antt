-- The counters stand on the ledgers that the blanks are of.
use Rattle.djq_examples_store.proofs.union.gives_the_next_of_the_later_members.Given as goal

abbrev pub ghosts-told : goal.ghosts-told
ghosts-told g a = record {
  listing = a.blanks.listing.name;
  update = a.blanks.update.name;
  rows = a.blanks.rows.name;
}
