use Rattle.djq_examples_tables.proofs.transaction.seen.Given as goal

abbrev pub ghosts-on_ledgers : goal.ghosts-on_ledgers
ghosts-on_ledgers a = record {
  listing = a.blanks.listing.name;
  update = a.blanks.update.name;
  rows = a.blanks.rows.name;
}
