use Rattle.djq_examples_tables.proofs.propagate.keeps_reducts.Given as goal

abbrev pub ghosts-on_ledgers : goal.ghosts-on_ledgers
ghosts-on_ledgers g a = record
    { listing = a.blanks.listing.name; update = a.blanks.update.name; rows = a.blanks.rows.name }
