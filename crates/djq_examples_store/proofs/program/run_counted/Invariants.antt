-- The counters stand on the ledgers that the blanks are of.
use Rattle.djq_examples_store.proofs.program.run_counted.Given as goal

abbrev pub ghosts-counted : goal.ghosts-counted
ghosts-counted g a = record
    { listing = a.blanks.listing.name; update = a.blanks.update.name; rows = a.blanks.rows.name }
