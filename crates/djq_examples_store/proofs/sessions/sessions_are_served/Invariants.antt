-- The counters stand on the ledgers that the blanks are of.
use Rattle.djq_examples_store.proofs.sessions.sessions_are_served.Given as goal

abbrev pub ghosts-first_wrong : goal.ghosts-first_wrong
ghosts-first_wrong g a = record
    { listing = a.blanks.listing.name; update = a.blanks.update.name; rows = a.blanks.rows.name }
