-- The counters stand on the ledgers that the blanks are of.
use Rattle.djq.proofs.main.Given as goal

abbrev pub ghosts-start-L-Ledgers : goal.ghosts-start-L-Ledgers
ghosts-start-L-Ledgers a = record { listing = a.blanks.listing.name; update = a.blanks.update.name; rows = a.blanks.rows.name }
