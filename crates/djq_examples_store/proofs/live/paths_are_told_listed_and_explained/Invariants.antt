-- The counters stand on the ledgers that the blanks are of.
use Rattle.djq_examples_store.proofs.live.paths_are_told_listed_and_explained.Given as goal

abbrev pub ghosts-see : goal.ghosts-see
ghosts-see g a =
    record {
      listing = a.blanks.listing.name;
      update = a.blanks.update.name;
      rows = a.blanks.rows.name;
    }
