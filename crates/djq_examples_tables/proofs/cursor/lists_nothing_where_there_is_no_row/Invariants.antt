-- The counters stand on the ledgers that the blanks are of.
use Rattle.djq_examples_tables.proofs.cursor.lists_nothing_where_there_is_no_row.Given as goal

abbrev pub ghosts-asked : goal.ghosts-asked
ghosts-asked g a =
    record {
      listing = a.blanks.listing.name;
      update = a.blanks.update.name;
      rows =
          a.blanks.rows.name;
    }
